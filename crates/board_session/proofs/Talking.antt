-- Lines and answers, one after another.
use Rattle.std.proofs.Common.{◌≡◌, ◌∙◌, ℕ, zero, suc, Bool, true, false, List, [], ◌∷◌, length, not, ◌==◌, Option, Some, None, Result, Ok, Err, arith, refl, sym, ap, subst, inl, inr}
use Rattle.std.proofs.lemmas.Bool.Decides.{nat_tests}
use Rattle.board_model.specs.{Durable.{Change, DurableState}, ConsoleCommands.command_of, declared.refusal.Refusal.Refusal}
use Rattle.board_model.specs.declared.console_command.ConsoleCommand.{ConsoleCommand}
use Rattle.board_session.specs.declared.{lines.LineEnd.LineEnd, words.Said.Said, reply.Reply.Reply, talks.Left.Left}
use Rattle.board_session.specs.Commands.{HoldsReceipt, IsAnswerTo, Party, command_answer, party_after}
use Rattle.board_session.specs.Dialogues.{DialogueEnds, Obeyed, Exchanged, HasNone, Leaves, TalksOn, Talks, left_after, left_before, left_before_if, left_behind}
use Rattle.board_session.specs.Lines.{TakesLine, is_line, line_meaning}
use Rattle.board_session.specs.declared.lines.LineEnd.TheVariants as line_ends
use Rattle.board_session.specs.declared.words.Said.TheVariants as saids
use Rattle.board_session.specs.declared.talks.Left.TheVariants as lefts

module _ (found : DurableState) (issued : List Change) where
  -- so far none of the lines said `quit`, and the input failed in none
  pub record Talking (a b : DialogueEnds) : Type 0 where
    pub lines : ℕ
    pub talks : TalksOn found issued lines a b

  pub none_yet : (a : DialogueEnds) → Talking a a
  none_yet a = record { lines = zero; talks = refl }

  -- what was kept is a line, where the console does not leave without one
  is_one : (b : Bool) (ended : LineEnd) (kept : List ℕ) → is_line ended kept ≡ b → left_before_if b ended ≡ None → is_line ended kept ≡ true
  is_one true ended kept is left = is
  is_one false line_ends.Feed kept is left = refl
  is_one false line_ends.EndOfInput kept is left = let no : ⊥ = cc in absurd no
  is_one false line_ends.Failure kept is left = let no : ⊥ = cc in absurd no

  -- one line more, as the code made it
  pub obeyed : (a b : DialogueEnds) (kept slice : List ℕ) (ended : LineEnd) (said : Said) (answer : Reply) → TakesLine a.input b.input kept ended → left_before ended kept ≡ None → slice ≡ kept → said ≡ line_meaning slice
      → IsAnswerTo found issued said answer a.party b.party → Obeyed found issued ended said answer a b
  obeyed a b kept slice ended said answer takes came same says fits =
      (kept, takes, is_one (is_line ended kept) ended kept refl came, says ∙ ap line_meaning same, fits)

  command_held : (command : ConsoleCommand) (r : Result ℕ Refusal) (newly : Bool) (answer : Reply) (old new : Party) → answer ≡ command_answer command r → new ≡ party_after newly (command_of command) r old → HoldsReceipt answer new.told
  command_held command (Ok n) newly answer old new is after = rw (is, after) (old.told, refl)
  command_held command (Err e) newly answer old new is after = rw is tt

  -- an `ok N` is answered with its receipt in the hand
  pub held : (said : Said) (answer : Reply) (old new : Party) → IsAnswerTo found issued said answer old new → HoldsReceipt answer new.told
  held (saids.Command command) answer old new (r, may, is, (newly, after)) = command_held command r newly answer old new is after
  held saids.State answer old new (d, may, is, after) = rw is tt
  held saids.Wake answer old new (heard, (r, may, is, on), after) = rw is tt
  held saids.Quit answer old new (is, same) = rw is tt
  held saids.Other answer old new (is, same) = rw is tt

  pub goes_on : (a mid b : DialogueEnds) (ended : LineEnd) (said : Said) → Talking a mid → Exchanged found issued ended said mid b → left_after ended said ≡ None → Talking a b
  goes_on a mid b ended said t e on = record { lines = suc t.lines; talks = (mid, ended, said, t.talks, e, on) }

  -- ---- how it leaves
  empty_if : (n : ℕ) → not (n == 0) ≡ false → n ≡ 0
  empty_if zero is = refl
  empty_if (suc n) is = let no : ⊥ = grind (arith, nat_tests) in absurd no

  nothing : (kept : List ℕ) → length kept ≡ 0 → kept ≡ []
  nothing [] is = refl
  nothing (b ∷ bs) is = absurd (omega (arith, is))

  none_came : (mid b : DialogueEnds) (kept : List ℕ) (ended : LineEnd) → TakesLine mid.input b.input kept ended → not (length kept == 0) ≡ false → b.output ≡ mid.output → b.party ≡ mid.party → HasNone ended mid b
  none_came mid b kept ended takes empty out party =
      (subst (λ (xs : List ℕ). TakesLine mid.input b.input xs ended) (nothing kept (empty_if (length kept) empty)) takes, out, party)

  without_end : (x : Bool) (mid b : DialogueEnds) (kept : List ℕ) (left : Left) → not (length kept == 0) ≡ x → TakesLine mid.input b.input kept line_ends.EndOfInput → left_before_if x line_ends.EndOfInput ≡ Some left
      → b.output ≡ mid.output → b.party ≡ mid.party → Leaves found issued left mid b
  without_end true mid b kept left is takes leaves out party = let no : ⊥ = cc in absurd no
  without_end false mid b kept left is takes leaves out party =
      let which : lefts.EndOfInput ≡ left = cc in
      subst (λ (x : Left). Leaves found issued x mid b) which (none_came mid b kept line_ends.EndOfInput takes is out party)

  without_failure : (x : Bool) (mid b : DialogueEnds) (kept : List ℕ) (left : Left) → not (length kept == 0) ≡ x → TakesLine mid.input b.input kept line_ends.Failure → left_before_if x line_ends.Failure ≡ Some left
      → b.output ≡ mid.output → b.party ≡ mid.party → Leaves found issued left mid b
  without_failure true mid b kept left is takes leaves out party = let no : ⊥ = cc in absurd no
  without_failure false mid b kept left is takes leaves out party =
      let which : lefts.InputFailed ≡ left = cc in
      subst (λ (x : Left). Leaves found issued x mid b) which (inl (none_came mid b kept line_ends.Failure takes is out party))

  without : (mid b : DialogueEnds) (kept : List ℕ) (ended : LineEnd) (left : Left) → TakesLine mid.input b.input kept ended → left_before ended kept ≡ Some left → b.output ≡ mid.output → b.party ≡ mid.party → Leaves found issued left mid b
  without mid b kept line_ends.Feed left takes leaves out party = let no : ⊥ = cc in absurd no
  without mid b kept line_ends.EndOfInput left takes leaves out party = without_end (not (length kept == 0)) mid b kept left refl takes leaves out party
  without mid b kept line_ends.Failure left takes leaves out party = without_failure (not (length kept == 0)) mid b kept left refl takes leaves out party

  pub has_none : (a mid b : DialogueEnds) (kept : List ℕ) (ended : LineEnd) (left : Left) → Talking a mid → TakesLine mid.input b.input kept ended → left_before ended kept ≡ Some left → b.output ≡ mid.output → b.party ≡ mid.party
      → Talks found issued left a b
  has_none a mid b kept ended left t takes leaves out party = (t.lines, mid, t.talks, without mid b kept ended left takes leaves out party)

  behind : (mid b : DialogueEnds) (ended : LineEnd) (said : Said) (left : Left) → Exchanged found issued ended said mid b → left_after ended said ≡ Some left → left_behind ended ≡ Some left → Leaves found issued left mid b
  behind mid b line_ends.Feed said left e leaves is = let no : ⊥ = cc in absurd no
  behind mid b line_ends.EndOfInput said left e leaves is = let no : ⊥ = cc in absurd no
  behind mid b line_ends.Failure said left e leaves is =
      let which : lefts.InputFailed ≡ left = cc in
      subst (λ (x : Left). Leaves found issued x mid b) which (inr (line_ends.Failure, said, e, leaves ∙ ap (λ (x : Left). let o : Option Left = Some x in o) (sym which)))

  after_line : (mid b : DialogueEnds) (ended : LineEnd) (said : Said) (left : Left) → Exchanged found issued ended said mid b → left_after ended said ≡ Some left → Leaves found issued left mid b
  after_line mid b ended (saids.Command command) left e leaves = behind mid b ended (saids.Command command) left e leaves leaves
  after_line mid b ended saids.State left e leaves = behind mid b ended saids.State left e leaves leaves
  after_line mid b ended saids.Wake left e leaves = behind mid b ended saids.Wake left e leaves leaves
  after_line mid b ended saids.Quit left e leaves =
      let which : lefts.Quit ≡ left = cc in
      subst (λ (x : Left). Leaves found issued x mid b) which (ended, saids.Quit, e, refl)
  after_line mid b ended saids.Other left e leaves = behind mid b ended saids.Other left e leaves leaves

  pub leaves_after : (a mid b : DialogueEnds) (ended : LineEnd) (said : Said) (left : Left) → Talking a mid → Exchanged found issued ended said mid b → left_after ended said ≡ Some left → Talks found issued left a b
  leaves_after a mid b ended said left t e leaves = (t.lines, mid, t.talks, after_line mid b ended said left e leaves)

  pub unwritten : (a mid b : DialogueEnds) (ended : LineEnd) (said : Said) (answer : Reply) → Talking a mid → Obeyed found issued ended said answer mid b → Talks found issued lefts.Unwritten a b
  unwritten a mid b ended said answer t e = (t.lines, mid, t.talks, (ended, said, answer, e))

-- a line came
pub none_left : (ended : LineEnd) (kept held : List ℕ) (left : Option Left) → held ≡ kept → left ≡ left_before ended held → left ≡ None → left_before ended kept ≡ None
none_left ended kept held left same is none = ap (λ (xs : List ℕ). left_before ended xs) (sym same) ∙ (sym is ∙ none)

-- why it leaves once it has answered
pub left_as : (left : Option Left) (ended : LineEnd) (said : Said) (why : Option Left) → left ≡ left_after ended said → left ≡ why → left_after ended said ≡ why
left_as left ended said why is told = sym is ∙ told
