-- Why a loop ended.
use Rattle.std.proofs.Common.{◌≡◌, ◌==◌, ◌&&◌, ℕ, Bool, true, List, Option, Some, None, IsTrue, arith, refl, sym, subst}
use Rattle.std.{proofs.lemmas.Bool.Decides.nat_tests, specs.{Option.option_to_list, Prelude.{IfSome, is_none, is_some}}}
use Rattle.board_model.specs.{Durable.Change, declared.durable.Entry.Entry}
use Rattle.tallies.specs.Books.{Each}
use Rattle.hart_threads.specs.{Called.IsLastOf, Ends.{EndsBy, IsClosedBy, over_of, receipt_by}, Over.IsLastEnd}
use Rattle.hart_threads.specs.Threads.{has_ended, ends_life, is_end}
use Rattle.hart_threads.specs.declared.loops.Why.{Why}
use Rattle.hart_threads.specs.declared.closing.AfterConsole.{AfterConsole}
use Rattle.hart_threads.specs.declared.loops.Why.TheVariants as whys

-- the command that is told of a loop that ended for that reason
abbrev pub TellsOver : AfterConsole → Bool → Option (ℕ × Entry) → Option (ℕ × Entry) → Why → Type 0
TellsOver parting shut told over whys.Life = over ≡ told
TellsOver parting shut told over whys.Closed = IsTrue shut → IsClosedBy parting over
TellsOver parting shut told over whys.Gate = over ≡ None
TellsOver parting shut told over whys.Turns = over ≡ None

-- the receipt of a command that ends a life
some_end : (told : Option (ℕ × Entry)) → IsTrue (is_some told) → ends_life told ≡ true → (t : ℕ × Entry) × (told ≡ Some t) × (is_end t.1 ≡ true)
some_end None some ends = let no : ⊥ = cc in absurd no
some_end (Some t) some ends = (t, refl, ends)

none_and : (told : Option (ℕ × Entry)) (b : Bool) → (is_none told && b) ≡ true → (told ≡ None) × (b ≡ true)
none_and None b is = (refl, is)
none_and (Some t) b is = let no : ⊥ = cc in absurd no

equal : (a b : ℕ) → (a == b) ≡ true → a ≡ b
equal a b is = grind (arith, nat_tests)

pub equals : (a b : ℕ) → a ≡ b → (a == b) ≡ true
equals a b is = grind (arith, nat_tests)

-- why it ended, and the receipt that it was told
told_by : (turns : ℕ) (gated : Bool) (parting : AfterConsole) (made : ℕ) (shut : Bool) (told over : Option (ℕ × Entry)) (why : Why) → has_ended turns gated made shut told why ≡ true → ends_life told ≡ true → TellsOver parting shut told over why
    → EndsBy turns gated parting made over why × (receipt_by why over ≡ told)
told_by turns gated parting made shut told over whys.Life has ends is =
    (subst (λ (o : Option (ℕ × Entry)). (t : ℕ × Entry) × (o ≡ Some t) × (is_end t.1 ≡ true)) (sym is) (some_end told has ends), is)
told_by turns gated parting made shut told over whys.Closed has ends is = let h = none_and told shut has in (is h.1, sym h.0)
told_by turns gated parting made shut told over whys.Gate has ends is = let h = none_and told gated has in ((h.1, is), sym h.0)
told_by turns gated parting made shut told over whys.Turns has ends is = let h = none_and told (made == turns) has in ((equal made turns h.1, is), sym h.0)

pub told_over : (turns : ℕ) (gated : Bool) (parting : AfterConsole) (made : ℕ) (shut : Bool) (told closed over : Option (ℕ × Entry)) (why : Why) → over ≡ over_of why told closed → has_ended turns gated made shut told why ≡ true → ends_life told ≡ true → (IsTrue shut → IsClosedBy parting closed)
    → EndsBy turns gated parting made over why × (receipt_by why over ≡ told)
told_over turns gated parting made shut told closed over why is has ends so =
    subst (λ (o : Option (ℕ × Entry)). EndsBy turns gated parting made o why × (receipt_by why o ≡ told)) (sym is)
    (told_by turns gated parting made shut told (over_of why told closed) why has ends (tells_so why))
  where
    tells_so : (why : Why) → TellsOver parting shut told (over_of why told closed) why
    tells_so whys.Life = refl
    tells_so whys.Closed = so
    tells_so whys.Gate = refl
    tells_so whys.Turns = refl

-- it is the journal's last: its own, of which it was told the receipt, or the one that closed it
pub over_last : (journal : List Change) (told closed : Option (ℕ × Entry)) (why : Why) → Each (IsLastEnd journal) (option_to_list told) → ends_life told ≡ true → IfSome closed (λ t. IsLastOf journal t.0 t.1) → IfSome (over_of why told closed) (λ t. IsLastOf journal t.0 t.1)
over_last journal None closed whys.Life own ends other = tt
over_last journal (Some t) closed whys.Life own ends other = own.0 ends
over_last journal told closed whys.Closed own ends other = other
over_last journal told closed whys.Gate own ends other = tt
over_last journal told closed whys.Turns own ends other = tt
