-- What a session promises over a disk that stands for one state, and what an open then finds.
use Rattle.std.proofs.Common.{◌≡◌, ◌⊎◌, ◌∙◌, ℕ, List, Bool, false, Option, Some, None, inl, inr, refl, sym, subst}
use Rattle.board_model.specs.{Durable.{DurableState, Change, after, fold, refusal_of}, Shapes.Size, declared.boot_mode.BootMode.BootMode}
use Rattle.board_model.specs.declared.durable.Entry.{Entry}
use Rattle.disk.specs.Facts.{Facts, IsLeft, Failed}
use Rattle.store.specs.{Leaves.Leaves, Standing.StandsFor}
use Rattle.board.specs.{Begins.IsBegun, Moments.commands_by, Unbooted.LeavesLife}
use Rattle.machine.specs.Machine.{Machine}
use Rattle.hart_threads.specs.{Doubts.IsDoubtOf, Heard.Hearing, declared.ends.HartEnd.HartEnd}
use Rattle.board_session.specs.{Commands.party, Dialogues.{DialogueEnds, Written, dialogue_ends}, declared.talks.Left.Left}
use Rattle.board_session.specs.Sessions.{Begins, IsOfLife, TalksIf, LeftBefore, RanOver, said_since}
use Rattle.theorem.{specs.Sessions.{FindsSession, KeepsJournal}, proofs.PowerLost.OneStanding}

-- of a life that began in s, with that board: its disk, and what was read and answered
abbrev pub IsSession : Size → DurableState → BootMode → List (List ℕ) → Facts → Facts → List ℕ → Option Left → DialogueEnds → Option (List ℕ) → Written → Hearing → Type 0
IsSession size s mode payloads old disk moments left a input output heard =
    (machine : Machine) × IsBegun mode size payloads s machine × (console : List (ℕ × Entry)) × IsOfLife size s (commands_by mode s) old.failures (LeftBefore false old size s (commands_by mode s)) old.moment moments console heard.doubt disk
    × TalksIf s (commands_by mode s) left a (dialogue_ends input output (party console heard))

module _ (one : OneStanding) (new : Bool) (shape : Size) (mode : BootMode) (payloads : List (List ℕ)) (turns : ℕ) (old disk : Facts) (moments : List ℕ) (left : Option Left) (a : DialogueEnds) (input : Option (List ℕ)) (output : Written) (heard : Hearing) (ends : List HartEnd) where
  over : RanOver new shape mode payloads turns old disk moments left a input output heard ends → (size : Size) (s : DurableState) → new ≡ false → StandsFor old.content size s → IsSession size s mode payloads old disk moments left a input output heard
  over ran size s is stands =
      let begins : Begins false shape old.content ran.size ran.found = subst (λ (n : Bool). Begins n shape old.content ran.size ran.found) is ran.begins in
      let same = one old.content ran.size size ran.found s begins stands in
      let P : Size → DurableState → Type 0 = λ z t. IsSession z t mode payloads old disk moments left a input output heard in
      let issued = commands_by mode ran.found in
      let Life : Bool → Type 0 = λ b. IsOfLife ran.size ran.found issued old.failures (LeftBefore b old ran.size ran.found issued) (said_since b old) moments ran.console heard.doubt disk in
      let life : Life false = subst Life is ran.life in
      subst (λ (t : DurableState). P size t) same.1 (subst (λ (z : Size). P z ran.found) same.0 (ran.machine, ran.powered, ran.console, life, ran.talks))

  pub begun : (R S : Type 0) → (R × (left ≡ None)) ⊎ (RanOver new shape mode payloads turns old disk moments left a input output heard ends × S) → (left ≡ None → ⊥) → (size : Size) (s : DurableState) → new ≡ false → StandsFor old.content size s
      → IsSession size s mode payloads old disk moments left a input output heard
  begun R S (inl refused) some size s is stands = absurd (some refused.1)
  begun R S (inr ran) some size s is stands = over ran.0 size s is stands

-- what it keeps, and what was read and answered
abbrev pub IsKept : Size → DurableState → BootMode → Facts → Facts → List ℕ → Option Left → DialogueEnds → Option (List ℕ) → Written → Hearing → Type 0
IsKept size s mode old disk moments left a input output heard =
    (kept : KeepsJournal size s (commands_by mode s) old disk moments heard) × TalksIf s (commands_by mode s) left a (dialogue_ends input output (party kept.console heard))

pub keeps : (size : Size) (s : DurableState) (mode : BootMode) (payloads : List (List ℕ)) (old disk : Facts) (moments : List ℕ) (left : Option Left) (a : DialogueEnds) (input : Option (List ℕ)) (output : Written) (heard : Hearing)
    → IsSession size s mode payloads old disk moments left a input output heard → IsKept size s mode old disk moments left a input output heard
keeps size s mode payloads old disk moments left a input output heard session = (record { console = session.2; life = session.3 }, session.4)

-- what a crash left of that disk stands for
read_after : (doubt : Option Change) (disk given : Facts) (size z : Size) (t found : DurableState) → LeavesLife doubt disk size t → IsLeft disk given → StandsFor given.content z found
    → (found ≡ t) ⊎ ((c : Change) × (doubt ≡ Some c) × (found ≡ after t c))
unfolding Leaves
read_after None disk given size z t found only gone reads = inl (only.only z found (given.content, gone.left, reads)).1
read_after (Some c) disk given size z t found only gone reads =
    elim ((only.only z found (given.content, gone.left, reads)).1) [
      | inl is ↦ inl is
      | inr is ↦ inr (c, refl, is)
    ]

finds : (size z : Size) (s found : DurableState) (mode : BootMode) (payloads : List (List ℕ)) (old : Facts) (next : ℕ) (disk given : Facts) (moments : List ℕ) (left : Option Left) (a : DialogueEnds) (input : Option (List ℕ)) (output : Written) (heard : Hearing) → IsSession size s mode payloads old disk moments left a input output heard
    → IsLeft disk given → StandsFor given.content z found → next ≡ given.failures → FindsSession size s mode old.failures next left a input output heard found
finds size z s found mode payloads old next disk given moments left a input output heard session gone reads counts =
    let life = session.3 in record {
      journal = life.journal;
      console = session.2;
      acknowledged = life.acknowledged;
      taken = life.taken;
      talks = session.4;
      is = by (read_after life.doubt disk given size z (fold s life.journal) found life.leaves gone reads);
    }
  where
    by : (found ≡ fold s session.3.journal) ⊎ ((c : Change) × (session.3.doubt ≡ Some c) × (found ≡ after (fold s session.3.journal) c))
        → (found ≡ fold s session.3.journal) ⊎ ((c : Change) × (refusal_of (fold s session.3.journal) c ≡ None) × Failed old.failures next × IsDoubtOf size (Some c) heard.doubt × (found ≡ after (fold s session.3.journal) c))
    by (inl is) = inl is
    by (inr (c, doubt, is)) = inr (
      c,
      session.3.allowed c doubt,
      subst (λ (n : ℕ). Failed old.failures n) (sym (counts ∙ gone.failures)) (session.3.failed c doubt),
      subst (λ (o : Option Change). IsDoubtOf size o heard.doubt) doubt session.3.asked,
      is,
    )

-- and what the next open finds then
pub left_by : (one : OneStanding) (new : Bool) (shape : Size) (mode : BootMode) (payloads : List (List ℕ)) (turns : ℕ) (old disk : Facts) (moments : List ℕ) (left : Option Left) (a : DialogueEnds) (input : Option (List ℕ)) (output : Written) (heard : Hearing) (ends : List HartEnd)
    → (R S : Type 0) → (R × (left ≡ None)) ⊎ (RanOver new shape mode payloads turns old disk moments left a input output heard ends × S) → (left ≡ None → ⊥) → (size : Size) (s : DurableState) → new ≡ false → StandsFor old.content size s
    → (z : Size) (found : DurableState) (given : Facts) (next : ℕ) → IsLeft disk given → StandsFor given.content z found → next ≡ given.failures → FindsSession size s mode old.failures next left a input output heard found
left_by one new shape mode payloads turns old disk moments left a input output heard ends R S ended some size s is stands z found given next gone reads counts =
    finds size z s found mode payloads old next disk given moments left a input output heard
    (begun one new shape mode payloads turns old disk moments left a input output heard ends R S ended some size s is stands) gone reads counts
