-- The entry of a hart, once what was pending for it is taken. Source: docs/SBI.md, "What a hart finds in its registers".
use Rattle.std.specs.Prelude.{◌≡◌, ℕ}
use Rattle.hsm.specs.Calls.{EntersAs, FindsNone}
use Rattle.hsm.specs.Views.{listed}
use Rattle.hsm.specs.States.{started}
use Rattle.sbi_calls.specs.declared.tables.Seats.{Seats}
use Rattle.sbi_calls.specs.Both.{Known, TableState, IsTable}
use Rattle.sbi_calls.specs.Answers.{with_state}
use Rattle.turns.specs.declared.readies.Ready.{Ready}
use Rattle.turns.specs.declared.readies.Ready.TheVariants as readies
use Rattle.turns.specs.Own.{places_of}
use Rattle.turns.specs.Turns.{turn_begun, IsOutside}

-- the hart finds no start that is armed for it, or enters by it, and notes what it had done to pending interrupts
abbrev pub EntersTaken : ℕ → Known → Known → Ready → Type 0
EntersTaken by k k' readies.Idle = FindsNone by k.harts k'.harts × (k'.pairs ≡ k.pairs)
EntersTaken by k k' (readies.Enters a o) = EntersAs by k.harts a o (places_of by k.pairs) k'.harts × (k'.pairs ≡ k.pairs)
EntersTaken by k k' readies.Woke = ⊥
EntersTaken by k k' (readies.Steps pending) = ⊥

-- with the one seat of all harts
abbrev pub EntersTakenAlone : ℕ → ℕ → Seats → Seats → Ready → Type 0
EntersTakenAlone harts by s s' ready =
    (t : TableState) → IsTable harts s t → IsOutside (listed t.states by)
    → (ready ≡ (turn_begun by t).ready) × IsTable harts s' (with_state t by started)
