-- Laws of the table of answers, in the words of the calls. Source: SBI specification 2.0, chapters 7 and 9.
use Rattle.std.specs.Prelude.{◌≡◌, ◌⊎◌, ◌↔◌, ◌<◌, ℕ, Ok, Err}
use Rattle.board_model.specs.Shapes.{Size, IsValidAddress}
use Rattle.hsm.specs.States.{stopped}
use Rattle.hsm.specs.Views.{listed}
use Rattle.sbi_abi.specs.declared.call.Call.{Call}
use Rattle.sbi_abi.specs.declared.call.Call.TheVariants.{HartStart, HartStatus}
use Rattle.sbi_abi.specs.declared.ret.SbiError.{SbiError}
use Rattle.sbi_calls.specs.declared.endings.Ending.TheVariants.{Answers}
use Rattle.sbi_calls.specs.Both.{TableState}
use Rattle.sbi_calls.specs.Answers.{answer}

-- an error changes no state and no pending interrupt
abbrev pub ErrorsChangeNothing : Type 0
ErrorsChangeNothing =
    (size : Size) (by : ℕ) (call : Call) (t : TableState) (e : SbiError)
    → (answer size by call t).ending ≡ Answers (Err e) → (answer size by call t).table ≡ t

-- hart_start answers 0 exactly where the hart and the address are valid and the hart is STOPPED
abbrev pub StartsTheStopped : Type 0
StartsTheStopped = (size : Size) (by h a o : ℕ) (t : TableState)
    → (answer size by (HartStart h a o) t).ending ≡ Answers (Ok 0)
    ↔ ((h < size.harts) × IsValidAddress size a × (listed t.states h ≡ stopped))

-- hart_get_status answers 0, 1, 2 or 4, and changes nothing
abbrev pub StatusIsOne : Type 0
StatusIsOne =
    (size : Size) (by h v : ℕ) (t : TableState) → (answer size by (HartStatus h) t).ending ≡ Answers (Ok v)
    → (v ≡ 0) ⊎ ((v ≡ 1) ⊎ ((v ≡ 2) ⊎ (v ≡ 4)))
