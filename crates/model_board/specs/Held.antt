-- A durable call of the model board, where the store acknowledges what it is asked, or refuses it. It is what `HeldIn` of
-- crate sbi says, with that in place of the store. Source: SBI specification 2.0, chapters 10 and 13; docs/SBI.md.
use Rattle.std.specs.Prelude.{◌≡◌, ◌⊎◌, ℕ, Bool, true, false, slice_set, Some, Result, Ok, Err}
use Rattle.board_model.specs.Shapes.{IsValidAddress}
use Rattle.board_model.specs.declared.durable.Reason.{Reason}
use Rattle.hart.specs.State.{ArchState, answered}
use Rattle.hsm.specs.Views.{listed}
use Rattle.sbi_abi.specs.Answers.{error_of}
use Rattle.sbi_abi.specs.declared.call.Call.{Call}
use Rattle.sbi_abi.specs.declared.call.Call.TheVariants as calls
use Rattle.sbi_abi.specs.declared.ret.SbiError.{SbiError}
use Rattle.sbi_abi.specs.declared.ret.SbiError.TheVariants.{Failed, NotSupported, Denied}
use Rattle.sbi.specs.Resets.{reset_of}
use Rattle.sbi.specs.declared.resets.ResetType.{ResetType}
use Rattle.sbi.specs.declared.resets.ResetType.TheVariants.{Shutdown, ColdReboot}
use Rattle.susp.specs.Checks.{IsChecked, to_disk}
use Rattle.susp.specs.Dozes.{dozing}
use Rattle.susp.specs.Sleeps.{AreStopped}
use Rattle.susp.specs.declared.sleeps.Sleep.{Sleep}
use Rattle.susp.specs.declared.sleeps.Sleep.TheVariants.{ToRam, ToDisk}
use Rattle.machine.specs.Machine.{Machine, hart_at}
use Rattle.model_board.specs.Boards.{Standing, Life, Board, On, Off, Ended, image_of}

abbrev pub with_hart : ℕ → Machine → ArchState → Machine
with_hart h m s = record m { harts = slice_set m.harts h s }

-- the hart finds the error, and the life goes on
abbrev pub refused : SbiError → ℕ → Life → Board
refused e h l =
    On (record l { machine = with_hart h l.machine (answered (hart_at l.machine h) (error_of (Err e)) 0) })

-- ---- a reset
abbrev pub after_reset : ResetType → Standing → Board
after_reset Shutdown s = Ended s
after_reset ColdReboot s = Off s

abbrev pub reset_by : Bool → ℕ → Life → Result (ResetType × Reason) SbiError → Board
reset_by granted h l (Err e) = refused e h l
reset_by true h l (Ok reset) = after_reset reset.0 (record l.stands { reason = reset.1 })
reset_by false h l (Ok reset) = refused Failed h l

-- ---- a suspend, once its arguments are checked and every other hart is STOPPED
abbrev pub slept_by : Bool → Sleep → ℕ → ℕ → ℕ → Life → Board
slept_by granted ToRam site opaque h l =
    On (record l { machine = record l.machine { doze = Some (dozing h site opaque) } })
slept_by true ToDisk site opaque h l =
    Off (record l.stands { image = Some (image_of h site opaque l.machine.memory) })
slept_by false ToDisk site opaque h l = refused Failed h l

-- every hart but h is STOPPED
abbrev pub IsAlone : ℕ → Machine → Type 0
IsAlone h m = AreStopped m.size.harts h (listed m.table.states)

abbrev pub SleptBy : Bool → ℕ → Life → Result (Sleep × ℕ) SbiError → ℕ → Board → Type 0
SleptBy granted h l (Err e) opaque c = c ≡ refused e h l
SleptBy granted h l (Ok asked) opaque c =
    ((IsAlone h l.machine → ⊥) × (c ≡ refused Denied h l))
    ⊎ (IsAlone h l.machine × (c ≡ slept_by granted asked.0 asked.1 opaque h l))

abbrev pub Sleeps : Bool → ℕ → Life → ℕ → ℕ → ℕ → Board → Type 0
Sleeps granted h l kind address opaque c =
    (asked : Result (Sleep × ℕ) SbiError) × IsChecked l.machine.size kind address asked
    × SleptBy granted h l asked opaque c

-- ---- the call at which hart h stands
abbrev pub HeldBy : Bool → ℕ → Life → Call → Board → Type 0
HeldBy granted h l (calls.SystemReset kind reason) c = c ≡ reset_by granted h l (reset_of kind reason)
HeldBy granted h l (calls.SystemSuspend kind address opaque) c = Sleeps granted h l kind address opaque c
HeldBy granted h l call c = c ≡ refused NotSupported h l

-- and whether it asks the store at all
abbrev pub AsksStore : ℕ → Machine → Call → Type 0
AsksStore h m (calls.SystemReset kind reason) =
    (reset : ResetType × Reason) × (reset_of kind reason ≡ Ok reset)
AsksStore h m (calls.SystemSuspend kind address opaque) =
    (kind ≡ to_disk) × IsValidAddress m.size address × IsAlone h m
AsksStore h m call = ⊥
