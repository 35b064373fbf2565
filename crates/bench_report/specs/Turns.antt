-- Turns and calls of harts, with the durable call that each may make. Source: docs/BOARD.md; SBI
-- specification 2.0, chapters 10 and 13.
use Rattle.std.specs.Prelude.{◌≡◌, ℕ, zero, suc, ◌⊎◌, true, false, Some, Result, Ok, Err, slice_set}
use Rattle.board_model.specs.Durable.{Change, Reset, Suspend}
use Rattle.machine.specs.Machine.{Machine, hart_at}
use Rattle.machine.specs.Turns.{MakesTurn}
use Rattle.sbi.specs.Words.{ends, word_of_sleep}
use Rattle.sbi.specs.declared.words.LifeEnd.{LifeEnd}
use Rattle.sbi.specs.declared.words.LifeEnd.TheVariants as life_ends
use Rattle.sbi.specs.declared.words.Word.{Word}
use Rattle.sbi.specs.declared.words.Word.TheVariants as words
use Rattle.sbi_calls.specs.declared.words.Turned.{Turned}
use Rattle.sbi_calls.specs.declared.words.Turned.TheVariants.{Made, Durable}
use Rattle.sbi_calls.specs.declared.words.Did.TheVariants as dids
use Rattle.hart.specs.State.{answered}
use Rattle.sbi_abi.specs.Answers.{error_of}
use Rattle.sbi_abi.specs.Calls.{call_of}
use Rattle.sbi_abi.specs.declared.call.Call.{Call}
use Rattle.sbi_abi.specs.declared.call.Call.TheVariants as calls
use Rattle.sbi_abi.specs.declared.ret.SbiError.{SbiError}
use Rattle.sbi_abi.specs.declared.ret.SbiError.TheVariants.{Failed, NotSupported, Denied}
use Rattle.hsm.specs.Views.{listed}
use Rattle.store.specs.Follows.{FitsBoard}
use Rattle.susp.specs.Checks.{IsChecked}
use Rattle.susp.specs.Sleeps.{AreStopped}
use Rattle.susp.specs.Dozes.{dozing}
use Rattle.susp.specs.declared.sleeps.Sleep.{Sleep}
use Rattle.susp.specs.declared.sleeps.Sleep.TheVariants.{ToRam, ToDisk}
use Rattle.sbi.specs.declared.resets.ResetType.{ResetType}
use Rattle.sbi.specs.Resets.{reset_of}
use Rattle.board_model.specs.declared.durable.Reason.{Reason}
use Rattle.bench_report.specs.Bench.{BenchLife, Bench}
use Rattle.bench_report.specs.Happens.{out_of_memory, off, on_with, has_machine}
use Rattle.bench_report.specs.Commands.{Issued}

-- the hart is answered with the error, and goes on after its call
abbrev pub refused : ℕ → SbiError → BenchLife → BenchLife
refused h e life =
    has_machine (record life.machine {
      harts = slice_set life.machine.harts h (answered (hart_at life.machine h) (error_of (Err e)) 0);
    }) life

abbrev pub AnswersError : SbiError → ℕ → BenchLife → Bench → Word → Bench → Type 0
AnswersError e h life b word new = (word ≡ words.Goes dids.Next) × (new ≡ on_with (refused h e life) b)

-- the command of a hart, by its receipt or number: acknowledged, it ends the life as it says, and the board
-- is off; refused, it is answered -1
abbrev pub HartCommand : Result ℕ ℕ → LifeEnd → ℕ → Bench → Word → Bench → Type 0
HartCommand (Ok n) end h b word new = (word ≡ words.Over end) × (new ≡ off b)
HartCommand (Err n) end h b word new =
    (life : BenchLife) × (b.power ≡ Some life) × AnswersError Failed h life b word new

-- a reset, by what its arguments say
abbrev pub Resets : Result (ResetType × Reason) SbiError → ℕ → BenchLife → Bench → Word → Bench → Type 0
Resets (Err e) h life b word new = AnswersError e h life b word new
Resets (Ok reset) h life b word new =
    (o : Result ℕ ℕ) × (mid : Bench) × Issued (Reset reset.1) life b o mid
    × HartCommand o (life_ends.Reset reset.0) h mid word new

-- the command of a suspension, where it fits the board or not: as other commands; or it is refused because
-- memory ran out (11), or for what is not of the board (3)
abbrev pub SuspendIssued : Type 0 → Change → BenchLife → Bench → Result ℕ ℕ → Bench → Type 0
SuspendIssued Fits c life b o new =
    (Fits × Issued c life b o new)
    ⊎ (Fits × (o ≡ Err 11) × (new ≡ out_of_memory b))
    ⊎ ((Fits → ⊥) × (o ≡ Err 3) × (new ≡ b))

-- every hart but that one is STOPPED
abbrev pub IsAlone : ℕ → Machine → Type 0
IsAlone id m = AreStopped m.size.harts id (listed m.table.states)

-- the life whose board dozes by hart h, which is to begin again at that address with that value
abbrev pub dozes : ℕ → ℕ → ℕ → BenchLife → BenchLife
dozes h site opaque life =
    has_machine (record life.machine { doze = Some (dozing (hart_at life.machine h).id site opaque) }) life

-- To RAM the board dozes, the life goes on, and nothing is asked of the disk: whatever its store could take. To
-- disk the image has the memory of this moment.
abbrev pub BenchFallsAsleep : Sleep → ℕ → ℕ → ℕ → BenchLife → Bench → Word → Bench → Type 0
BenchFallsAsleep ToRam site opaque h life b word new =
    (word ≡ word_of_sleep ToRam) × (new ≡ on_with (dozes h site opaque life) b)
BenchFallsAsleep ToDisk site opaque h life b word new =
    (o : Result ℕ ℕ) × (mid : Bench)
    × SuspendIssued (FitsBoard life.machine.size life.machine.memory (hart_at life.machine h).id site)
    (Suspend (hart_at life.machine h).id site opaque life.machine.memory) life b o mid
    × HartCommand o life_ends.Asleep h mid word new

-- a suspension, whose arguments were checked: by a hart beside which another is not STOPPED it is denied
abbrev pub BenchSleeps : Sleep → ℕ → ℕ → ℕ → BenchLife → Bench → Word → Bench → Type 0
BenchSleeps sleep site opaque h life b word new =
    ((IsAlone (hart_at life.machine h).id life.machine → ⊥) × AnswersError Denied h life b word new)
    ⊎ (IsAlone (hart_at life.machine h).id life.machine × BenchFallsAsleep sleep site opaque h life b word new)

abbrev pub BenchSleepsBy : Result (Sleep × ℕ) SbiError → ℕ → ℕ → BenchLife → Bench → Word → Bench → Type 0
BenchSleepsBy (Err e) opaque h life b word new = AnswersError e h life b word new
BenchSleepsBy (Ok asked) opaque h life b word new = BenchSleeps asked.0 asked.1 opaque h life b word new

-- the durable call at which the hart stands
abbrev pub BenchMakesCall : Call → ℕ → BenchLife → Bench → Word → Bench → Type 0
BenchMakesCall (calls.SystemReset kind reason) h life b word new = Resets (reset_of kind reason) h life b word new
BenchMakesCall (calls.SystemSuspend kind address opaque) h life b word new =
    (asked : Result (Sleep × ℕ) SbiError) × IsChecked life.machine.size kind address asked
    × BenchSleepsBy asked opaque h life b word new
BenchMakesCall call h life b word new = AnswersError NotSupported h life b word new

-- What comes of a turn of hart h, once the life has the machine: it stands at a durable call, which is made; or
-- what it did is said of it.
abbrev pub ComesTo : Turned → ℕ → BenchLife → Bench → Word → Bench → Type 0
ComesTo Durable h life b word new = BenchMakesCall (call_of (hart_at life.machine h)) h life b word new
ComesTo (Made did) h life b word new = (word ≡ words.Goes did) × (new ≡ b)

abbrev pub GuestTurn : ℕ → BenchLife → Bench → Word → Bench → Type 0
GuestTurn h life b word new =
    (m : Machine) × (turned : Turned) × MakesTurn h life.machine m turned
    × ComesTo turned h (has_machine m life) (on_with (has_machine m life) b) word new

-- the turn is the last of its line, where `left` might follow: it ends the line, none is left, or a cut
-- struck in it
abbrev pub IsLastTurn : Word → ℕ → Bench → Type 0
IsLastTurn word left new = (ends word ≡ true) ⊎ (left ≡ 0) ⊎ (new.fault_state.struck ≡ true)

-- at most n turns of a hart: `made` were made, and the last has that word
abbrev pub GuestTurns : ℕ → ℕ → Bench → ℕ → Word → Bench → Type 0
GuestTurns h zero b made word new = ⊥
GuestTurns h (suc n) b made word new =
    (life : BenchLife) × (b.power ≡ Some life) × (said : Word) × (mid : Bench) × GuestTurn h life b said mid
    × ((IsLastTurn said n mid × (made ≡ 1) × (word ≡ said) × (new ≡ mid))
    ⊎ ((ends said ≡ false) × (mid.fault_state.struck ≡ false) × (rest : ℕ) × (made ≡ suc rest)
    × GuestTurns h n mid rest word new))
