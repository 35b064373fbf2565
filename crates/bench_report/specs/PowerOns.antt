-- What a format and a power-on answer, and the bench after them. Source: docs/BOARD.md, "Power on".
use Rattle.std.specs.Prelude.{◌≡◌, ◌≢◌, ℕ, ◌⊎◌, ⊤, List, [], Option, Some, None, is_some, if◌then◌else◌, Result, Ok, Err}
use Rattle.board_model.specs.Durable.{DurableState, Change, IsWhole}
use Rattle.board_model.specs.Kept.{MayKeep, found_of}
use Rattle.board_model.specs.Shapes.{Size}
use Rattle.board_model.specs.Views.{durable_of}
use Rattle.board_model.specs.declared.durable.Durable.{Durable}
use Rattle.board_model.specs.declared.boot_mode.BootMode.{BootMode}
use Rattle.board_model.specs.declared.boot_mode.BootMode.TheVariants as modes
use Rattle.board.specs.Boots.{boot_refusal, PayloadsFit}
use Rattle.board.specs.Begins.{IsBegun}
use Rattle.board.specs.Moments.{commands_by}
use Rattle.machine.specs.Machine.{Machine, resting}
use Rattle.report_lines.specs.declared.printed.Printed.{Printed}
use Rattle.report_lines.specs.declared.printed.Printed.TheVariants as printed
use Rattle.report_lines.specs.declared.printed.Answer.{Answer}
use Rattle.bench_report.specs.Bench.{DiskState, Blank, Unknown, Formatted, BenchLife, Bench}
use Rattle.bench_report.specs.Happens.{says, out_of_memory, FailsByFault, off, on_with, unknown, formatted_anew, settled, has_machine}
use Rattle.bench_report.specs.Commands.{IssuesAll}

-- ---- format

abbrev pub FormatsOn : DiskState → Bench → Answer → Bench → Type 0
FormatsOn Blank b answer new =
    ((answer ≡ says printed.Formatted) × (new ≡ formatted_anew b))
    ⊎ ((answer ≡ says (printed.FormatRefused 5)) × FailsByFault (unknown b) new)
FormatsOn Unknown b answer new =
    ((answer ≡ says printed.Formatted) × (new ≡ formatted_anew b))
    ⊎ ((answer ≡ says (printed.FormatRefused 5)) × FailsByFault b new)
    ⊎ ((n : ℕ) × (n ≢ 5) × (answer ≡ says (printed.FormatRefused n)) × (new ≡ b))
FormatsOn Formatted b answer new =
    ((answer ≡ says (printed.FormatRefused 2)) × (new ≡ b))
    ⊎ ((answer ≡ says (printed.FormatRefused 5)) × FailsByFault b new)

-- ---- power on

-- the commands that a power-on by the mode issues where the open finds that state, the first of them first:
-- none where the state refuses the mode
abbrev pub commands_of : BootMode → DurableState → List Change
commands_of mode s = if is_some (boot_refusal s mode) then [] else commands_by mode s

-- a life that an open begins, before the boot
abbrev pub life_begun : DurableState → Size → BenchLife
life_begun s z = record { now = s; receipts = 0; doubt = None; machine = resting z 0 }

-- the boot by the mode of a board of that size, from the state found, once its commands were issued there
abbrev pub IsBooted : Result ℕ ℕ → BootMode → Size → DurableState → Bench → Printed → Bench → Type 0
IsBooted (Ok n) mode z s b line new =
    (life : BenchLife) × (b.power ≡ Some life) × (line ≡ printed.On mode) × (m : Machine)
    × IsBegun mode z b.payloads s m × (new ≡ on_with (has_machine m life) b)
IsBooted (Err n) mode z s b line new = (line ≡ printed.OnRefused n) × (new ≡ off b)

abbrev pub BootsFrom : BootMode → Size → DurableState → Bench → Printed → Bench → Type 0
BootsFrom mode z s b line new =
    (o : Result ℕ ℕ) × (mid : Bench) × IssuesAll (commands_by mode s) (on_with (life_begun s z) b) o mid
    × IsBooted o mode z s mid line new

-- The image is loaded and consumed, and the board goes on with it; a failure of the disk in the load is
-- reported as one that kept the command from the disk (5). Or the image has not the memory of its board.
abbrev pub Resumes : Size → DurableState → Bench → Printed → Bench → Type 0
Resumes z s b line new =
    BootsFrom modes.Resume z s b line new ⊎ ((IsWhole z s → ⊥) × (line ≡ printed.OnRefused 13) × (new ≡ b))

-- the boot by a mode that is allowed, once there is memory for the board
abbrev pub Begins : BootMode → Size → DurableState → Bench → Printed → Bench → Type 0
Begins modes.Fresh z s b line new = BootsFrom modes.Fresh z s b line new
Begins modes.Keep z s b line new = BootsFrom modes.Keep z s b line new
Begins modes.Discard z s b line new = BootsFrom modes.Discard z s b line new
Begins modes.Resume z s b line new = Resumes z s b line new

-- The boot after an open that found a state, by the number with which that refuses the mode. It is refused 3 just where a
-- payload, of whatever slot, is longer than RAM; there may be no memory.
abbrev pub Boots : Option ℕ → BootMode → Size → DurableState → Bench → Printed → Bench → Type 0
Boots (Some n) mode z s b line new = (line ≡ printed.OnRefused n) × (new ≡ b)
Boots None mode z s b line new =
    (PayloadsFit z b.payloads × Begins mode z s b line new)
    ⊎ ((PayloadsFit z b.payloads → ⊥) × (line ≡ printed.OnRefused 3) × (new ≡ b))
    ⊎ (PayloadsFit z b.payloads × (line ≡ printed.OnRefused 11) × (new ≡ out_of_memory b))

-- an open that succeeds finds this state, and its board is of that size: a command in doubt is settled
abbrev pub Opens : Size → DiskState → Bench → DurableState → Size → Bench → Type 0
Opens size Blank b s z new = ⊥
Opens size Unknown b s z new = new ≡ b
Opens size Formatted b s z new =
    (changes : List Change) × MayKeep b.kept changes × (s ≡ found_of changes) × (z ≡ size) × (new ≡ settled changes b)

-- the found line shows the state
abbrev pub ShowsFound : Option Durable → DurableState → Type 0
ShowsFound None s = ⊥
ShowsFound (Some d) s = d ≡ durable_of s

-- the numbers by which an open is refused where neither the disk failed nor memory was refused
abbrev pub IsOpenRefusal : DiskState → ℕ → Type 0
IsOpenRefusal Blank n = n ≡ 1
IsOpenRefusal Unknown n = (n ≢ 5) × (n ≢ 11)
IsOpenRefusal Formatted n = ⊥

-- an open may find a state, for which there may be no memory: never on a disk that was not formatted
abbrev pub MayStand : DiskState → Type 0
MayStand Blank = ⊥
MayStand Unknown = ⊤
MayStand Formatted = ⊤

-- power on, with the board off, of a script whose board is of that size
abbrev pub PowersOn : Size → BootMode → Bench → Answer → Bench → Type 0
PowersOn size mode b answer new =
    ((s : DurableState) × (z : Size) × (mid : Bench) × Opens size b.disk_state b s z mid
    × ShowsFound answer.found s × Boots (boot_refusal s mode) mode z s mid answer.line new)
    ⊎ ((n : ℕ) × IsOpenRefusal b.disk_state n × (answer ≡ says (printed.OnRefused n)) × (new ≡ b))
    ⊎ (MayStand b.disk_state × (answer ≡ says (printed.OnRefused 11)) × (new ≡ out_of_memory b))
    ⊎ ((answer ≡ says (printed.OnRefused 5)) × FailsByFault b new)

-- the state that a power-on left, where its open found one: the one after the commands kept then, without one in
-- doubt
abbrev pub TellsNow : Option Durable → Option Durable → Bench → Type 0
TellsNow None now new = ⊤
TellsNow (Some found) None new = ⊥
TellsNow (Some found) (Some now) new = new.disk_state ≡ Formatted → now ≡ durable_of (found_of new.kept.changes)
