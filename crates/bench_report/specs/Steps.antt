-- What a line of a script may answer, and what the bench then is; whole runs. Source: docs/SCRIPT.md.
use Rattle.std.specs.Prelude.{◌≡◌, ℕ, ◌⊎◌, true, false, List, [], ◌∷◌, Option, Some, None, Result, Ok, Err}
use Rattle.board_model.specs.Shapes.{Size}
use Rattle.disk.specs.declared.device.ArmedFault.{ArmedFault}
use Rattle.board_model.specs.declared.boot_mode.BootMode.{BootMode}
use Rattle.machine.specs.Machine.{Machine, hart_at}
use Rattle.script_lang.specs.declared.line.Line.{Line}
use Rattle.machine.specs.Shows.{HasHart, own_line}
use Rattle.machine.specs.Turns.{MakesOneCall}
use Rattle.sbi.specs.declared.words.Word.{Word}
use Rattle.sbi.specs.declared.words.Word.TheVariants as words
use Rattle.sbi_calls.specs.declared.words.Turned.{Turned}
use Rattle.machine.specs.declared.line.MachineLine.{MachineLine}
use Rattle.machine.specs.declared.line.MachineLine.TheVariants as shown
use Rattle.board_model.specs.declared.console_command.ConsoleCommand.{ConsoleCommand}
use Rattle.board_model.specs.declared.call_words.CallWords.{CallWords}
use Rattle.board_model.specs.ConsoleCommands.{console_change}
use Rattle.report_lines.specs.declared.printed.Printed.TheVariants as printed
use Rattle.report_lines.specs.declared.printed.Answer.{Answer}
use Rattle.bench_report.specs.Bench.{BenchLife, Bench}
use Rattle.bench_report.specs.Deeds as deeds
use Rattle.bench_report.specs.Deeds.{Question, OfBoard, OfDisk, Deed, deed_of}
use Rattle.bench_report.specs.Happens.{says, shows, on_with, unpowered, armed_with, has_machine}
use Rattle.bench_report.specs.Looks.{IsShown}
use Rattle.bench_report.specs.Asides.{AsideStep}
use Rattle.bench_report.specs.Commands.{Issued}
use Rattle.bench_report.specs.Turns.{ComesTo, GuestTurns}
use Rattle.bench_report.specs.PowerOns.{FormatsOn, PowersOn}
use Rattle.bench_report.specs.Examined.{InspectStep}

abbrev pub FormatStep : Option BenchLife → Bench → Answer → Bench → Type 0
FormatStep (Some life) b answer new = (answer ≡ says printed.Busy) × (new ≡ b)
FormatStep None b answer new = FormatsOn b.disk_state b answer new

abbrev pub OnStep : Size → Option BenchLife → BootMode → Bench → Answer → Bench → Type 0
OnStep size (Some life) mode b answer new = (answer ≡ says printed.Busy) × (new ≡ b)
OnStep size None mode b answer new = PowersOn size mode b answer new

-- what a line says of its command of the console
abbrev pub console_reported : ConsoleCommand → Result ℕ ℕ → Answer
console_reported c (Ok n) = says (printed.Acknowledged c n)
console_reported c (Err n) = says (printed.CommandRefused c n)

-- a command of the console
abbrev pub ConsoleStep : ConsoleCommand → Option BenchLife → Bench → Answer → Bench → Type 0
ConsoleStep c None b answer new = (answer ≡ says printed.Off) × (new ≡ b)
ConsoleStep c (Some life) b answer new =
    (o : Result ℕ ℕ) × Issued (console_change c) life b o new × (answer ≡ console_reported c o)

abbrev pub TurnStep : Option BenchLife → ℕ → ℕ → Bench → Answer → Bench → Type 0
TurnStep None h n b answer new = (answer ≡ shows shown.Off) × (new ≡ b)
TurnStep (Some life) h n b answer new =
    (HasHart life.machine h × (made : ℕ) × (word : Word) × GuestTurns h n b made word new
    × (answer ≡ shows (shown.Turn h made word)))
    ⊎ ((HasHart life.machine h → ⊥) × (answer ≡ shows shown.Off) × (new ≡ b))

-- what a line of a call says of its hart, on the bench after it
abbrev pub CallReported : ℕ → Word → Bench → Answer → Type 0
CallReported h (words.Goes did) new answer =
    (life : BenchLife) × (new.power ≡ Some life) × (answer ≡ shows (own_line h (hart_at life.machine h) did))
CallReported h (words.Over end) new answer = answer ≡ shows (shown.Called h (words.Over end))

-- a call that the machine made in the place of hart h, once the life has the machine
abbrev pub GuestCall : Option Turned → ℕ → BenchLife → Bench → Answer → Bench → Type 0
GuestCall None h life b answer new = (answer ≡ shows (shown.NotStarted h)) × (new ≡ b)
GuestCall (Some turned) h life b answer new =
    (word : Word) × ComesTo turned h life b word new × CallReported h word new answer

abbrev pub CallStep : Option BenchLife → ℕ → CallWords → Bench → Answer → Bench → Type 0
CallStep None h asked b answer new = (answer ≡ shows shown.Off) × (new ≡ b)
CallStep (Some life) h asked b answer new =
    (HasHart life.machine h × (m : Machine) × (called : Option Turned) × MakesOneCall h asked life.machine m called
    × GuestCall called h (has_machine m life) (on_with (has_machine m life) b) answer new)
    ⊎ ((HasHart life.machine h → ⊥) × (answer ≡ shows shown.Off) × (new ≡ b))

-- a line that shows something of memory and harts
abbrev pub ReadStep : Option BenchLife → (Machine → MachineLine → Type 0) → Bench → Answer → Bench → Type 0
ReadStep None says_so b answer new = (answer ≡ shows shown.Off) × (new ≡ b)
ReadStep (Some life) says_so b answer new =
    (line : MachineLine) × says_so life.machine line × (answer ≡ shows line) × (new ≡ b)

-- a line that arms that fault, of the disk or of one of its lanes, with the board on or off
abbrev pub ArmStep : ArmedFault → Bench → Answer → Bench → Type 0
ArmStep fault b answer new = (answer ≡ says printed.Armed) × (new ≡ armed_with fault b)

-- a question
abbrev pub QuestionStep : Size → Question → Option BenchLife → Bench → Answer → Bench → Type 0
QuestionStep size (OfBoard look) p b answer new = ReadStep p (IsShown look) b answer new
QuestionStep size OfDisk p b answer new = InspectStep size p b answer new

-- what may be answered, and what the bench then is, as far as no armed cut strikes
abbrev pub DeedStep : Size → Deed → Bench → Answer → Bench → Type 0
DeedStep size deeds.Format b answer new = FormatStep b.power b answer new
DeedStep size (deeds.PowerOn mode) b answer new = OnStep size b.power mode b answer new
DeedStep size (deeds.Issue c) b answer new = ConsoleStep c b.power b answer new
DeedStep size (deeds.Turns h n) b answer new = TurnStep b.power h n b answer new
DeedStep size (deeds.Call h asked) b answer new = CallStep b.power h asked b answer new
DeedStep size (deeds.Ask question) b answer new = QuestionStep size question b.power b answer new
DeedStep size (deeds.Beside act) b answer new = AsideStep act b.power b answer new

-- the same, where an armed cut that struck within it makes the whole report `power lost`
abbrev pub DeedMoves : Size → Deed → Bench → Answer → Bench → Type 0
DeedMoves size deed b answer new =
    (DeedStep size deed b answer new × (new.fault_state.struck ≡ false))
    ⊎ ((would : Answer) × (mid : Bench) × DeedStep size deed b would mid × (mid.fault_state.struck ≡ true)
    × (answer ≡ says printed.PowerLost) × (new ≡ unpowered mid))

-- what a line may answer on a bench, and what the bench then is: as far as no armed cut strikes, and in a run
abbrev pub Step : Size → Line → Bench → Answer → Bench → Type 0
Step size line b answer new = DeedStep size (deed_of line) b answer new

abbrev pub Moves : Size → Line → Bench → Answer → Bench → Type 0
Moves size line b answer new = DeedMoves size (deed_of line) b answer new

-- lines that may answer so, one after another
abbrev pub Run : Size → Bench → List Line → List Answer → Bench → Type 0
Run size b [] [] new = new ≡ b
Run size b (line ∷ more) (answer ∷ answers) new =
    (mid : Bench) × Moves size line b answer mid × Run size mid more answers new
Run size b [] (answer ∷ answers) new = ⊥
Run size b (line ∷ more) [] new = ⊥
