-- Which images are resumed, by what is answered.
use Rattle.std.specs.Prelude.{◌≡◌, ℕ, List, [], ◌∷◌, ◌++◌, Option, None, Some}
use Rattle.board_model.specs.Plains.{state_in}
use Rattle.board_model.specs.Views.{durable_of}
use Rattle.board_model.specs.declared.boot_mode.BootMode.{BootMode}
use Rattle.board_model.specs.declared.boot_mode.BootMode.TheVariants as modes
use Rattle.board_model.specs.declared.durable.Durable.{Durable}
use Rattle.board_model.specs.declared.durable.ImageHead.{ImageHead}
use Rattle.report_lines.specs.declared.printed.Answer.{Answer}
use Rattle.report_lines.specs.declared.printed.Printed.{Printed}
use Rattle.report_lines.specs.declared.printed.Printed.TheVariants as printed
use Rattle.script_lang.specs.declared.line.Line.{Line}
use Rattle.bench_report.specs.Prefix.{AskedLine, Boot, asked_by}
use Rattle.bench_sweep.specs.declared.ledgers.RunLedger.{RunLedger}

-- the image that stands after the commands that a ledger tells, without its memory
abbrev pub image_told : RunLedger → Option ImageHead
image_told ledger = (durable_of (state_in ledger.state)).image

-- the serial of the image that stands, where one does
abbrev pub serial_of : Option ImageHead → List ℕ
serial_of None = []
serial_of (Some head) = head.serial ∷ []

-- a Consume that was answered so, by its receipt (none) or by the number that refused it, over that image
abbrev pub consumed : Option ℕ → Option ImageHead → List ℕ
consumed None image = serial_of image
consumed (Some n) image = []

-- a boot by that mode
abbrev pub booted : Option ℕ → BootMode → Option ImageHead → List ℕ
booted refused modes.Resume image = consumed refused image
booted refused mode image = []

-- a power-on by that mode, by its last line
abbrev pub powered : Printed → BootMode → Option ImageHead → List ℕ
powered (printed.On m) mode image = booted None mode image
powered line mode image = []

-- a power-on by that mode, by the state that its open found, where it found one, and its last line
abbrev pub power_resumes : BootMode → Option Durable → Printed → List ℕ
power_resumes mode None said = []
power_resumes mode (Some d) said = powered said mode d.image

-- these were resumed more
abbrev pub Resumes : RunLedger → RunLedger → List ℕ → Type 0
Resumes old new serials = new.resumed.items ≡ old.resumed.items ++ serials

-- a line, by what it asks and answers: only a power-on resumes
abbrev pub asked_resumes : AskedLine → Answer → List ℕ
asked_resumes (Boot mode) a = power_resumes mode a.found a.line
asked_resumes asked a = []

abbrev pub line_resumes : Line → Answer → List ℕ
line_resumes line a = asked_resumes (asked_by line) a

-- lines that answered so, one after another
abbrev pub lines_resume : List Line → List Answer → List ℕ
lines_resume [] answers = []
lines_resume (line ∷ more) [] = []
lines_resume (line ∷ more) (a ∷ answers) = line_resumes line a ++ lines_resume more answers
