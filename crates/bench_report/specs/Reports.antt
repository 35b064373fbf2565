-- The reports of a script.
use Rattle.std.specs.Prelude.{◌≡◌, ℕ, List, [], ◌∷◌, take, ⊤}
use Rattle.board_model.specs.Shapes.{Size, sectors_of}
use Rattle.script_lang.specs.Scripts.{Script}
use Rattle.script_lang.specs.declared.line.Line.{Line}
use Rattle.script_lang.specs.declared.line.Line.TheVariants as lines
use Rattle.report_lines.specs.declared.printed.Printed.TheVariants as printed
use Rattle.report_lines.specs.declared.printed.Answer.{Answer}
use Rattle.bench_report.specs.Bench.{Bench, bench_with, no_payloads}
use Rattle.bench_report.specs.Happens.{says}
use Rattle.bench_report.specs.Steps.{Run}

-- what the board line answers
abbrev pub board_answer : Size → Answer
board_answer size = says (printed.Board size.harts size.pages size.lanes (sectors_of size))

-- a line that does not write the disk past the firmware
abbrev pub IsByFirmware : Line → Type 0
IsByFirmware (lines.Poke sector offset bytes) = ⊥
IsByFirmware line = ⊤

-- nobody but the firmware writes the disk
abbrev pub AreByFirmware : List Line → Type 0
AreByFirmware [] = ⊤
AreByFirmware (line ∷ more) = IsByFirmware line × AreByFirmware more

-- these answers are a report of the script that begins with these payloads, and leave this bench
abbrev pub IsReportWith : List (List ℕ) → Script → List Answer → Bench → Type 0
IsReportWith payloads script [] end = ⊥
IsReportWith payloads script (board ∷ answers) end =
    (board ≡ board_answer script.size) × Run script.size (bench_with payloads) script.lines answers end

-- these answers are a report of it cut short: some first of its lines ran, and leave this bench
abbrev pub IsCutShortWith : List (List ℕ) → Script → List Answer → Bench → Type 0
IsCutShortWith payloads script answers end =
    (n : ℕ) × IsReportWith payloads (record script { lines = take n script.lines }) answers end

-- the same of the script alone, which begins with none
abbrev pub IsReport : Script → List Answer → Bench → Type 0
IsReport script answers end = IsReportWith no_payloads script answers end

abbrev pub IsCutShort : Script → List Answer → Bench → Type 0
IsCutShort script answers end = IsCutShortWith no_payloads script answers end
