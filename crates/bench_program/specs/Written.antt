-- What the program writes, by the work that its words ask for. Source: docs/SCRIPT.md, "The program".
use Rattle.std.specs.Prelude.{◌≡◌, ◌⊎◌, ◌==◌, ⊤, ℕ, Bool, true, false, List, [], Option, None, Some, Ok, Err, if◌then◌else◌, IfSome, IsSome, get_or, take}
use Rattle.board_model.specs.declared.refusal.Refusal.{Refusal}
use Rattle.board_model.specs.declared.refusal.Refusal.TheVariants.{BadShape, Memory, Output, NotPlain}
use Rattle.std.specs.Io.Buffered.{writer_buffer, writer_contents}
use Rattle.std.specs.Io.KnownBytes.{Appends}
use Rattle.std.specs.declared.io.buffered.BufWriter.{BufWriter}
use Rattle.script_lang.specs.Scripts.{script_of, Script as Said}
use Rattle.bench_report.specs.Bench.{Bench}
use Rattle.bench_report.specs.Prefix.{KeepsPrefixLaw}
use Rattle.report_lines.specs.Texts.{report_text}
use Rattle.bench_report.specs.Reports.{AreByFirmware, IsReportWith}
use Rattle.report_lines.specs.declared.printed.Answer.{Answer}
use Rattle.bench_sweep.specs.Shown.{IsRowOf, NoRowOf}
use Rattle.bench_sweep.specs.Swept.{IsBenchOf, NoBenchRuns}
use Rattle.bench_schedules.specs.Numbers.{number_of_other}
use Rattle.bench_schedules.specs.Schedules.{Shown, WroteSchedules}
use Rattle.bench_schedules.specs.Shrunk.{Shrunk}
use Rattle.bench_sweep.specs.declared.judges.Sweep.{Sweep as Counts}
use Rattle.bench_program.specs.Digests.{is_part, part_tag, with_tag}
use Rattle.bench_program.specs.Orders.{has_orders, shown_in}
use Rattle.bench_program.specs.Taps.{tap_text}
use Rattle.command_line.specs.Pipes.{pipe_contents}
use Rattle.command_line.specs.declared.pipe.Pipe.{Pipe}
use Rattle.command_line.specs.declared.NoWork.TheVariants as whys
use Rattle.board_files.specs.Named.{AreFilesOf}
use Rattle.bench_program.specs.Usage.{payload_files, script_file, IsNamedBy, NamesNoWork, NamesConflict}
use Rattle.bench_program.specs.declared.fault.BenchFault.{BenchFault}
use Rattle.bench_program.specs.declared.fault.BenchFault.TheVariants.{Usage, Input, File, Refused, Closed, Wrong}
use Rattle.bench_program.specs.declared.usage.BenchOptions.{BenchOptions}
use Rattle.bench_program.specs.declared.usage.Work.{Work}
use Rattle.bench_schedules.specs.declared.benches.SchedulePlan.{SchedulePlan}
use Rattle.bench_program.specs.declared.usage.Work.TheVariants.{Report, Judge, ShowRow, Compare, Show, Shrink}

-- what was written is a report of the script that begins with these payloads, and nothing else; where no line is a poke,
-- it keeps the prefix law
abbrev pub IsReported : List (List ℕ) → List ℕ → Option (List ℕ) → Option (List ℕ) → Type 0
IsReported payloads script old now = (said : Said) × (answers : List Answer) × (end : Bench)
    × (script_of script ≡ Ok said) × IsReportWith payloads said answers end × Appends old now (report_text answers)
    × (AreByFirmware said.lines → KeepsPrefixLaw said.lines answers)

-- the schedules of that plan, of the script that begins with these payloads, were compared with its own run, and told; `differ` differ
abbrev pub IsCompared : SchedulePlan → List (List ℕ) → List ℕ → Option (List ℕ) → Option (List ℕ) → ℕ → Type 0
IsCompared plan payloads script old now differ = (said : Said) × (script_of script ≡ Ok said)
    × WroteSchedules said payloads (number_of_other script said.lines) plan.part plan.count old now differ

-- a schedule of the script was written
abbrev pub IsShown : List ℕ → Option (List ℕ) → Option (List ℕ) → Type 0
IsShown script old now = (said : Said) × (script_of script ≡ Ok said) × Shown said old now

-- a schedule of the script was written that differs where the one does that was drawn
abbrev pub IsShrunk : List (List ℕ) → List ℕ → Option (List ℕ) → Option (List ℕ) → Type 0
IsShrunk payloads script old now = (said : Said) × (script_of script ≡ Ok said) × Shrunk said payloads old now

-- a script without a fault has several orders: a stretch of its rows is of two harts
abbrev pub HasOrders : List ℕ → Type 0
HasOrders script = (said : Said) × (script_of script ≡ Ok said) × (has_orders said.lines ≡ true)

-- What was written is what the work makes of the script, and `differ` of its runs tell that something is wrong. It is the report; the lines
-- of a bench, or of schedules; or one of these as a script. None of the runs of a bench is wrong.
abbrev pub IsMade : Work → List (List ℕ) → List ℕ → ℕ → Option (List ℕ) → Option (List ℕ) → Type 0
IsMade (Report savers) payloads script differ old now = (differ ≡ 0) × IsReported payloads script old now
IsMade (Judge plan) payloads script differ old now =
    (differ ≡ 0) × (counts : Counts) × IsBenchOf plan payloads script old now counts
IsMade (ShowRow row) payloads script differ old now =
    (differ ≡ 0) × IsRowOf row.bench row.number payloads script old now
IsMade (Compare plan) payloads script differ old now = HasOrders script × IsCompared plan payloads script old now differ
IsMade (Show drawn) payloads script differ old now = (differ ≡ 0) × IsShown script old now
IsMade (Shrink drawn) payloads script differ old now = (differ ≡ 0) × IsShrunk payloads script old now

-- what is read of a source of these bytes: all of them, but for what is more than any script has
abbrev pub IsReadOf : List ℕ → List ℕ → Type 0
IsReadOf script bytes = script ≡ take 268500993 bytes

-- ---- what is written of it
-- a line of the script can show that an order differs; another work compares none
abbrev pub shown_by : Work → List ℕ → Bool
shown_by (Compare plan) script = shown_in (script_of script)
shown_by work script = true

-- with `--tap` it is what the protocol has of a text
abbrev pub tested_text : Bool → Bool → Bool → List ℕ → List ℕ
tested_text false well shown text = text
tested_text true well shown text = tap_text well shown text

-- what is written of a text that a work made, where `differ` of its runs tell that something is wrong: a part ends with the digest of what
-- it is of
abbrev pub put_text : Bool → Work → List (List ℕ) → List ℕ → ℕ → List ℕ → List ℕ
put_text tap work payloads script differ text =
    tested_text tap (differ == 0) (shown_by work script) (with_tag (part_tag work payloads script) text)

-- the text is made whole before any of it is written
abbrev pub is_kept : BenchOptions → Bool
is_kept options = if options.tap then true else is_part options.work

-- That was written, where `differ` runs tell that something is wrong; or what comes of a text that else would be written.
abbrev pub IsPut : Bool → (ℕ → List ℕ → List ℕ) → (ℕ → Option (List ℕ) → Option (List ℕ) → Type 0) → ℕ → Option (List ℕ) → Option (List ℕ) → Type 0
IsPut false Comes That differ old now = That differ old now
IsPut true Comes That differ old now =
    (text : List ℕ) × That differ (Some []) (Some text) × Appends old now (Comes differ text)

-- what the options' work makes of the script was written
abbrev pub IsWritten : BenchOptions → List (List ℕ) → List ℕ → ℕ → Option (List ℕ) → Option (List ℕ) → Type 0
IsWritten options payloads script differ old now =
    IsPut (is_kept options) (put_text options.tap options.work payloads script) (IsMade options.work payloads script) differ old now

-- what a writer has written now is that, and nothing of it is held back
abbrev pub IsHandedOn : {W A : Type 0} → (W → Option (List ℕ)) → (Option (List ℕ) → Option (List ℕ) → Type 0) → BufWriter (Pipe W) A
    → BufWriter (Pipe W) A → Type 0
IsHandedOn contents That old now =
    That (writer_contents (pipe_contents contents) old) (writer_contents (pipe_contents contents) now) × (writer_buffer now ≡ [])

-- the work was done over a source of which these bytes are known, and `differ` of its runs tell that something is wrong
abbrev pub IsWorked : BenchOptions → List (List ℕ) → Option (List ℕ) → ℕ → Option (List ℕ) → Option (List ℕ) → Type 0
IsWorked options payloads source differ old now = (script : List ℕ) × IfSome source (λ bytes. script_of script ≡ script_of bytes)
    × IfSome source (IsReadOf script) × IsWritten options payloads script differ old now

-- the bytes that the script is read from: those of the file that is named, or else the input's
abbrev pub source_at : Option (List ℕ) → (List ℕ → Option (List ℕ)) → Option (List ℕ) → Option (List ℕ)
source_at None bytes_at input = input
source_at (Some path) bytes_at input = bytes_at path

abbrev pub source_of : BenchOptions → (List ℕ → Option (List ℕ)) → Option (List ℕ) → Option (List ℕ)
source_of options bytes_at input = source_at (script_file options) bytes_at input

-- The options were done over it and over files of which these bytes are known: each slot begins with the file that is
-- named for it. Of the runs, `differ` tell that something is wrong.
abbrev pub AreDone : BenchOptions → (List ℕ → Option (List ℕ)) → Option (List ℕ) → ℕ → Option (List ℕ) → Option (List ℕ) → Type 0
AreDone options bytes_at input differ old now = (payloads : List (List ℕ)) × AreFilesOf bytes_at (payload_files options) payloads
    × IsWorked options payloads (source_of options bytes_at input) differ old now

-- the work that the words name was done over both
abbrev pub IsDone : List (List ℕ) → (List ℕ → Option (List ℕ)) → Option (List ℕ) → ℕ → Option (List ℕ) → Option (List ℕ) → Type 0
IsDone words bytes_at input differ old now =
    (options : BenchOptions) × IsNamedBy words options × AreDone options bytes_at input differ old now

-- ---- faults
-- memory was refused, the output failed, or the script has that fault
abbrev pub IsAnyRefusal : List ℕ → Refusal → Type 0
IsAnyRefusal script e = (e ≡ Memory) ⊎ (e ≡ Output) ⊎ (script_of script ≡ Err e)

-- no bench runs the script: a line of it is not plain, or none formats a disk
abbrev pub IsNoBench : List ℕ → Refusal → Type 0
IsNoBench script e = (e ≡ NotPlain) × NoBenchRuns script

-- a bench is refused so
abbrev pub IsBenchRefusal : List ℕ → Refusal → Type 0
IsBenchRefusal script e = (e ≡ Memory) ⊎ (e ≡ Output) ⊎ (script_of script ≡ Err e) ⊎ IsNoBench script e

-- or it has one order alone, so that none is compared
abbrev pub HasOneOrder : List ℕ → Refusal → Type 0
HasOneOrder script e = (e ≡ NotPlain) × (said : Said) × (script_of script ≡ Ok said) × (has_orders said.lines ≡ false)

-- A work over that script, which begins with these payloads, is refused so: by what may befall any; or it is a bench or shows a run of
-- one, and no bench runs the script; or it compares orders, and there is one alone; or it shows a run, and there is none of that number to
-- show.
abbrev pub IsRefusedWith : Work → List (List ℕ) → List ℕ → Refusal → Type 0
IsRefusedWith (Report savers) payloads script e = IsAnyRefusal script e
IsRefusedWith (Judge plan) payloads script e = IsBenchRefusal script e
IsRefusedWith (ShowRow row) payloads script e =
    (e ≡ Memory) ⊎ (e ≡ Output) ⊎ (script_of script ≡ Err e) ⊎ IsNoBench script e
    ⊎ ((e ≡ BadShape) × NoRowOf row.bench row.number payloads script)
IsRefusedWith (Compare plan) payloads script e =
    (e ≡ Memory) ⊎ (e ≡ Output) ⊎ (script_of script ≡ Err e) ⊎ HasOneOrder script e
IsRefusedWith (Show drawn) payloads script e = IsAnyRefusal script e
IsRefusedWith (Shrink drawn) payloads script e = IsAnyRefusal script e

-- a work may tell that something is wrong: the benches of power cuts and failures never do
abbrev pub MayTellWrong : Work → Type 0
MayTellWrong (Compare plan) = ⊤
MayTellWrong work = ⊥

-- A fault of a work over that script, which begins with these payloads, by whether the output's reader is gone. Only where it is gone
-- nothing is told; else the work was refused, or it told that something is wrong. The command line has none, and neither has a file.
abbrev pub IsFaultIn : Work → List (List ℕ) → List ℕ → Bool → BenchFault → Type 0
IsFaultIn work payloads script gone (Refused e) = (gone ≡ false) × IsRefusedWith work payloads script e
IsFaultIn work payloads script gone Closed = gone ≡ true
IsFaultIn work payloads script gone Input = ⊥
IsFaultIn work payloads script gone File = ⊥
IsFaultIn work payloads script gone Usage = ⊥
IsFaultIn work payloads script gone Wrong = MayTellWrong work

-- a fault of the options' work over a source and over files of which these bytes are known
abbrev pub IsFaultOf : BenchOptions → (List ℕ → Option (List ℕ)) → Option (List ℕ) → Bool → BenchFault → Type 0
IsFaultOf options bytes_at input gone fault = (payloads : List (List ℕ)) × (script : List ℕ)
    × AreFilesOf bytes_at (payload_files options) payloads
    × IfSome (source_of options bytes_at input) (λ bytes. script_of script ≡ script_of bytes)
    × IfSome (source_of options bytes_at input) (IsReadOf script)
    × IsFaultIn options.work payloads script gone fault

-- a file could not be read, of those that are named; or the input failed, where none of them is the script's
abbrev pub IsUnread : BenchOptions → BenchFault → Type 0
IsUnread options fault =
    ((fault ≡ File) × (((slot : ℕ) × IsSome (get_or options.payloads slot None)) ⊎ IsSome options.script))
    ⊎ ((fault ≡ Input) × (options.script ≡ None))

-- a fault of the work that the words name, or of their files; or they name none, or no one work; or memory was refused
-- to the command line or a file
abbrev pub IsFault : List (List ℕ) → (List ℕ → Option (List ℕ)) → Option (List ℕ) → Bool → BenchFault → Type 0
IsFault words bytes_at input gone fault =
    ((options : BenchOptions) × IsNamedBy words options
    × (IsUnread options fault ⊎ IsFaultOf options bytes_at input gone fault))
    ⊎ ((fault ≡ Usage) × (NamesNoWork words whys.Usage ⊎ NamesConflict words)) ⊎ (fault ≡ Refused Memory)
