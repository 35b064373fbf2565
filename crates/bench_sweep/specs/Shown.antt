-- A row of a bench, written as a script. Source: docs/SCRIPT.md, "The benches".
use Rattle.std.specs.Prelude.{◌≡◌, ◌⊎◌, ◌≤◌, ◌<◌, ◌+◌, ℕ, List, [], ◌∷◌, ◌++◌, ⊤, Option, None, Some, Ok, length, take, drop, get_or}
use Rattle.std.specs.Io.KnownBytes.{Appends}
use Rattle.board_model.specs.Shapes.{Size}
use Rattle.board_model.specs.declared.boot_mode.BootMode.TheVariants.{Keep}
use Rattle.simdisk.specs.declared.SimDisk.{SimDisk}
use Rattle.simdisk.specs.declared.fill.Fill.{Fill}
use Rattle.simdisk.specs.declared.fill.Fill.TheVariants.{Byte, Alternating, Old, New}
use Rattle.script_lang.specs.Armings.{IsArmingInRange}
use Rattle.script_lang.specs.Scripts.{Script, script_of}
use Rattle.script_lang.specs.Spellings.{script_text, IsWritable}
use Rattle.script_lang.specs.declared.armings.Arming.{Arming}
use Rattle.script_lang.specs.declared.armings.Arming.TheVariants.{CutAt, CutLane, FailAt, FailLane}
use Rattle.script_lang.specs.declared.line.Line.{Line}
use Rattle.script_lang.specs.declared.line.Line.TheVariants as lines
use Rattle.bench_report.specs.Bench.{Bench}
use Rattle.bench_report.specs.Happens.{unpowered}
use Rattle.bench_sweep.specs.declared.points.BenchKind.{BenchKind}
use Rattle.bench_sweep.specs.declared.points.BenchKind.TheVariants.{Cuts, Fails}
use Rattle.bench_sweep.specs.declared.points.Caller.{Caller}
use Rattle.bench_sweep.specs.declared.points.Caller.TheVariants.{Disk, Lane}
use Rattle.bench_sweep.specs.declared.points.RunAt.{RunAt}
use Rattle.bench_sweep.specs.Made.{BeginsOn, CallsIn, RunsArmed}
use Rattle.bench_sweep.specs.Points.{callers, cut_fill}
use Rattle.bench_sweep.specs.Swept.{Cell, all_points, cell, runs_at}

-- ---- which run it is
-- how many runs are made at each point
abbrev pub runs_each : BenchKind → ℕ
runs_each Cuts = 5
runs_each Fails = 1

-- what the cut leaves in the run of that place at a point, from 0
abbrev pub fill_at : BenchKind → ℕ → Option Fill
fill_at Cuts place = Some (get_or (Byte 0 ∷ Byte 255 ∷ Alternating ∷ Old ∷ New ∷ []) place (Byte 0))
fill_at Fails place = None

-- The run of that number, from 1, is that one, where `counts` says how many calls each caller makes.
pub record IsNthRun (kind : BenchKind) (counts : List ℕ) (number : ℕ) (run : Cell) : Type 0 where
  pub before : List Cell
  pub later : List Cell
  pub all : runs_at kind (all_points callers counts) ≡ before ++ run ∷ later
  pub nth : number ≡ length before + 1

abbrev pub run_cell : RunAt → Cell
run_cell run = cell run.caller run.call run.fill

-- there is none of that number
abbrev pub HasFewer : BenchKind → List ℕ → ℕ → Type 0
HasFewer kind counts number = (number ≡ 0) ⊎ (length (runs_at kind (all_points callers counts)) < number)

-- ---- its script
-- what the line arms: at that call, with that fill
abbrev pub arming_of : BenchKind → Caller → ℕ → Option Fill → Arming
arming_of Cuts Disk call fill = CutAt call (cut_fill fill)
arming_of Cuts (Lane lane) call fill = CutLane lane call (cut_fill fill)
arming_of Fails Disk call fill = FailAt call
arming_of Fails (Lane lane) call fill = FailLane lane call

abbrev pub arming : BenchKind → Cell → Arming
arming kind run = arming_of kind run.caller run.number run.fill

-- a line names that call of the caller, for a board of that size
abbrev pub HasCaller : Size → Caller → Type 0
HasCaller size Disk = ⊤
HasCaller size (Lane lane) = lane < size.lanes

abbrev pub IsNamed : Size → Caller → ℕ → Type 0
IsNamed size caller call = HasCaller size caller × (call ≤ 1000000)

-- power is cut after a run with a failure
abbrev pub cut_part : BenchKind → List Line
cut_part Cuts = []
cut_part Fails = lines.Cut (cut_fill None) ∷ []

-- the lines in front of what is armed, those that then run, and after their end a power-on that keeps the image
abbrev pub row_lines : BenchKind → List Line → Arming → List Line → List Line
row_lines kind front armed back = front ++ lines.Arm armed ∷ back ++ cut_part kind ++ lines.On Keep ∷ []

-- The script was written as a text that is read back as it. A line feed ends its last line too.
pub record WroteScript (script : Script) (old new : Option (List ℕ)) : Type 0 where
  pub writable : IsWritable script
  pub reads : script_of (script_text script) ≡ Ok script
  pub text : Appends old new (script_text script ++ 10 ∷ [])

-- The lines run as they are, from that disk on; by the calls that the callers made in them, the run of that number is that one.
pub record HasRun (kind : BenchKind) (size : Size) (origin : SimDisk) (b : Bench) (those : List Line) (number : ℕ) (run : Cell) : Type 0 where
  pub counts : List ℕ
  pub calls : CallsIn size origin b those counts
  pub nth : IsNthRun kind counts number run

-- there is none of that number
pub record HasNoRun (kind : BenchKind) (size : Size) (origin : SimDisk) (b : Bench) (those : List Line) (number : ℕ) : Type 0 where
  pub counts : List ℕ
  pub calls : CallsIn size origin b those counts
  pub fewer : HasFewer kind counts number

-- The row of that number was written: its lines in front of it, and those from that bench on that then run.
pub record ShowsFrom (kind : BenchKind) (size : Size) (origin : SimDisk) (b : Bench) (front those : List Line) (number : ℕ)
    (old new : Option (List ℕ)) : Type 0 where
  pub run : Cell
  pub has : HasRun kind size origin b those number run
  pub count : ℕ
  pub armed : RunsArmed size kind run.caller run.number b those count
  pub written : WroteScript (record { size = size; lines = row_lines kind front (arming kind run) (take count those) }) old new

-- the row has more lines than a script may have
pub record IsTooLong (kind : BenchKind) (size : Size) (b : Bench) (front those : List Line) (run : Cell) : Type 0 where
  pub count : ℕ
  pub armed : RunsArmed size kind run.caller run.number b those count
  pub long : 65535 < length (row_lines kind front (arming kind run) (take count those))

-- such a run is not written: no line of a script arms its call, or it is too long
pub record IsNotWritten (kind : BenchKind) (size : Size) (origin : SimDisk) (b : Bench) (front those : List Line) (number : ℕ) : Type 0 where
  pub run : Cell
  pub has : HasRun kind size origin b those number run
  pub why : (IsArmingInRange size (arming kind run) → ⊥) ⊎ IsTooLong kind size b front those run

-- there is no such row to write: the bench has fewer runs, or that run is not written
abbrev pub ShowsNone : BenchKind → Size → SimDisk → Bench → List Line → List Line → ℕ → Type 0
ShowsNone kind size origin b front those number =
    HasNoRun kind size origin b those number ⊎ IsNotWritten kind size origin b front those number

-- `--show`: the row of that number was written, after the lines the last of which formatted the disk. Its call, and those of the
-- script's own run after them, are counted from the origin, the disk of the board there.
pub record ShownRow (kind : BenchKind) (size : Size) (start : List (List ℕ)) (those : List Line) (number : ℕ) (old new : Option (List ℕ))
    : Type 0 where
  pub begin : ℕ
  pub first : Bench
  pub origin : SimDisk
  pub begins : BeginsOn size start (take begin those) first origin
  pub shows : ShowsFrom kind size origin (unpowered first) (take begin those) (drop begin those) number old new

pub record NoRow (kind : BenchKind) (size : Size) (start : List (List ℕ)) (those : List Line) (number : ℕ) : Type 0 where
  pub begin : ℕ
  pub first : Bench
  pub origin : SimDisk
  pub begins : BeginsOn size start (take begin those) first origin
  pub none : ShowsNone kind size origin (unpowered first) (take begin those) (drop begin those) number

-- of a script that has no fault
abbrev pub IsRowOf : BenchKind → ℕ → List (List ℕ) → List ℕ → Option (List ℕ) → Option (List ℕ) → Type 0
IsRowOf kind number start script old new =
    (said : Script) × (script_of script ≡ Ok said) × ShownRow kind said.size start said.lines number old new

abbrev pub NoRowOf : BenchKind → ℕ → List (List ℕ) → List ℕ → Type 0
NoRowOf kind number start script = (said : Script) × (script_of script ≡ Ok said) × NoRow kind said.size start said.lines number
