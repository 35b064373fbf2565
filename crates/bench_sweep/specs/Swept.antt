-- What a bench wrote and counted. Source: docs/SCRIPT.md, "The benches".
use Rattle.std.specs.Prelude.{◌≡◌, ◌⊎◌, ◌+◌, ℕ, Bool, true, false, zero, suc, List, [], ◌∷◌, ◌++◌, ⊤, Option, None, Some, Ok, All, length, map, take, drop}
use Rattle.std.specs.List.{flat_map}
use Rattle.std.specs.Io.KnownBytes.{Appends}
use Rattle.disk.specs.Facts.{counted}
use Rattle.crew.specs.Parts.{own_of}
use Rattle.crew.specs.declared.part.Part.{Part}
use Rattle.simdisk.specs.declared.SimDisk.{SimDisk}
use Rattle.simdisk.specs.declared.fill.Fill.{Fill}
use Rattle.simdisk.specs.declared.fill.Fill.TheVariants.{Byte, Alternating, Old, New}
use Rattle.board_model.specs.Shapes.{Size}
use Rattle.script_lang.specs.Lines.{IsLineInRange}
use Rattle.script_lang.specs.Scripts.{script_of, Script}
use Rattle.script_lang.specs.declared.line.Line.{Line}
use Rattle.bench_report.specs.Bench.{Bench}
use Rattle.bench_report.specs.Happens.{unpowered}
use Rattle.bench_report.specs.Deeds.{ArmFault, CutPower, WritePast, Deed, Format, Beside, deed_of}
use Rattle.bench_sweep.specs.declared.judges.Sweep.{Sweep}
use Rattle.bench_sweep.specs.declared.plan.SweepPlan.{SweepPlan}
use Rattle.bench_sweep.specs.declared.points.BenchKind.{BenchKind}
use Rattle.bench_sweep.specs.declared.points.BenchKind.TheVariants.{Cuts, Fails}
use Rattle.bench_sweep.specs.declared.points.Caller.{Caller}
use Rattle.bench_sweep.specs.declared.rows.Row.{Row}
use Rattle.bench_sweep.specs.Made.{BeginsOn, CallsIn, IsRunOf}
use Rattle.bench_sweep.specs.Points.{callers}
use Rattle.bench_sweep.specs.Rows.{row_text, sweep_text}

-- a deed that a bench has done: it cuts nothing, lets nothing fail, and leaves the disk to the firmware
abbrev pub IsSweptDeed : Deed → Type 0
IsSweptDeed (Beside (ArmFault arming)) = ⊥
IsSweptDeed (Beside CutPower) = ⊥
IsSweptDeed (Beside WritePast) = ⊥
IsSweptDeed deed = ⊤

-- a line of a script that a bench runs
abbrev pub IsPlainLine : Line → Type 0
IsPlainLine line = IsSweptDeed (deed_of line)

-- a deed that formats no disk
abbrev pub FormatsNothing : Deed → Type 0
FormatsNothing Format = ⊥
FormatsNothing deed = ⊤

-- a line that formats no disk
abbrev pub IsNoFormat : Line → Type 0
IsNoFormat line = FormatsNothing (deed_of line)

-- lines of a script that no bench runs: one of them is not plain, or none formats a disk
abbrev pub IsNotPlain : List Line → Type 0
IsNotPlain lines = (All IsPlainLine lines → ⊥) ⊎ All IsNoFormat lines

-- lines that a bench runs, for a board of that size
pub record AreSwept (size : Size) (lines : List Line) : Type 0 where
  pub ranges : All (IsLineInRange size) lines
  pub plain : All IsPlainLine lines

-- ---- which runs there are
-- a run: at whose call power was cut, or failed a call; the number of the call, from 1; and what the cut left
pub record Cell : Type 0 where
  pub caller : Caller
  pub number : ℕ
  pub fill : Option Fill

abbrev pub cell : Caller → ℕ → Option Fill → Cell
cell caller number fill = record { caller = caller; number = number; fill = fill }

abbrev pub cell_of : Row → Cell
cell_of r = cell r.caller r.number r.fill

-- the runs of a point, in order
abbrev pub runs_of : BenchKind → Caller → ℕ → List Cell
runs_of Cuts caller number =
    map (λ (fill : Fill). cell caller number (Some fill)) (Byte 0 ∷ Byte 255 ∷ Alternating ∷ Old ∷ New ∷ [])
runs_of Fails caller number = cell caller number None ∷ []

-- ---- points
-- a point: a call of that caller, by its number, from 1
pub record Spot : Type 0 where
  pub caller : Caller
  pub number : ℕ

abbrev pub spot : Caller → ℕ → Spot
spot caller number = record { caller = caller; number = number }

-- n points of a caller, the first of which has the number `first`
abbrev pub points_from : Caller → ℕ → ℕ → List Spot
points_from caller first zero = []
points_from caller first (suc n) = points_from caller first n ++ spot caller (counted first n) ∷ []

-- the points of these callers, as many of each as its number says, from number 1 on, in the order of the report
abbrev pub all_points : List Caller → List ℕ → List Spot
all_points [] ns = []
all_points (caller ∷ more) [] = []
all_points (caller ∷ more) (n ∷ ns) = points_from caller 1 n ++ all_points more ns

-- the runs of these points, in order
abbrev pub runs_at : BenchKind → List Spot → List Cell
runs_at bench spots = flat_map (λ (s : Spot). runs_of bench s.caller s.number) spots

-- the points that a bench goes over, where `counts` says how many calls each caller makes: all of them, or those of a part alone
abbrev pub own_points : Option Part → List ℕ → List Spot
own_points part counts = own_of part (all_points callers counts)

-- ---- what was written
-- a line for each row; a quiet bench writes none where no run is wrong
abbrev pub rows_text : Bool → List Row → List ℕ
rows_text true rows = []
rows_text false rows = flat_map (λ (row : Row). row_text row ++ 10 ∷ []) rows

-- a count went on by n
abbrev pub GoesOn : ℕ → ℕ → ℕ → Type 0
GoesOn before after n = (k : ℕ) → before ≡ counted 0 k → after ≡ counted 0 (k + n)

-- These runs were made, at n points. What a bench says of each was written, and each was counted. None was wrong, and `Is` holds of each
-- row.
pub record Writes (quiet : Bool) (Is : Row → Type 0) (old now : Option (List ℕ)) (s t : Sweep) (made : List Cell) (n : ℕ) : Type 0 where
  pub rows : List Row
  pub each : All Is rows
  pub text : Appends old now (rows_text quiet rows)
  pub cells : map cell_of rows ≡ made
  pub points : GoesOn s.points t.points n
  pub runs : GoesOn s.runs t.runs (length rows)
  pub right : t.wrong ≡ s.wrong

-- the whole of a bench
abbrev pub whole : BenchKind → SweepPlan
whole bench = record { bench = bench; part = None; quiet = false }

-- Each caller has as many points as it made calls in the script's own run after its first format, from the origin on. The runs at them, or
-- at those of the plan's part, are runs of those lines, in order. What the plan has of each was written, and then the line of the counts.
-- No run was wrong.
pub record WroteAll (plan : SweepPlan) (size : Size) (start : List (List ℕ)) (lines : List Line) (old now : Option (List ℕ)) (sweep : Sweep)
    : Type 0 where
  pub begin : ℕ
  pub first : Bench
  pub origin : SimDisk
  pub begins : BeginsOn size start (take begin lines) first origin
  pub counts : List ℕ
  pub calls : CallsIn size origin (unpowered first) (drop begin lines) counts
  pub rows : List Row
  pub each : All (IsRunOf size plan.bench origin (unpowered first) (drop begin lines)) rows
  pub cells : map cell_of rows ≡ runs_at plan.bench (own_points plan.part counts)
  pub text : Appends old now (rows_text plan.quiet rows ++ (sweep_text plan.part (length (all_points callers counts)) sweep ++ 10 ∷ []))
  pub points : sweep.points ≡ counted 0 (length (own_points plan.part counts))
  pub runs : sweep.runs ≡ counted 0 (length rows)
  pub right : sweep.wrong ≡ 0

-- what a bench makes by that plan of a script that begins with these payloads
abbrev pub IsBenchOf : SweepPlan → List (List ℕ) → List ℕ → Option (List ℕ) → Option (List ℕ) → Sweep → Type 0
IsBenchOf plan start script old now sweep =
    (said : Script) × (script_of script ≡ Ok said) × WroteAll plan said.size start said.lines old now sweep

-- no bench runs the script, which has no fault
abbrev pub NoBenchRuns : List ℕ → Type 0
NoBenchRuns script = (said : Script) × (script_of script ≡ Ok said) × IsNotPlain said.lines
