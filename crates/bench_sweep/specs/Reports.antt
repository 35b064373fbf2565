-- What a bench has written and counted so far. Source: docs/SCRIPT.md, "The benches".
use Rattle.std.specs.Prelude.{◌≡◌, ◌≤◌, ◌<◌, ◌+◌, ◌^◌, ◌++◌, ◌∷◌, [], ℕ, List, Option, Some, All, length, map, take, drop}
use Rattle.std.specs.Io.KnownBytes.{Appends}
use Rattle.disk.specs.Facts.{counted}
use Rattle.simdisk.specs.declared.SimDisk.{SimDisk}
use Rattle.simdisk.specs.declared.fill.Fill.{Fill}
use Rattle.board_model.specs.Shapes.{Size}
use Rattle.script_lang.specs.declared.line.Line.{Line}
use Rattle.bench_report.specs.Bench.{Bench}
use Rattle.bench_report.specs.Happens.{unpowered}
use Rattle.bench_report.specs.Steps.{Run}
use Rattle.bench_sweep.specs.declared.points.BenchKind.{BenchKind}
use Rattle.bench_sweep.specs.declared.points.Caller.{Caller}
use Rattle.bench_sweep.specs.declared.rows.Row.{Row}
use Rattle.bench_sweep.specs.declared.judging.PointRows.{PointRows}
use Rattle.bench_sweep.specs.declared.site.Site.{Site}
use Rattle.bench_sweep.specs.declared.sweeps.SweepReport.{SweepReport}
use Rattle.bench_sweep.specs.Made.{BeginsOn, CallsIn, IsFound, IsLeft, IsRunOf, RunsWith}
use Rattle.bench_sweep.specs.Points.{callers, cut_fill, MadeCalls}
use Rattle.bench_sweep.specs.Runs.{RunsAt, Sits}
use Rattle.bench_sweep.specs.Took.{RunTook, StandsOn}
use Rattle.report_lines.specs.declared.printed.Answer.{Answer}
use Rattle.bench_sweep.specs.Swept.{Cell, Spot, Writes, AreSwept, all_points, cell_of, own_points, rows_text, runs_at, runs_of}
use Rattle.crew.specs.Parts.{chunk_from}
use Rattle.crew.specs.declared.part.Part.{Part}

-- The report goes on in the same writer: the runs at these points were made, what the bench says of each was written, and each
-- was counted. None was wrong, and `Is` holds of each row.
pub record Reports {W : Type 0} (contents : W → Option (List ℕ)) (kind : BenchKind) (Is : Row → Type 0) (old new : SweepReport W) (made : List Spot) : Type 0 where
  pub same : new.out.ghost_name ≡ old.out.ghost_name
  pub quiet : new.quiet ≡ old.quiet
  pub wrote : Writes old.quiet Is (contents old.out.now) (contents new.out.now) old.done new.done (runs_at kind made) (length made)

-- ---- rows so far
-- a row whose run ended at that bench, with that disk
abbrev pub IsLeftBy : Size → Bench → SimDisk → Row → Type 0
IsLeftBy size end disk row = IsLeft size end disk (cut_fill row.fill) row.left

-- a row that says what a power-on said of the disk that a cut left
abbrev pub IsFoundOn : Size → Bench → SimDisk → Row → Type 0
IsFoundOn size b disk row = IsFound size b disk row.left

-- a row that says what that one says, for a cut with another fill
abbrev pub again : Row → Caller → ℕ → Fill → Row
again row caller number fill = record row { caller = caller; number = number; fill = Some fill }

-- A row of that caller. The first `more` of those lines are run as they are, from that bench on, where a board stands; the row's run goes
-- on after them. The caller made `before` calls up to the site. In these lines, run on from the site's disk, the disk of the board
-- counted the `made` calls after it too.
pub record RunsAlong (size : Size) (kind : BenchKind) (caller : Caller) (site : Site) (before : ℕ) (b : Bench) (lines : List Line)
    (row : Row) : Type 0 where
  pub who : row.caller ≡ caller
  pub more : ℕ
  pub answers : List Answer
  pub at : Bench
  pub along : Run size b (take more lines) answers at
  pub disk : SimDisk
  pub stands : StandsOn size at disk
  pub took : RunTook size (take more lines) site.off.disk disk
  pub made : ℕ
  pub counts : MadeCalls site.off.disk disk caller made
  pub runs : RunsWith size kind (before + made) at (drop more lines) row

-- ---- the rows of a point, before they are written
-- One row more was kept, of that run, and counted as right; `Is` holds of it.
pub record Keeps (Is : Row → Type 0) (old new : PointRows) (made : Cell) : Type 0 where
  pub row : Row
  pub is : Is row
  pub cell : cell_of row ≡ made
  pub rows : new.rows.items ≡ old.rows.items ++ row ∷ []
  pub runs : new.sweep.runs ≡ counted old.sweep.runs 1
  pub right : new.sweep.wrong ≡ old.sweep.wrong

-- A row was kept of each of these runs, and each was counted. None was wrong, and `Is` holds of each row.
pub record Judged (Is : Row → Type 0) (rows : PointRows) (made : List Cell) : Type 0 where
  pub each : All Is rows.rows.items
  pub cells : map cell_of rows.rows.items ≡ made
  pub runs : rows.sweep.runs ≡ counted 0 (length rows.rows.items)
  pub right : rows.sweep.wrong ≡ 0

-- A bench may run those lines from that site on, up to the next one at most, with the calls of chunk k of a window armed.
pub record HasChunk (size : Size) (lines : List Line) (count : ℕ) (site : Site) (before from to each k : ℕ) : Type 0 where
  pub few : count ≤ length lines
  pub swept : AreSwept size lines
  pub sits : Sits size site
  pub begins : chunk_from from each k < to
  pub room : before + to < 2 ^ 64

-- those are the rows of the caller's next call after `done` calls from the site on
abbrev pub IsOfCall : Size → BenchKind → Caller → ℕ → List Line → Site → ℕ → PointRows → Type 0
IsOfCall size kind caller before lines site done rows =
    (b : Bench) → RunsAt size b site
    → Judged (RunsAlong size kind caller site before (unpowered b) lines) rows (runs_of kind caller (before + done + 1))

-- What the bench says of these rows was written, where none is wrong, and the point and its runs are counted with those before.
pub record TakesPoint {W : Type 0} (contents : W → Option (List ℕ)) (old : SweepReport W) (rows : PointRows) (new : SweepReport W) : Type 0 where
  pub same : new.out.ghost_name ≡ old.out.ghost_name
  pub quiet : new.quiet ≡ old.quiet
  pub text : rows.sweep.wrong ≡ 0 → Appends (contents old.out.now) (contents new.out.now) (rows_text old.quiet rows.rows.items)
  pub points : new.done.points ≡ counted old.done.points 1
  pub runs : new.done.runs ≡ counted old.done.runs rows.sweep.runs
  pub right : rows.sweep.wrong ≡ 0 → new.done.wrong ≡ old.done.wrong

-- ---- all rows
-- All lines from that bench on are run as they are, from that disk on, and then the runs at the points of each caller are made, or at
-- those of a part. A caller has as many points as it made calls in the lines, and together they have `all`.
pub record ReportsAll {W : Type 0} (contents : W → Option (List ℕ)) (size : Size) (kind : BenchKind) (part : Option Part) (origin : SimDisk)
    (first : Bench) (lines : List Line) (all : ℕ) (old new : SweepReport W) : Type 0 where
  pub counts : List ℕ
  pub calls : CallsIn size origin first lines counts
  pub total : all ≡ length (all_points callers counts)
  pub runs : Reports contents kind (IsRunOf size kind origin first lines) old new (own_points part counts)

-- the same of the lines of a script after its first format, where it begins with these payloads
pub record ReportsScript {W : Type 0} (contents : W → Option (List ℕ)) (size : Size) (kind : BenchKind) (part : Option Part) (start : List (List ℕ)) (lines : List Line)
    (all : ℕ) (old new : SweepReport W) : Type 0 where
  pub begin : ℕ
  pub first : Bench
  pub origin : SimDisk
  pub begins : BeginsOn size start (take begin lines) first origin
  pub rows : ReportsAll contents size kind part origin (unpowered first) (drop begin lines) all old new
