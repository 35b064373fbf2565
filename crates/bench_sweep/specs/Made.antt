-- Which runs of a script a bench makes, and what each row of it tells. Source: docs/SCRIPT.md, "The benches".
use Rattle.std.specs.Prelude.{◌≡◌, ◌≤◌, ◌+◌, ℕ, List, [], ◌∷◌, ◌++◌, None, Some, true, false, length, take, drop}
use Rattle.std.specs.List.{AllZip, flat_map}
use Rattle.board_model.specs.Shapes.{Size}
use Rattle.board_model.specs.declared.boot_mode.BootMode.TheVariants as modes
use Rattle.board_model.specs.declared.durable.Durable.{Durable}
use Rattle.disk.specs.Facts.{Content}
use Rattle.disk.specs.FaultState.{Unarmed}
use Rattle.disk.specs.WriteLog.{synced}
use Rattle.simdisk.specs.Views.{left_by_fill}
use Rattle.simdisk.specs.declared.SimDisk.{SimDisk}
use Rattle.simdisk.specs.declared.fill.Fill.{Fill}
use Rattle.script_lang.specs.declared.line.Line.{Line}
use Rattle.report_lines.specs.declared.printed.Answer.{Answer}
use Rattle.report_lines.specs.declared.printed.Printed.TheVariants as printed
use Rattle.bench_report.specs.Bench.{Bench, bench_with, no_payloads}
use Rattle.bench_report.specs.Examined.{OpensOf}
use Rattle.bench_report.specs.Happens.{says, off, unpowered, armed_with}
use Rattle.bench_report.specs.PowerOns.{PowersOn}
use Rattle.bench_report.specs.Steps.{Run}
use Rattle.bench_report.specs.Views.{facts, sim_log_of}
use Rattle.bench_sweep.specs.declared.points.BenchKind.{BenchKind}
use Rattle.bench_sweep.specs.declared.points.BenchKind.TheVariants.{Cuts, Fails}
use Rattle.bench_sweep.specs.declared.points.Caller.{Caller}
use Rattle.bench_sweep.specs.declared.rows.Row.{Row}
use Rattle.bench_sweep.specs.Points.{callers, cut_fill, fault_at, MadeCalls}
use Rattle.bench_sweep.specs.Took.{RunTook, StandsOn}

-- ---- the script as it is
-- The first lines of a script that begins with these payloads, the last of which formatted the disk, come to that bench.
pub record IsFormatted (size : Size) (start : List (List ℕ)) (lines : List Line) (b : Bench) : Type 0 where
  pub before : List Answer
  pub last : Answer
  pub run : Run size (bench_with start) lines (before ++ last ∷ []) b
  pub formats : last.line ≡ printed.Formatted

-- Up to that bench memory was never refused: to no power-on, no suspension, no examination, and not to the disk's record.
abbrev pub WasRefusedNoMemory : Bench → Type 0
WasRefusedNoMemory b = (b.growths ≡ 0) × (b.fault_state.own ≡ 0)

-- lives that are run one after another: power is out before each, and the board is off after each
abbrev pub Lives : Size → Bench → List (List Line) → Bench → Type 0
Lives size b [] new = new ≡ b
Lives size b (life ∷ more) new =
    (answers : List Answer) × (end : Bench) × Run size (unpowered b) life answers end × (end.power ≡ None)
    × Lives size (off end) more new

-- These lines are run as they are, and come to that bench, which is off.
pub record ComesTo (size : Size) (first : Bench) (lines : List Line) (b : Bench) : Type 0 where
  pub lives : List (List Line)
  pub all : flat_map (λ (life : List Line). life) lives ≡ lines
  pub run : Lives size first lives b

-- All lines are run as they are, and those of the last life to their end. No memory was refused.
pub record IsPlainRun (size : Size) (first : Bench) (lines : List Line) : Type 0 where
  pub before : ℕ
  pub bench : Bench
  pub lives : ComesTo size first (take before lines) bench
  pub answers : List Answer
  pub end : Bench
  pub run : Run size (unpowered bench) (drop before lines) answers end
  pub refused_none : WasRefusedNoMemory end

-- ---- where its calls are counted from
-- the first lines of a script that begins with these payloads formatted the disk last: the bench then, and the disk of the board there
pub record BeginsOn (size : Size) (start : List (List ℕ)) (lines : List Line) (first : Bench) (origin : SimDisk) : Type 0 where
  pub format : IsFormatted size start lines first
  pub stands : StandsOn size (off first) origin

-- All lines are run as they are, from the origin on, and `counts` says how many calls each caller made in them.
pub record CallsIn (size : Size) (origin : SimDisk) (first : Bench) (lines : List Line) (counts : List ℕ) : Type 0 where
  pub plain : IsPlainRun size first lines
  pub ended : SimDisk
  pub took : RunTook size lines origin ended
  pub made : AllZip (MadeCalls origin ended) callers counts

-- ---- a row
-- a power-on that looks what a run left: its slots are empty, and it keeps the image
abbrev pub LooksAt : Size → Bench → Answer → Bench → Type 0
LooksAt size b left after = PowersOn size modes.Keep (record b { payloads = no_payloads }) left after

-- that power-on found this state, and the board is on
abbrev pub shows : Durable → Answer
shows d = record { found = Some d; line = printed.On modes.Keep }

-- it found a state
abbrev pub ShowsState : Answer → Type 0
ShowsState left = (d : Durable) × (left ≡ shows d)

-- A run with a cut ends with the line within which it struck. One with a failure ends with the script, and nothing is armed any
-- more: the call failed, since the disk never failed by itself.
abbrev pub EndsAs : BenchKind → List Line → ℕ → List Answer → Bench → Type 0
EndsAs Cuts lines count answers end = (before : List Answer) × (answers ≡ before ++ says printed.PowerLost ∷ [])
EndsAs Fails lines count answers end = (count ≡ length lines) × (end.fault_state.armed ≡ Unarmed)

-- a run of `count` lines of `all` ended at that bench, where power is still to be taken
abbrev pub IsEnded : BenchKind → ℕ → ℕ → Bench → Type 0
IsEnded Cuts count all b = (b.fault_state.struck ≡ true) × (b.fault_state.own ≡ 0)
IsEnded Fails count all b = (count ≡ all) × (b.fault_state.struck ≡ false) × (b.fault_state.own ≡ 0) × (b.fault_state.armed ≡ Unarmed)

-- The first `count` lines run on a bench, on or off, with what that kind does at the caller's call armed, and no memory is refused. With
-- a cut these are the lines up to the one within which it strikes, with a failure all.
pub record RunsArmed (size : Size) (kind : BenchKind) (caller : Caller) (call : ℕ) (b : Bench) (lines : List Line) (count : ℕ) : Type 0 where
  pub few : count ≤ length lines
  pub answers : List Answer
  pub end : Bench
  pub run : Run size (armed_with (fault_at kind caller call) b) (take count lines) answers end
  pub ends : EndsAs kind lines count answers end
  pub refused_none : WasRefusedNoMemory end

-- what a cut with that fill leaves of the disk
abbrev pub cut_content : SimDisk → Fill → Content
cut_content disk fill = left_by_fill fill (synced (sim_log_of disk)) (sim_log_of disk).written

-- a power-on that keeps the image said that of the disk of a bench that is off: it found a state
pub record IsFound (size : Size) (b : Bench) (disk : SimDisk) (left : Answer) : Type 0 where
  pub after : Bench
  pub says : LooksAt size b left after
  pub finds : ShowsState left
  pub opens : OpensOf (facts disk).content left

-- The run ended with that disk, and power is still to be taken. What the fill leaves of the disk is what a power-on that keeps the image
-- said that of: it found a state.
pub record IsLeft (size : Size) (end : Bench) (disk : SimDisk) (fill : Fill) (left : Answer) : Type 0 where
  pub stands : StandsOn size end disk
  pub after : Bench
  pub says : LooksAt size (unpowered end) left after
  pub finds : ShowsState left
  pub opens : OpensOf (cut_content disk fill) left

-- The row is a run of lines with its call armed, on a bench on whose disk `made` calls were made before. Its fill says what the cut
-- after it leaves: zeros, where it has none.
pub record RunsWith (size : Size) (kind : BenchKind) (made : ℕ) (b : Bench) (lines : List Line) (row : Row) : Type 0 where
  pub call : ℕ
  pub counts : row.number ≡ made + call
  pub count : ℕ
  pub armed : RunsArmed size kind row.caller call b lines count
  pub at : Bench
  pub ended : IsEnded kind count (length lines) at
  pub same : unpowered at ≡ unpowered armed.end
  pub disk : SimDisk
  pub left : IsLeft size at disk (cut_fill row.fill) row.left

-- The row is such a run: the first `before` lines are run as they are, so are `more` lines of the life under way, and those after them are
-- run with its call armed. The number of the call is counted from the origin, the disk before the first line: in these first lines the
-- disk of the board that they were run on counted those made before.
pub record IsRunOf (size : Size) (kind : BenchKind) (origin : SimDisk) (first : Bench) (lines : List Line) (row : Row) : Type 0 where
  pub before : ℕ
  pub bench : Bench
  pub plain : ComesTo size first (take before lines) bench
  pub more : ℕ
  pub answers : List Answer
  pub at : Bench
  pub along : Run size (unpowered bench) (take more (drop before lines)) answers at
  pub disk : SimDisk
  pub stands : StandsOn size at disk
  pub took : RunTook size (take (before + more) lines) origin disk
  pub made : ℕ
  pub counted : MadeCalls origin disk row.caller made
  pub run : RunsWith size kind made at (drop (before + more) lines) row
