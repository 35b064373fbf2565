-- A run under way: which lines ran, and what those answered that are no turns.
use Rattle.std.specs.Prelude.{◌≡◌, ℕ, List, Option, take}
use Rattle.board_model.specs.Shapes.{Size}
use Rattle.script_lang.specs.declared.line.Line.{Line}
use Rattle.bench_report.specs.Bench.{Bench, bench_with}
use Rattle.bench_report.specs.Steps.{Moves, Run}
use Rattle.report_lines.specs.declared.printed.Answer.{Answer}
use Rattle.bench_report.specs.Lives.{Shows}
use Rattle.bench_report.specs.declared.live.LiveBench.{LiveBench}
use Rattle.bench_schedules.specs.Schedules.{ToldLike, other_answers}
use Rattle.bench_schedules.specs.declared.runs.Difference.{Difference}

-- a line ran on the one bench, which is the other then, and memory was not refused in it
abbrev pub LineRan : Size → Line → Answer → LiveBench → LiveBench → Type 0
LineRan size line a old new =
    (b : Bench) → Shows size b old → (c : Bench) × Moves size line b a c × Shows size c new × (c.growths ≡ b.growths)

-- from that bench of the model on these lines ran with no memory refused, and their answers, but for those of turns, were these
pub record RunSoFar (size : Size) (from : Bench) (those : List Line) (said : List Answer) (live : LiveBench) : Type 0 where
  pub answers : List Answer
  pub bench : Bench
  pub run : Run size from those answers bench
  pub shows : Shows size bench live
  pub memory : bench.growths ≡ from.growths
  pub told : other_answers those answers ≡ said

-- some first lines ran, up to the one that answered other than the script's own run did; or, where none did, all of them
pub record WentLike (size : Size) (start : List (List ℕ)) (those : List Line) (own : List Answer) (differs : Option Difference) (live : LiveBench) : Type 0 where
  pub n : ℕ
  pub said : List Answer
  pub goes : RunSoFar size (bench_with start) (take n those) said live
  pub like : ToldLike own said differs
