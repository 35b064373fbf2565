-- Schedules that several threads run, and what is written of them in their order.
use Rattle.std.specs.Prelude.{◌≡◌, ◌+◌, ℕ, List, [], ◌∷◌, Option, slice_index_or}
use Rattle.std.specs.Io.KnownBytes.{Appends}
use Rattle.disk.specs.Facts.{counted}
use Rattle.script_lang.specs.Scripts.{Script}
use Rattle.report_lines.specs.declared.printed.Answer.{Answer}
use Rattle.bench_schedules.specs.Numbers.{place_of_other}
use Rattle.bench_schedules.specs.Schedules.{Ran, RunText, differing}
use Rattle.bench_schedules.specs.declared.benches.DrawnRun.{DrawnRun}
use Rattle.bench_schedules.specs.declared.benches.DrawnReport.{DrawnReport}

-- A schedule was run under that number.
pub record IsDrawn (said : Script) (start : List (List ℕ)) (own : List Answer) (k : ℕ) (drawn : DrawnRun) : Type 0 where
  pub number : drawn.number ≡ k
  pub ran : Ran said start own drawn.differs

-- What is to be said of that schedule was written, and it was counted where it differs.
pub record TellsDrawn {C W : Type 0} (contents : W → Option (List ℕ)) (old : DrawnReport C W) (drawn : DrawnRun) (new : DrawnReport C W) : Type 0 where
  pub script : new.runner ≡ old.runner
  pub same : new.out.ghost_name ≡ old.out.ghost_name
  pub text : List ℕ
  pub tells : RunText (λ place. slice_index_or old.runner.now.numbers.now (1 + place_of_other place old.runner.now.lines.now) 0)
      drawn.number drawn.differs text
  pub written : Appends (contents old.out.now) (contents new.out.now) text
  pub count : new.differ ≡ counted old.differ (differing (drawn.differs ∷ []))
