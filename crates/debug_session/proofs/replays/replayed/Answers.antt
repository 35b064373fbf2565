use Rattle.std.proofs.{Common.{ap, ◌∙◌}, lemmas.Result.IfOk-from_err}
use Rattle.bench_report.specs.Agree.{fills_after}
use Rattle.debug_session.proofs.replays.replayed.Goals as goal

pub returns-in-Ok-clause-left : goal.returns-in-Ok-clause-left
returns-in-Ok-clause-left g c = c.in-Ok.ensures.left c.args.begins.now c.in_ok-bench.ensures.shows

pub returns-in-Ok-clause-fill : goal.returns-in-Ok-clause-fill
returns-in-Ok-clause-fill g c = c.in-Ok.ensures.fill ∙ ap (fills_after c.args.lines.now) c.in_ok-bench.ensures.fill

pub replay_all-requires-clause-ranges : goal.replay_all-requires-clause-ranges
replay_all-requires-clause-ranges g c κs within = c.requires.ranges

pub replay_all-requires-clause-sound : goal.replay_all-requires-clause-sound
replay_all-requires-clause-sound g c κs within = c.in_ok-bench.ensures.sound

pub returns-in-Ok-clause-sound : goal.returns-in-Ok-clause-sound
returns-in-Ok-clause-sound g c = c.in-Ok.ensures.sound

pub returns-in-Err-clause-left : goal.returns-in-Err-clause-left
returns-in-Err-clause-left g c = tt

pub returns-in-Err-clause-sound : goal.returns-in-Err-clause-sound
returns-in-Err-clause-sound g c = tt

pub returns-in-Err-clause-fill : goal.returns-in-Err-clause-fill
returns-in-Err-clause-fill g c = tt

pub returns-in_err-bench-clause-left : goal.returns-in_err-bench-clause-left
returns-in_err-bench-clause-left g c = IfOk-from_err c.from_residual.result _ c.from_residual.ensures.0

pub returns-in_err-bench-clause-sound : goal.returns-in_err-bench-clause-sound
returns-in_err-bench-clause-sound g c = IfOk-from_err c.from_residual.result _ c.from_residual.ensures.0

pub returns-in_err-bench-clause-fill : goal.returns-in_err-bench-clause-fill
returns-in_err-bench-clause-fill g c = IfOk-from_err c.from_residual.result _ c.from_residual.ensures.0
