use Rattle.std.proofs.{Common.{sym, subst, arith}, lemmas.Result.IfOk-from_err}
use Rattle.bench_sweep.specs.{declared.site.Site.Site, Runs.IsLife}
use Rattle.bench_sweep.proofs.sweeps.sweep_stretch.Goals as goal

pub run_at_calls-requires-clause-numbers : goal.run_at_calls-requires-clause-numbers
run_at_calls-requires-clause-numbers g c κs within = let made = c.in-Ok.ensures in omega (arith, c.requires.made, made.calls, made.below)

pub returns-clause-lives : goal.returns-clause-lives
returns-clause-lives g c = λ b r.
    let L : Site → Type 0 = λ s. IsLife c.args.runner.now.setting.shape.now b c.args.runner.now.lines.now c.in_ok-count.field-0.count s in
    subst L (sym c.replace.ensures.after) (c.in_ok-count.ensures.lives b r)

pub returns-in-Err-clause-below : goal.returns-in-Err-clause-below
returns-in-Err-clause-below g c = tt

pub returns-in-Err-clause-calls : goal.returns-in-Err-clause-calls
returns-in-Err-clause-calls g c = tt

pub returns-in-Err-clause-few : goal.returns-in-Err-clause-few
returns-in-Err-clause-few g c = tt

pub returns-in-Err-clause-lives : goal.returns-in-Err-clause-lives
returns-in-Err-clause-lives g c = tt

pub returns-in-Err-clause-sits : goal.returns-in-Err-clause-sits
returns-in-Err-clause-sits g c = tt

pub returns-in-Err-clause-some : goal.returns-in-Err-clause-some
returns-in-Err-clause-some g c = tt

pub returns-in-Err-clause-took : goal.returns-in-Err-clause-took
returns-in-Err-clause-took g c = tt

pub returns-in-Err-clause-wrote : goal.returns-in-Err-clause-wrote
returns-in-Err-clause-wrote g c = tt

pub returns-in-Err-run_at_calls-clause-below : goal.returns-in-Err-run_at_calls-clause-below
returns-in-Err-run_at_calls-clause-below g c = tt

pub returns-in-Err-run_at_calls-clause-calls : goal.returns-in-Err-run_at_calls-clause-calls
returns-in-Err-run_at_calls-clause-calls g c = tt

pub returns-in-Err-run_at_calls-clause-few : goal.returns-in-Err-run_at_calls-clause-few
returns-in-Err-run_at_calls-clause-few g c = tt

pub returns-in-Err-run_at_calls-clause-lives : goal.returns-in-Err-run_at_calls-clause-lives
returns-in-Err-run_at_calls-clause-lives g c = tt

pub returns-in-Err-run_at_calls-clause-sits : goal.returns-in-Err-run_at_calls-clause-sits
returns-in-Err-run_at_calls-clause-sits g c = tt

pub returns-in-Err-run_at_calls-clause-some : goal.returns-in-Err-run_at_calls-clause-some
returns-in-Err-run_at_calls-clause-some g c = tt

pub returns-in-Err-run_at_calls-clause-took : goal.returns-in-Err-run_at_calls-clause-took
returns-in-Err-run_at_calls-clause-took g c = tt

pub returns-in-Err-run_at_calls-clause-wrote : goal.returns-in-Err-run_at_calls-clause-wrote
returns-in-Err-run_at_calls-clause-wrote g c = tt

pub returns-in_err-count-clause-below : goal.returns-in_err-count-clause-below
returns-in_err-count-clause-below g c = IfOk-from_err c.from_residual.result _ c.from_residual.ensures.0

pub returns-in_err-count-clause-calls : goal.returns-in_err-count-clause-calls
returns-in_err-count-clause-calls g c = IfOk-from_err c.from_residual.result _ c.from_residual.ensures.0

pub returns-in_err-count-clause-few : goal.returns-in_err-count-clause-few
returns-in_err-count-clause-few g c = IfOk-from_err c.from_residual.result _ c.from_residual.ensures.0

pub returns-in_err-count-clause-lives : goal.returns-in_err-count-clause-lives
returns-in_err-count-clause-lives g c = IfOk-from_err c.from_residual.result _ c.from_residual.ensures.0

pub returns-in_err-count-clause-sits : goal.returns-in_err-count-clause-sits
returns-in_err-count-clause-sits g c = IfOk-from_err c.from_residual.result _ c.from_residual.ensures.0

pub returns-in_err-count-clause-some : goal.returns-in_err-count-clause-some
returns-in_err-count-clause-some g c = IfOk-from_err c.from_residual.result _ c.from_residual.ensures.0

pub returns-in_err-count-clause-took : goal.returns-in_err-count-clause-took
returns-in_err-count-clause-took g c = IfOk-from_err c.from_residual.result _ c.from_residual.ensures.0

pub returns-in_err-count-clause-wrote : goal.returns-in_err-count-clause-wrote
returns-in_err-count-clause-wrote g c = IfOk-from_err c.from_residual.result _ c.from_residual.ensures.0

pub run_at_calls-requires-clause-lines : goal.run_at_calls-requires-clause-lines
run_at_calls-requires-clause-lines g c κs within = c.requires.lines

pub run_at_calls-requires-clause-sits : goal.run_at_calls-requires-clause-sits
run_at_calls-requires-clause-sits g c κs within = c.requires.sits

pub stretch_of-requires-clause-lines : goal.stretch_of-requires-clause-lines
stretch_of-requires-clause-lines g c κs within = c.requires.lines

pub stretch_of-requires-clause-sits : goal.stretch_of-requires-clause-sits
stretch_of-requires-clause-sits g c κs within = c.requires.sits
