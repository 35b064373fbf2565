use Rattle.std.proofs.lemmas.Result.{IfOk-weaker}
use Rattle.bench_sweep.proofs.{Made.over_all, Reported.swept_take, Rowed.judged_weaker}
use Rattle.bench_sweep.proofs.judging.run_at_point.Goals as goal

pub run_to_cut-requires-clause-lines : goal.run_to_cut-requires-clause-lines
run_to_cut-requires-clause-lines g c κs within = swept_take c.args.runner.now.setting.shape.now c.args.count c.args.runner.now.lines.now c.requires.lines

pub returns-in-Cuts : goal.returns-in-Cuts
returns-in-Cuts g c = record {
  judged = (rw c.in-Cuts.is (
      IfOk-weaker c.run_to_cut.result _ _ (λ rows did b l.
      judged_weaker _ _ rows _ (over_all c.args.runner.now.setting.shape.now c.args.point.before b c.args.runner.now.lines.now c.args.count c.requires.few) (did b l))
      c.run_to_cut.ensures.judged));
}

pub returns-in-Fails : goal.returns-in-Fails
returns-in-Fails g c = record { judged = (rw c.in-Fails.is c.run_past_failure.ensures.judged) }
