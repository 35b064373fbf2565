use Rattle.std.proofs.Common.{◌∙◌, ap, sym}
use Rattle.disk.specs.FaultState.{FaultState}
use Rattle.bench_schedules.proofs.line_runs.end_run.Goals as goal

pub returns : goal.returns
returns c = record {
  well = (λ b shows. ap (λ (m : FaultState). m.own) (c.into_disk.ensures.left c.args.shape.now b shows).2.0 ∙ sym c.refused.ensures ∙ c.if-refused-ne0.false);
}
