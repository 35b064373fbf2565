use Rattle.std.proofs.Common.{◌∙◌, ap}
use Rattle.disk.specs.FaultState.{FaultState}
use Rattle.bench_sweep.proofs.judging.turn_off_failed.Goals as goal

pub returns-clause-whole : goal.returns-clause-whole
returns-clause-whole c = c.if-count-all.false

pub returns-clause-runs : goal.returns-clause-runs
returns-clause-runs c = λ size b r.
    let left = c.in_ok-left.ensures.runs size b r in
    (left.0, left.1, ap (λ (m : FaultState). m.armed) left.2.agrees.2.0 ∙ c.is_armed.ensures.0 c.if-is_armed.false, left.2)
