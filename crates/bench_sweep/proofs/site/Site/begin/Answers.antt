use Rattle.std.proofs.Common.{refl}
use Rattle.bench_sweep.proofs.site.Site.begin.Goals as goal

pub returns-clause-runs : goal.returns-clause-runs
returns-clause-runs c = λ size b r.
    let at = c.in_ok-off.ensures.runs size b r in
    record { agrees = at.agrees; same = at.same; follows = at.follows; calm = refl }
