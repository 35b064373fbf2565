use Rattle.bench_sweep.proofs.Left.{left_by}
use Rattle.bench_sweep.proofs.site.Site.copy.Goals as goal

pub returns-clause-runs : goal.returns-clause-runs
returns-clause-runs c = λ size b r.
    let l = left_by size b c.args.self.now c.in_ok-off.off c.in_ok-payloads.payloads c.in_ok-ledger.ledger r (c.in_ok-off.ensures.left size b r.agrees) c.in_ok-payloads.ensures c.in_ok-ledger.ensures.kept in
    record { agrees = l.off; same = l.same; follows = l.follows }
