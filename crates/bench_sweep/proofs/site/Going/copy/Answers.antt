use Rattle.std.proofs.Common.{refl}
use Rattle.bench_sweep.proofs.Left.{copied_runs}
use Rattle.bench_sweep.proofs.site.Going.copy.Goals as goal

pub returns-in_err-power-clause-stays : goal.returns-in_err-power-clause-stays
returns-in_err-power-clause-stays c = λ size b r. copied_runs size b c.args.self.now _ r (c.copy_power.ensures.stays size b r.agrees) refl (λ k t. t)

pub returns-clause-stays : goal.returns-clause-stays
returns-clause-stays c = λ size b r. copied_runs size b c.args.self.now _ r (c.copy_power.ensures.stays size b r.agrees) refl (λ k t. t)

pub returns-clause-runs : goal.returns-clause-runs
returns-clause-runs c = λ size b r. copied_runs size b c.args.self.now _ r (c.in_ok-power.ensures.copy size b r.agrees) c.in_ok-payloads.ensures c.in_ok-ledger.ensures.kept
