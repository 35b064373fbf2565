use Rattle.std.proofs.lemmas.Result.{IfOk-from_err}
use Rattle.store.proofs.opens.read_gate.Goals as goal

pub returns-in_err-gate-clause-selects : goal.returns-in_err-gate-clause-selects
returns-in_err-gate-clause-selects g c = IfOk-from_err c.from_residual.result _ c.from_residual.ensures.0

pub returns-in_err-gate-clause-known : goal.returns-in_err-gate-clause-known
returns-in_err-gate-clause-known g c = IfOk-from_err c.from_residual.result _ c.from_residual.ensures.0
