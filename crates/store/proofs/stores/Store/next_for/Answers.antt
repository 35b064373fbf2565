use Rattle.std.proofs.lemmas.Result.{IfOk-from_err}
use Rattle.store.proofs.stores.Store.next_for.Goals as goal

pub returns-in_err-takes-clause-ok : goal.returns-in_err-takes-clause-ok
returns-in_err-takes-clause-ok g c = IfOk-from_err c.from_residual.result _ c.from_residual.ensures.0
