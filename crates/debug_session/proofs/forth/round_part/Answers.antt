use Rattle.std.proofs.lemmas.Result.{IfOk-from_err}
use Rattle.debug_session.proofs.forth.round_part.Goals as goal

pub run_part-requires-clause-at : goal.run_part-requires-clause-at
run_part-requires-clause-at g c κs within = c.requires.at

pub run_part-requires-clause-hart : goal.run_part-requires-clause-hart
run_part-requires-clause-hart g c κs within = c.requires.hart

pub run_part-requires-clause-most : goal.run_part-requires-clause-most
run_part-requires-clause-most g c κs within = c.requires.most.1

pub returns-clause-first : goal.returns-clause-first
returns-clause-first g c = c.in_ok-did.ensures.first

pub returns-clause-harts : goal.returns-clause-harts
returns-clause-harts g c = c.made.ensures.harts

pub returns-clause-went : goal.returns-clause-went
returns-clause-went g c = (c.in_ok-did.did.made, c.made.ensures.left, c.in_ok-did.ensures.went)

pub returns-in_err-did-clause-went : goal.returns-in_err-did-clause-went
returns-in_err-did-clause-went g c = IfOk-from_err c.from_residual.result _ c.from_residual.ensures.0

pub returns-in_err-did-clause-first : goal.returns-in_err-did-clause-first
returns-in_err-did-clause-first g c = IfOk-from_err c.from_residual.result _ c.from_residual.ensures.0

pub returns-in_err-did-clause-harts : goal.returns-in_err-did-clause-harts
returns-in_err-did-clause-harts g c = IfOk-from_err c.from_residual.result _ c.from_residual.ensures.0
