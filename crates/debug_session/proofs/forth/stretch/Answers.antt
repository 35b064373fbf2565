use Rattle.debug_session.proofs.Wents.{stretched}
use Rattle.std.proofs.lemmas.Result.{IfOk-from_err}
use Rattle.debug_session.proofs.forth.stretch.Goals as goal

pub turns_to-requires-clause-at : goal.turns_to-requires-clause-at
turns_to-requires-clause-at g c κs within = c.requires.at

pub turns_to-requires-clause-hart : goal.turns_to-requires-clause-hart
turns_to-requires-clause-hart g c κs within = c.requires.hart

pub turns_to-requires-clause-most : goal.turns_to-requires-clause-most
turns_to-requires-clause-most g c κs within = c.requires.most

pub returns-in_err-row-clause-begins : goal.returns-in_err-row-clause-begins
returns-in_err-row-clause-begins g c = c.turns_to.ensures.begins

pub returns-in_err-push-clause-begins : goal.returns-in_err-push-clause-begins
returns-in_err-push-clause-begins g c = c.turns_to.ensures.begins

pub returns-clause-begins : goal.returns-clause-begins
returns-clause-begins g c = c.turns_to.ensures.begins

pub returns-clause-at : goal.returns-clause-at
returns-clause-at g c = c.in_ok-row.ensures.at

pub returns-clause-made : goal.returns-clause-made
returns-clause-made g c = stretched c.args.setting.now.shape.now c.args.hart c.args.most c.made.result c.args.points.now c.in_ok-row.row c.in_ok-row.rests c.halt_behind-halt.result c.args.timeline.now c.turns_to.new.self c.in_ok-row.ensures.made c.in_ok-row.ensures.within c.in_ok-row.ensures.why c.made.ensures c.halt_behind-halt.ensures

pub returns-in_err-row-clause-at : goal.returns-in_err-row-clause-at
returns-in_err-row-clause-at g c = IfOk-from_err c.from_residual.result _ c.from_residual.ensures.0

pub returns-in_err-row-clause-made : goal.returns-in_err-row-clause-made
returns-in_err-row-clause-made g c = IfOk-from_err c.from_residual.result _ c.from_residual.ensures.0

pub returns-in_err-push-clause-at : goal.returns-in_err-push-clause-at
returns-in_err-push-clause-at g c = IfOk-from_err c.from_residual-in_err-push.result _ c.from_residual-in_err-push.ensures.0

pub returns-in_err-push-clause-made : goal.returns-in_err-push-clause-made
returns-in_err-push-clause-made g c = IfOk-from_err c.from_residual-in_err-push.result _ c.from_residual-in_err-push.ensures.0
