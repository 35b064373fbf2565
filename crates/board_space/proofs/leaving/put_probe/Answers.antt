use Rattle.board_space.proofs.LeftHarts.{none_off, none_ended}
use Rattle.board_space.proofs.leaving.put_probe.Goals as goal

pub returns-in-Off-clause-other : goal.returns-in-Off-clause-other
returns-in-Off-clause-other c is left = none_off c.args.hart c.args.number c.args.board.now.board c.in-Off.ensures left

pub returns-in-Ended-clause-other : goal.returns-in-Ended-clause-other
returns-in-Ended-clause-other c is left = none_ended c.args.hart c.args.number c.args.board.now.board c.in-Ended.ensures left
