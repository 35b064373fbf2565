use Rattle.board_space.proofs.Seen.{away_for, for_away}
use Rattle.board_space.proofs.space.BoardSpace.is_off.Goals as goal

pub returns-clause-off : goal.returns-clause-off
returns-clause-off c is d all =
    away_for c.args.self.now.leaves all.0 d all.2 (c.is_off.ensures.off is all.0 all.1)

pub returns-clause-other : goal.returns-clause-other
returns-clause-other c is d all away =
    c.is_off.ensures.other is all.0 all.1 (for_away c.args.self.now.leaves all.0 d all.2 away)
