use Rattle.board_space.{specs.Searches.HasTurn, proofs.Searching.each_below}
use Rattle.board_space.proofs.followed.has_turns.Goals as goal

pub loop-hart-preserved : goal.loop-hart-preserved
loop-hart-preserved c =
    each_below (HasTurn c.args.graph.now c.args.row) c.loop-hart.hart c.loop-hart.invariant (c.has_turn.ensures c.if-not-has_turn.false)
