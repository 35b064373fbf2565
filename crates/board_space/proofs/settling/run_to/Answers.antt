use Rattle.std.proofs.Common.{◌∙◌, subst}
use Rattle.board_model.specs.Shapes.{Size}
use Rattle.board_space.{specs.{Mapped.map_in, Space.IsSureTurn}, proofs.Chains.{settles_by, outside_on}}
use Rattle.board_space.proofs.settling.run_to.Goals as goal

pub loop-turn-preserved : goal.loop-turn-preserved
loop-turn-preserved c = record {
  settles = settles_by c.args.board.now.size (map_in c.args.map.now) c.args.leaves c.args.hart c.args.board.now.board c.loop-turn.board.board c.move_on.new.board.board c.loop-turn.invariant.settles (subst (λ (t : Size). IsSureTurn t (map_in c.args.map.now) c.args.leaves c.args.hart c.loop-turn.board.board c.move_on.new.board.board) c.loop-turn.invariant.size (c.move_on.ensures.local c.if-not-move_on.false));
  size = c.move_on.ensures.size ∙ c.loop-turn.invariant.size;
  raw = c.move_on.ensures.raw ∙ c.loop-turn.invariant.raw;
  memory = outside_on (map_in c.args.map.now) c.args.board.now.machine.memory c.loop-turn.board.machine.memory c.move_on.new.board.machine.memory c.loop-turn.invariant.memory c.move_on.ensures.outside;
}
