use Rattle.state_space.proofs.Dead.{stuck_more}
use Rattle.state_space.proofs.ends.go_over.Goals as goal

pub loop-up-preserved : goal.loop-up-preserved
loop-up-preserved g c = record {
  reaching = c.mark-any.ensures.reaching;
  stuck = stuck_more (g.S.System.rules (g.S.System.setting c.args.system.now)).goes c.args.graph.now c.args.goals.now c.loop-up.marks c.mark-any.new.marks c.loop-up.any c.mark-any.result c.loop-up.up c.loop-up.invariant.stuck c.mark-any.ensures.same c.mark-any.ensures.stuck;
}
