use Rattle.state_space.specs.Deads.{AreReaching}
use Rattle.state_space.proofs.ends.go_on.Given as goal

abbrev pub invariant-loop-pass : goal.invariant-loop-pass
invariant-loop-pass g l = AreReaching (g.S.System.rules (g.S.System.setting l.system)).goes l.graph l.goals l.marks
