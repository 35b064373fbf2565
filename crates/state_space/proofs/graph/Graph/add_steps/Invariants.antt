use Rattle.state_space.specs.Growing.{IsGrowing}
use Rattle.state_space.proofs.graph.Graph.add_steps.Given as goal

abbrev pub invariant-loop-number : goal.invariant-loop-number
invariant-loop-number l = IsGrowing l.initial.self l.self l.found l.number
