use Rattle.std.proofs.Common.{◌≡◌, ℕ, List, map, reverse}
use Rattle.state_space.specs.{Orders.Runs, Graphs.{StepOf, event_of}}
use Rattle.state_space.proofs.ways.way_to.Given as goal

abbrev pub invariant-loop-at : goal.invariant-loop-at
invariant-loop-at l =
    (steps : List ℕ) × Runs (StepOf l.graph) steps l.at l.row × (map (event_of l.graph) steps ≡ reverse l.way.items)

abbrev pub decreases-loop-at : goal.decreases-loop-at
decreases-loop-at l = l.at
