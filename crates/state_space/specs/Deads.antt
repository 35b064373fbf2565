-- Which rows of a graph reach a goal.
use Rattle.std.specs.Prelude.{◌≡◌, ℕ, ◌<◌, Bool, true, false, List, length, slice_index_or}
use Rattle.state_space.specs.declared.graph.Graph.{Graph}
use Rattle.state_space.specs.Graphs.{StepOf, IsEnd, event_of}
use Rattle.state_space.specs.Orders.{CanEnd}

-- the row has a mark among these
abbrev pub IsMarked : List Bool → ℕ → Type 0
IsMarked marks row = slice_index_or marks row false ≡ true

-- some steps by events of that kind lead from the row to one that is a goal
abbrev pub Reaches : (ℕ → Type 0) → Graph → List Bool → ℕ → Type 0
Reaches goes graph goals = CanEnd (StepOf graph) (λ step. goes (event_of graph step)) (IsMarked goals)

-- to one that is at an end
abbrev pub ReachesEnd : (ℕ → Type 0) → Graph → ℕ → Type 0
ReachesEnd goes graph = CanEnd (StepOf graph) (λ step. goes (event_of graph step)) (IsEnd graph)

-- those that are marked reach a goal
abbrev pub AreReaching : (ℕ → Type 0) → Graph → List Bool → List Bool → Type 0
AreReaching goes graph goals marks = (k : ℕ) → IsMarked marks k → Reaches goes graph goals k

-- the row is no goal, and no step by such an event leads from it to one that is marked
abbrev pub IsStuck : (ℕ → Type 0) → Graph → List Bool → List Bool → ℕ → Type 0
IsStuck goes graph goals marks k =
    (IsMarked goals k → ⊥)
    × ((i j : ℕ) → StepOf graph i k j → goes (event_of graph i) → IsMarked marks j → ⊥)

-- those that are not marked don't
abbrev pub AreStuck : (ℕ → Type 0) → Graph → List Bool → List Bool → Type 0
AreStuck goes graph goals marks = (k : ℕ) → k < length marks → slice_index_or marks k false ≡ false → IsStuck goes graph goals marks k
