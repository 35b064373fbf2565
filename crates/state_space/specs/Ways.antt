-- The way to a row of a graph.
use Rattle.std.specs.Prelude.{◌≡◌, ℕ, ◌+◌, ◌<◌, List, map, length, slice_index_or}
use Rattle.state_space.specs.declared.graph.Graph.{Graph}
use Rattle.state_space.specs.declared.ways.Finding.{Finding}
use Rattle.state_space.specs.Orders.{Runs}
use Rattle.state_space.specs.Graphs.{StepOf, event_of}

-- of the k-th row after the start a step that leads to it, from an earlier row
abbrev pub IsFinding : Graph → ℕ → Finding → Type 0
IsFinding graph k finding = (finding.from < k + 1) × StepOf graph finding.step finding.from (k + 1)

abbrev pub AreFindings : Graph → List Finding → Type 0
AreFindings graph findings = (k : ℕ) (d : Finding) → k < length findings → IsFinding graph k (slice_index_or findings k d)

-- the events of steps that lead from the start to the row
abbrev pub IsWay : Graph → List ℕ → ℕ → Type 0
IsWay graph way row = (steps : List ℕ) × Runs (StepOf graph) steps 0 row × (map (event_of graph) steps ≡ way)
