-- The rows that a search found, and the steps between them.
use Rattle.std.specs.Prelude.{◌≡◌, ◌↔◌, ℕ, ◌+◌, ◌-◌, ◌<◌, ◌≤◌, Bool, true, false, List, slice_index, slice_index_or, length}
use Rattle.state_space.specs.declared.found.Successors.{Successors}
use Rattle.state_space.specs.declared.graph.Graph.{Graph}
use Rattle.state_space.specs.Begins.{begin_of}
use Rattle.state_space.specs.Numbered.{row_count, row_of, row_width}
use Rattle.state_space.specs.Successors.{found_count, found_event, found_row}
use Rattle.state_space.specs.Systems.{Rules, IsExpanded}

-- how many rows there are, and how many of them, the first ones, are expanded
abbrev pub count_of : Graph → ℕ
count_of graph = row_count graph.rows

abbrev pub expanded_of : Graph → ℕ
expanded_of graph = length graph.ends_at.items

abbrev pub row_at : Graph → ℕ → List ℕ
row_at graph = row_of graph.rows

-- of an expanded row the number of its first step, and of the first after its last
abbrev pub first_step : Graph → ℕ → ℕ
first_step graph = begin_of graph.ends_at.items

abbrev pub end_step : Graph → ℕ → ℕ
end_step graph = slice_index graph.ends_at.items

-- of a step the row that it leads to, and its event
abbrev pub target_of : Graph → ℕ → ℕ
target_of graph = slice_index graph.targets.items

abbrev pub event_of : Graph → ℕ → ℕ
event_of graph = slice_index graph.events.items

-- a step leads from a row to another
abbrev pub StepOf : Graph → ℕ → ℕ → ℕ → Type 0
StepOf graph step from to =
    (from < expanded_of graph) × (first_step graph from ≤ step) × (step < end_step graph from) × (to ≡ target_of graph step)

-- the state of an expanded row is at an end
abbrev pub IsEnd : Graph → ℕ → Type 0
IsEnd graph row = (row < expanded_of graph) × (slice_index_or graph.is_end.items row false ≡ true)

-- the tables of a graph fit one another
pub record IsWhole (graph : Graph) : Type 0 where
  pub events : length graph.events.items ≡ length graph.targets.items
  pub ends : length graph.is_end.items ≡ length graph.ends_at.items
  pub all : begin_of graph.ends_at.items (length graph.ends_at.items) ≡ length graph.targets.items
  pub in_order : (k : ℕ) → k < expanded_of graph → first_step graph k ≤ end_step graph k
  pub within : (k : ℕ) → k < expanded_of graph → end_step graph k ≤ length graph.targets.items
  pub lead : (i : ℕ) → i < length graph.targets.items → target_of graph i < count_of graph

-- What a graph has more where one more row was expanded, whose successors these are.
pub record IsAdded (old new : Graph) (found : Successors) (is_end : Bool) : Type 0 where
  pub rows : (k : ℕ) → k < count_of old → row_at new k ≡ row_at old k
  pub grown : count_of old ≤ count_of new
  pub width : row_width new.rows ≡ row_width old.rows
  pub one : expanded_of new ≡ expanded_of old + 1
  pub begins : (k : ℕ) → k < expanded_of old → (first_step new k ≡ first_step old k) × (end_step new k ≡ end_step old k)
  pub steps : (i : ℕ) → i < length old.targets.items → (target_of new i ≡ target_of old i) × (event_of new i ≡ event_of old i)
  pub ends : (k : ℕ) → k < expanded_of old → slice_index_or new.is_end.items k false ≡ slice_index_or old.is_end.items k false
  pub first : first_step new (expanded_of old) ≡ length old.targets.items
  pub last : end_step new (expanded_of old) ≡ length old.targets.items + found_count found
  pub end : slice_index_or new.is_end.items (expanded_of old) false ≡ is_end
  pub successors : (i : ℕ) → i < found_count found → (event_of new (length old.targets.items + i) ≡ found_event found i) × (row_at new (target_of new (length old.targets.items + i)) ≡ found_row found i)
  pub new_rows : (k : ℕ) → count_of old ≤ k → k < count_of new → (i : ℕ) × (i < found_count found) × (target_of new (length old.targets.items + i) ≡ k)

-- What a search found so far.
pub record IsSearched {State : Type 0} (rules : Rules State) (stands : List ℕ → State → Type 0) (graph : Graph) : Type 0 where
  pub whole : IsWhole graph
  pub some : 0 < count_of graph
  pub most : expanded_of graph ≤ count_of graph
  pub start : (b : State) × rules.settles rules.start b × stands (row_at graph 0) b
  -- each row stands for a state, and each but the first is reached from an earlier one
  pub known : (k : ℕ) → k < count_of graph → (b : State) × stands (row_at graph k) b
  pub reached : (k : ℕ) → k < count_of graph → 0 < k → (j : ℕ) × (j < k) × ((i : ℕ) × StepOf graph i j k)
  -- the steps of an expanded row are those of its state
  pub expanded : (k : ℕ) (b : State) → k < expanded_of graph → stands (row_at graph k) b → IsExpanded rules stands (end_step graph k - first_step graph k) (λ i. event_of graph (first_step graph k + i)) (λ i. row_at graph (target_of graph (first_step graph k + i))) b
  pub ends : (k : ℕ) (b : State) → k < expanded_of graph → stands (row_at graph k) b → IsEnd graph k ↔ rules.is_end b

-- a row of the graph stands for the state
abbrev pub IsFound : {State : Type 0} → (List ℕ → State → Type 0) → Graph → State → Type 0
IsFound stands graph b = (k : ℕ) × (k < count_of graph) × stands (row_at graph k) b

-- The set is closed: each of its states keeps the system's map, and each step of it settles to one of the set.
abbrev pub IsCovered : {State : Type 0} → Rules State → (State → Type 0) → Type 0
IsCovered {State} rules set =
    (b : State) → set b → rules.keeps b
    × ((e : ℕ) (mid : State) → rules.steps e b mid → (to : State) × rules.settles mid to × set to)

-- The set has no end: none of its states is at one, and each step by which a state goes on settles to one of the set.
abbrev pub IsEndless : {State : Type 0} → Rules State → (State → Type 0) → Type 0
IsEndless {State} rules set =
    (b : State) → set b → (rules.is_end b → ⊥)
    × ((e : ℕ) (mid : State) → rules.goes e → rules.steps e b mid → (to : State) × rules.settles mid to × set to)
