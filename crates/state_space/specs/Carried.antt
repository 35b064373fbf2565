-- What was found of rows by a system beside the one that is searched, and what it is in the numbers of that one.
use Rattle.std.specs.Prelude.{◌≡◌, ◌≢◌, ◌↔◌, ℕ, ◌+◌, ◌<◌, ◌≤◌, List, All, false, length, slice_index, true}
use Rattle.state_space.specs.declared.found.Successors.{Successors}
use Rattle.state_space.specs.declared.graph.Graph.{Graph}
use Rattle.state_space.specs.declared.workers.Made.{Made}
use Rattle.state_space.specs.declared.workers.Worker.{Worker}
use Rattle.state_space.specs.Graphs.{count_of, expanded_of, row_at}
use Rattle.state_space.specs.Numbered.{row_width}
use Rattle.state_space.specs.Successors.{found_count, found_event, found_row, found_width}
use Rattle.state_space.specs.Systems.{Rules, IsExpanded, Stay}

-- the number of no row
abbrev pub NOWHERE : ℕ
NOWHERE = 4294967295

-- the row has that number in the graph
abbrev pub IsTarget : Graph → List ℕ → ℕ → Type 0
IsTarget graph row target = (target < count_of graph) × (row_at graph target ≡ row)

-- the numbers of successors in a graph, as far as they are known
abbrev pub AreTargets : Graph → Successors → List ℕ → Type 0
AreTargets graph found targets =
    (i : ℕ) → i < found_count found → i < length targets → slice_index targets i ≢ NOWHERE → IsTarget graph (found_row found i) (slice_index targets i)

-- These are the successors of a row of the graph, whose rows are those of `main`: in its numbers, or in those of another system.
pub record IsMade {State : Type 0} (rules : Rules State) (main own : List ℕ → State → Type 0) (graph : Graph) (made : Made) : Type 0 where
  pub within : made.row < count_of graph
  pub targets : AreTargets graph made.found made.targets.items
  pub told : made.is_known ≡ false → (b : State) → main (row_at graph made.row) b → IsExpanded rules own (found_count made.found) (found_event made.found) (found_row made.found) b
  pub known : made.is_known ≡ true → (b : State) → main (row_at graph made.row) b → IsExpanded rules main (found_count made.found) (found_event made.found) (found_row made.found) b
  pub width : made.is_known ≡ true → found_width made.found ≡ row_width graph.rows
  pub ended : (b : State) → main (row_at graph made.row) b → (made.is_end ≡ true) ↔ rules.is_end b

-- the first so many successors are carried over: each stands for what it stood for
pub record IsCarried {State : Type 0} (own main : List ℕ → State → Type 0) (from to : Successors) (n : ℕ) : Type 0 where
  pub count : found_count to ≡ n
  pub events : (i : ℕ) → i < n → found_event to i ≡ found_event from i
  pub rows : (i : ℕ) (b : State) → i < n → own (found_row from i) b → main (found_row to i) b

-- one more successor was found, which stands for what the row of another system does
pub record IsPushed {State : Type 0} (own main : List ℕ → State → Type 0) (old new : Successors) (event : ℕ) (row : List ℕ) : Type 0 where
  pub counted : found_count new ≡ found_count old + 1
  pub is_of : found_event new (found_count old) ≡ event
  pub stands : (b : State) → own row b → main (found_row new (found_count old)) b
  pub events_stay : (k : ℕ) → k < found_count old → found_event new k ≡ found_event old k
  pub rows_stay : (k : ℕ) → k < found_count old → found_row new k ≡ found_row old k

-- a graph with more rows: what the first ones stand for stays
pub record IsLater {State : Type 0} (before after : List ℕ → State → Type 0) (old new : Graph) : Type 0 where
  pub stays : Stay before after
  pub rows : (k : ℕ) → k < count_of old → row_at new k ≡ row_at old k
  pub grown : count_of old ≤ count_of new
  pub more : expanded_of old ≤ expanded_of new
  pub width : row_width new.rows ≡ row_width old.rows

-- A system beside `main` is of the same setting, and what each of the two remembers of the numbers of the other one is right.
pub record IsBeside {S Setting Memo : Type 0} (setting : S → Setting) (knows : S → S → Memo → Type 0) (main system : S) (memo back : Memo) : Type 0 where
  pub alike : setting system ≡ setting main
  pub to_own : knows main system memo
  pub to_main : knows system main back

-- it is, and what it found is of rows of the graph
pub record AreMade {S State Setting Memo : Type 0} (setting : S → Setting) (rules : Setting → Rules State) (stands : S → List ℕ → State → Type 0) (knows : S → S → Memo → Type 0) (main : S) (graph : Graph) (worker : Worker S Memo) : Type 0 where
  pub beside : IsBeside setting knows main worker.system worker.memo worker.back
  pub each : All (IsMade (rules (setting main)) (stands main) (stands worker.system) graph) worker.made.items
