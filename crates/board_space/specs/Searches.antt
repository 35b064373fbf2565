-- A search of a board's states, in every order, or with what is left in the first numbers of each row: of the switches in two, or of the
-- power-ons in one.
use Rattle.std.specs.Prelude.{◌≡◌, ◌↔◌, ℕ, ◌<◌, ◌≤◌, List, drop}
use Rattle.model_board.specs.Boards.{Board}
use Rattle.model_board.specs.Events.{IsEnd}
use Rattle.model_board.specs.Maps.{Map}
use Rattle.state_space.specs.declared.graph.Graph.{Graph}
use Rattle.state_space.specs.Graphs.{count_of, expanded_of, event_of, row_at, IsSearched, IsWhole, StepOf, IsEnd as EndsAt}
use Rattle.state_space.specs.Bounded.{Budget}
use Rattle.state_space.specs.Counted.{StandsCounted}
use Rattle.state_space.specs.Switched.{StandsWithin}
use Rattle.board_space.specs.Few.{few_rules, life_rules, IsAwayBy}
use Rattle.board_space.specs.Mapped.{map_in}
use Rattle.board_space.specs.Covering.{StandsAll}
use Rattle.board_space.specs.Settings.{asked_of}
use Rattle.board_space.specs.Space.{Asked, board_rules}
use Rattle.board_space.specs.declared.bounds.Bound.{Bound}
use Rattle.board_space.specs.declared.bounds.Bound.TheVariants.{Unbounded, Preemptions, PowerOns}
use Rattle.board_space.specs.declared.space.BoardSpace.{BoardSpace}

-- a row stands for the board, whatever is left there
abbrev pub StandsFew : (List ℕ → Board → Type 0) → List ℕ → Board → Type 0
StandsFew stands row b = (w : Budget) × StandsWithin stands row (record { state = b; budget = w })

abbrev pub StandsLives : (List ℕ → Board → Type 0) → List ℕ → Board → Type 0
StandsLives stands row b = (left : ℕ) × StandsCounted stands row (record { state = b; left = left })

abbrev pub StandsBy : Bound → (List ℕ → Board → Type 0) → List ℕ → Board → Type 0
StandsBy Unbounded stands = stands
StandsBy (Preemptions switches) stands = StandsFew stands
StandsBy (PowerOns most) stands = StandsLives stands

-- the numbers of a row that are the board's
abbrev pub board_part : Bound → List ℕ → List ℕ
board_part Unbounded row = row
board_part (Preemptions switches) row = drop 2 row
board_part (PowerOns most) row = drop 1 row

abbrev pub IsSearchBy : Asked → Map → Bound → (List ℕ → Board → Type 0) → Graph → Type 0
IsSearchBy asked map Unbounded stands graph = IsSearched (board_rules asked map) stands graph
IsSearchBy asked map (Preemptions switches) stands graph = IsSearched (few_rules asked map switches) (StandsWithin stands) graph
IsSearchBy asked map (PowerOns most) stands graph = IsSearched (life_rules asked map most) (StandsCounted stands) graph

-- such a search, and what all kinds have in common
pub record IsSearch (asked : Asked) (map : Map) (bound : Bound) (stands : List ℕ → Board → Type 0) (graph : Graph) : Type 0 where
  pub by : IsSearchBy asked map bound stands graph
  pub whole : IsWhole graph
  pub most : expanded_of graph ≤ count_of graph
  pub known : (k : ℕ) → k < count_of graph → (b : Board) × StandsBy bound stands (row_at graph k) b
  pub ends : (k : ℕ) (b : Board) → k < expanded_of graph → StandsBy bound stands (row_at graph k) b → EndsAt graph k ↔ IsEnd b

abbrev pub IsSearchOf : BoardSpace → Bound → Graph → Type 0
IsSearchOf space bound graph = IsSearch (asked_of space) (map_in space.map) bound (StandsAll space.leaves space.rows) graph

-- ---- what is known of all that follows a board
-- a turn of that hart is among the row's steps
abbrev pub HasTurn : Graph → ℕ → ℕ → Type 0
HasTurn graph row hart = (i : ℕ) × (to : ℕ) × StepOf graph i row to × (event_of graph i ≡ hart)

-- The row is expanded and at no end, and a turn of each hart is among its steps: none was left out for want of a switch. Nor was a power-on:
-- where they are bounded, its board is not off.
pub record IsFollowed (harts : ℕ) (bound : Bound) (stands : List ℕ → Board → Type 0) (graph : Graph) (row : ℕ) : Type 0 where
  pub expanded : row < expanded_of graph
  pub goes : EndsAt graph row → ⊥
  pub turns : (h : ℕ) → h < harts → HasTurn graph row h
  pub stays : (b : Board) → StandsBy bound stands (row_at graph row) b → IsAwayBy bound b → ⊥
