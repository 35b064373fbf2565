-- A way from the start.
use Rattle.std.specs.Prelude.{ℕ, List}
use Rattle.model_board.specs.Boards.{Board}
use Rattle.model_board.specs.Maps.{Map}
use Rattle.state_space.specs.Orders.{Runs}
use Rattle.state_space.specs.Systems.{Moves}
use Rattle.board_space.specs.Space.{Asked, Settles, board_rules, start_of}

-- Events of these numbers lead on from the board that was never on, once it has settled. After each of them the board settles too, by turns that
-- are local by some map.
abbrev pub IsWayOf : Asked → List ℕ → Type 0
IsWayOf asked way =
    (map : Map) × (first : Board) × (last : Board) × Settles asked.size map (start_of asked) first × Runs (Moves (board_rules asked map)) way first last
