-- What a board shows at its end.
use Rattle.std.specs.Prelude.{◌≡◌, ℕ, ◌<◌, List, slice_range, Option, Some, None}
use Rattle.model_board.specs.Boards.{Board, On, Off, Ended}
use Rattle.state_space.specs.declared.graph.Graph.{Graph}
use Rattle.state_space.specs.Graphs.{IsEnd, row_at}
use Rattle.board_space.specs.declared.outcomes.Outcome.{Outcome}
use Rattle.board_space.specs.declared.outcomes.Outcome.TheVariants.{Rests, Ends}

-- it rests, and these bytes of its memory are so; or it ended by its own shutdown with that reason
abbrev pub Shows : ℕ → ℕ → Outcome → Board → Type 0
Shows from to (Rests bytes) (On l) = slice_range l.machine.memory from to ≡ bytes.items
Shows from to (Rests bytes) (Off s) = ⊥
Shows from to (Rests bytes) (Ended s) = ⊥
Shows from to (Ends _) (On l) = ⊥
Shows from to (Ends _) (Off s) = ⊥
Shows from to (Ends why) (Ended s) = s.reason ≡ why

-- who shows the one shows the other
abbrev pub IsSame : Outcome → Outcome → Type 0
IsSame a b = (from to : ℕ) (c : Board) → Shows from to a c → Shows from to b c

-- the boards of the ends among the first rows show it, and where nothing is shown there is none
abbrev pub AllShow : ℕ → ℕ → (List ℕ → Board → Type 0) → Graph → ℕ → Option Outcome → Type 0
AllShow from to stands graph rows None = (k : ℕ) → k < rows → IsEnd graph k → ⊥
AllShow from to stands graph rows (Some outcome) =
    (k : ℕ) (b : Board) → k < rows → IsEnd graph k → stands (row_at graph k) b → Shows from to outcome b
