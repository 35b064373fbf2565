-- A row stands for each board for which the board stands that it tells.
use Rattle.std.specs.Prelude.{ℕ, Bool, List}
use Rattle.model_board.specs.Boards.{Board}
use Rattle.board_space.specs.Rows.{Stands}
use Rattle.board_space.specs.Space.{IsFor}
use Rattle.board_space.specs.declared.board_rows.BoardRows.{BoardRows}

abbrev pub StandsAll : Bool → BoardRows → List ℕ → Board → Type 0
StandsAll leaves rows row b = (n : Board) × Stands rows row n × IsFor leaves n b
