-- What stays the same while a board is searched.
use Rattle.std.specs.Prelude.{ℕ, Bool, List}
use Rattle.model_board.specs.Boards.{Board}
use Rattle.model_board.specs.Maps.{Map}
use Rattle.board_space.specs.Layouts.{Laid, laid_by, width_of}
use Rattle.board_space.specs.Mapped.{map_in}
use Rattle.board_space.specs.Rows.{Stands}
use Rattle.board_space.specs.Space.{Asked}
use Rattle.board_space.specs.declared.space.BoardSpace.{BoardSpace}

pub record Setting : Type 0 where
  pub asked : Asked
  pub map : Map
  -- whether registers are left out of rows
  pub leaves : Bool
  -- how many numbers a row has
  pub width : ℕ
  -- which words rows tell, and what all others hold
  pub laid : Laid

abbrev pub asked_of : BoardSpace → Asked
asked_of s = record {
  size = s.shape;
  payload = s.payload.items;
  reason = s.reason;
  cuts = s.failures.cuts;
  refusals = s.failures.refusals;
}

abbrev pub setting_of : BoardSpace → Setting
setting_of s = record { asked = asked_of s; map = map_in s.map; leaves = s.leaves; width = width_of s.rows.layout; laid = laid_by s.rows.layout }

-- each row stands for what it stood for
abbrev pub RowsStay : BoardSpace → BoardSpace → Type 0
RowsStay old new = (r : List ℕ) (b : Board) → Stands old.rows r b → Stands new.rows r b
