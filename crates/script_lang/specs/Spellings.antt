-- The text of a script that is written out.
use Rattle.std.specs.Prelude.{map, All, length, ◌≤◌, ℕ, List, [], ◌∷◌, ◌++◌}
use Rattle.std.specs.Fmt.{decimal}
use Rattle.std.specs.List.{flat_map, join_with_byte}
use Rattle.board_model.specs.Shapes.{Size, IsSize}
use Rattle.script_lang.specs.Lines.{IsLineInRange, FitsLine, text_of}
use Rattle.script_lang.specs.Scripts.{Script}
use Rattle.script_lang.specs.declared.line.Line.{Line}
use lib.Chars.{codes}

-- the text of a script: the board line and the lines after it, parted by line feeds
abbrev pub board_text : Size → List ℕ
board_text size = join_with_byte 32 (codes "board" ∷ decimal size.harts ∷ decimal size.pages ∷ decimal size.lanes ∷ [])

abbrev pub script_text : Script → List ℕ
script_text script = join_with_byte 10 (board_text script.size ∷ map text_of script.lines)

-- lines as they are written, each with a line feed
abbrev pub lines_text : List Line → List ℕ
lines_text those = flat_map (λ line. text_of line ++ 10 ∷ []) those

-- a script that the limits and the board allow
pub record IsWritable (script : Script) : Type 0 where
  pub size : IsSize script.size
  pub few : length script.lines ≤ 65535
  pub ranges : All (IsLineInRange script.size) script.lines
  pub fits : All FitsLine script.lines
