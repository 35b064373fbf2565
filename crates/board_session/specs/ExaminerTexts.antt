-- The exact text of what is written of a disk. Source: docs/CONSOLE.md, "The program `sbidisk`".
use Rattle.std.specs.Prelude.{ℕ, List, [], ◌++◌, ◌==◌, Option, None, Some, if◌then◌else◌}
use Rattle.std.specs.Fmt.{decimal}
use Rattle.board_model.specs.Texts.{image_text, state_text}
use Rattle.board_model.specs.declared.durable.ImageHead.{ImageHead}
use Rattle.report_lines.specs.InspectionTexts.{inspection_text}
use Rattle.report_lines.specs.declared.sees.FoundState.{FoundState}
use Rattle.report_lines.specs.declared.sees.Seen.{Seen}
use lib.Chars.{codes}

-- the line of an image, which has so many pages
abbrev pub standing_image_text : ℕ → Option ImageHead → List ℕ
standing_image_text pages None = []
standing_image_text pages (Some head) = image_text head ++ codes " pages " ++ decimal pages ++ codes "\n"

-- the lines of what an open finds
abbrev pub found_text : Option FoundState → List ℕ
found_text None = []
found_text (Some f) = codes "found " ++ state_text f.state ++ codes "\n" ++ standing_image_text f.pages f.state.image

abbrev pub seen_text : Seen → List ℕ
seen_text s = codes "inspect " ++ inspection_text s.inspection ++ codes "\n" ++ found_text s.found

-- The line of a file whose sectors lie in blocks of so many bytes. Where they lie one after the other there is none.
abbrev pub block_text : ℕ → List ℕ
block_text n = if n == 512 then [] else codes "block " ++ decimal n ++ codes "\n"
