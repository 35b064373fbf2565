-- What is told of an answer, and where two answers first differ in it. Source: docs/SCRIPT.md, "Schedules".
use Rattle.std.specs.Prelude.{◌≡◌, ◌≢◌, ℕ, zero, suc, List, [], ◌∷◌, ◌++◌, Option, None, Some}
use Rattle.board_model.specs.Texts.{image_text, state_text}
use Rattle.board_model.specs.declared.durable.Durable.{Durable}
use Rattle.board_model.specs.declared.durable.ImageHead.{ImageHead}
use Rattle.report_lines.specs.Texts.{line_text}
use Rattle.report_lines.specs.declared.printed.Answer.{Answer}
use Rattle.report_lines.specs.declared.printed.Printed.{Printed}
use Rattle.bench_schedules.specs.declared.told.ToldLine.{ToldLine}
use Rattle.bench_schedules.specs.declared.told.ToldLine.TheVariants.{Found, Image, Line}
use lib.Chars.{codes}

-- what stands of the image that was found, if one was
abbrev pub image_line : Option ImageHead → List ℕ
image_line None = codes "image none"
image_line (Some head) = image_text head

abbrev pub told_text : ToldLine → List ℕ
told_text (Found d) = codes "found " ++ state_text d
told_text (Image image) = image_line image
told_text (Line line) = line_text line

-- of what an open found: its line of a report, and what that leaves out of the image
abbrev pub told_states : Option Durable → List (List ℕ)
told_states None = []
told_states (Some d) = told_text (Found d) ∷ told_text (Image d.image) ∷ []

-- the lines that an answer makes in a report, and after a line `found` what that leaves out of the image
abbrev pub told_lines : Answer → List (List ℕ)
told_lines a = told_states a.found ++ line_text a.line ∷ []

-- the line at that place among them, and the last at each place after it
abbrev pub line_at : Option Durable → Printed → ℕ → ToldLine
line_at None line k = Line line
line_at (Some d) line zero = Found d
line_at (Some d) line (suc zero) = Image d.image
line_at (Some d) line (suc (suc k)) = Line line

abbrev pub told_at : Answer → ℕ → ToldLine
told_at a k = line_at a.found a.line k

-- Both begin alike, and then the first has this line where the other has that one, which is another text.
pub record IsFirstApart (own other : List (List ℕ)) (own_line line : List ℕ) : Type 0 where
  pub before : List (List ℕ)
  pub own_more : List (List ℕ)
  pub more : List (List ℕ)
  pub here : own ≡ before ++ own_line ∷ own_more
  pub there : other ≡ before ++ line ∷ more
  pub apart : own_line ≢ line
