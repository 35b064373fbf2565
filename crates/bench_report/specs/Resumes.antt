-- A power-on at any point of a run: what its open finds, and the board that goes on with an image. Source:
-- docs/BOARD.md, "Power on"; docs/DURABLE.md, "What an open finds"; SBI specification 2.0, chapter 13.
use Rattle.std.specs.Prelude.{◌≡◌, ◌<◌, List, [], ◌∷◌, ◌++◌, None, Some}
use Rattle.board_model.specs.Durable.{Image, Change, Suspend, Consume}
use Rattle.board_model.specs.Kept.{MayKeep, found_of}
use Rattle.board_model.specs.Shapes.{Size}
use Rattle.board_model.specs.Views.{durable_of}
use Rattle.machine.specs.Machine.{woken}
use Rattle.report_lines.specs.declared.printed.Answer.{Answer}
use Rattle.bench_report.specs.Bench.{BenchLife, Bench}

-- The image was made by a suspension of the list: hart, address, opaque value and memory are the ones that it
-- carried, and the serial is the one that was next then.
pub record IsMadeIn (image : Image) (changes : List Change) : Type 0 where
  pub before : List Change
  pub later : List Change
  pub suspended : changes ≡ before ++ Suspend image.hart image.address image.opaque image.memory ∷ later
  pub serial : image.serial ≡ (found_of before).next

-- From bench b a board of that size was resumed. The open kept these commands, and reported what they make;
-- an image stands in that, and was made by one of them. The board has its memory, byte for byte, and its hart
-- stands at its address with its number and its opaque value; all else of the harts is as before any boot,
-- and every other hart is STOPPED. The image is consumed.
pub record IsResumedFrom (size : Size) (b : Bench) (a : Answer) (new : Bench) : Type 0 where
  pub changes : List Change
  pub may : MayKeep b.kept changes
  pub found : a.found ≡ Some (durable_of (found_of changes))
  pub image : Image
  pub stands : (found_of changes).image ≡ Some image
  pub made : IsMadeIn image changes
  pub hart : image.hart < size.harts
  pub life : BenchLife
  pub on : new.power ≡ Some life
  pub machine : life.machine ≡ woken image size
  pub consumed : new.kept ≡ record { changes = changes ++ Consume ∷ []; doubt = None }
