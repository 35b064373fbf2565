-- The texts of the model: a durable state and an image's head, as every program writes them, and a value.
-- Source: docs/CONSOLE.md, "The console" and "The program `sbidisk`"; docs/SCRIPT.md.
use Rattle.std.specs.Prelude.{ℕ, List, ◌++◌, ◌-◌, Option, Some, None, [], length, replicate, false}
use Rattle.std.specs.Fmt.{decimal, digits}
use Rattle.board_model.specs.Views.{reason_number}
use Rattle.board_model.specs.declared.durable.Durable.{Durable}
use Rattle.board_model.specs.declared.durable.ImageHead.{ImageHead}
use Rattle.board_model.specs.declared.durable.Trial.{Trial}
use lib.Chars.{codes}

-- the serial of the image, or `none`
abbrev pub serial_text : Option ImageHead → List ℕ
serial_text None = codes "none"
serial_text (Some head) = decimal head.serial

-- where the slot is on trial, the slot to fall back to and the boots left
abbrev pub trial_text : Option Trial → List ℕ
trial_text None = []
trial_text (Some trial) = codes " trial " ++ decimal trial.fallback ++ codes " " ++ decimal trial.left

abbrev pub state_text : Durable → List ℕ
state_text d =
    codes "slot " ++ decimal d.slot ++ codes " reason " ++ decimal (reason_number d.reason) ++ codes " image "
    ++ serial_text d.image ++ codes " next " ++ decimal d.next ++ trial_text d.trial

-- a number in so many hexadecimal digits, in lower case
abbrev pub hex_text : ℕ → ℕ → List ℕ
hex_text width n = replicate (width - length (digits 16 false n)) 48 ++ digits 16 false n

-- what stands of an image beside its memory, but for the serial, which the text of its state has
abbrev pub image_text : ImageHead → List ℕ
image_text head =
    codes "image hart " ++ (decimal head.hart ++ (codes " address 0x" ++ (hex_text 16 head.address ++ (codes " opaque 0x"
    ++ hex_text 16 head.opaque))))
