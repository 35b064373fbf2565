-- Which entries of a journal are suspensions, and which of them drop the image.
-- Source: docs/STORE.md, "A life".
use Rattle.std.specs.Prelude.{◌&&◌, ◌||◌, Bool, true, false, List, [], ◌∷◌}
use Rattle.board_model.specs.Durable.{ImageStep, MakesImage, DropsImage, LeavesImage, image_step}
use Rattle.board_model.specs.Views.{change_in}
use Rattle.board_model.specs.declared.durable.Entry.{Entry}
use Rattle.board_model.specs.declared.durable.Entry.TheVariants as entries

-- it is no suspension
abbrev pub is_plain : Entry → Bool
is_plain (entries.Command c) = true
is_plain (entries.Suspend hart address opaque) = false

abbrev pub are_plain : List Entry → Bool
are_plain [] = true
are_plain (e ∷ es) = is_plain e && are_plain es

-- it drops or replaces the image that stands
abbrev pub is_change : ImageStep → Bool
is_change MakesImage = true
is_change DropsImage = true
is_change LeavesImage = false

abbrev pub drops_image : Entry → Bool
drops_image e = is_change (image_step (change_in e []))

abbrev pub drop_image : List Entry → Bool
drop_image [] = false
drop_image (e ∷ es) = drops_image e || drop_image es
