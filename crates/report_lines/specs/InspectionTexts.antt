-- The exact text of what an examiner says. Source: docs/SCRIPT.md, "The report".
use Rattle.std.specs.Prelude.{ℕ, Bool, true, false, List, ◌++◌}
use Rattle.std.specs.Fmt.{decimal}
use Rattle.store.specs.declared.inspects.ImageSeen.{ImageSeen}
use Rattle.store.specs.declared.inspects.ImageSeen.TheVariants.{Absent, Whole, Bad}
use Rattle.store.specs.declared.inspects.Inspection.{Inspection}
use lib.Chars.{codes}

-- whether a record is in its form
abbrev pub standing_text : Bool → List ℕ
standing_text true = codes "ok"
standing_text false = codes "bad"

abbrev pub image_text : ImageSeen → List ℕ
image_text Absent = codes "none"
image_text Whole = codes "whole"
image_text Bad = codes "bad"

abbrev pub inspection_text : Inspection → List ℕ
inspection_text i =
    codes "gate " ++ decimal i.gate ++ codes " live " ++ standing_text i.live ++ codes " other " ++ standing_text i.other
    ++ codes " image " ++ image_text i.image
