-- The places of an area: a header, and the page's bytes after it.
-- Source: docs/STORE.md, "Areas".
use Rattle.std.specs.Prelude.{◌≡◌, ℕ, ◌<◌, List, [], ◌∷◌}
use Rattle.board_model.specs.Shapes.{Size}
use Rattle.layout.specs.Fields.{Field, FitAll, fields_bytes, sector_of}
use Rattle.layout.specs.declared.places.PlaceHead.{PlaceHead}

-- four bytes between page and serial are zero
abbrev pub place_fields : PlaceHead → List Field
place_fields head = (4, head.page) ∷ (4, 0) ∷ (8, head.serial) ∷ []

abbrev pub place_head_of : PlaceHead → List ℕ
place_head_of head = sector_of (fields_bytes (place_fields head))

-- the sector is the one spelling of the header, on a board of this size
abbrev pub IsPlaceHead : Size → PlaceHead → List ℕ → Type 0
IsPlaceHead size head sector = (head.page < size.pages) × FitAll (place_fields head) × (sector ≡ place_head_of head)
