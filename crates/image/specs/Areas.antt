-- When an area holds a memory, in plain words: each page stands in one place in use, after a header with the
-- image's serial. Source: docs/STORE.md, "Reading an area".
use Rattle.std.specs.Prelude.{◌≡◌, ℕ, ◌+◌, ◌*◌, ◌<◌, List, length, slice_index}
use Rattle.board_model.specs.Shapes.{Size, area_sectors_of}
use Rattle.disk.specs.Facts.{Content, sector}
use Rattle.layout.specs.Places.{IsPlaceHead}
use Rattle.layout.specs.Sizes.{lane_sectors, place_start}

-- the sectors of an area, each of 512 bytes
pub record IsArea (size : Size) (area : Content) : Type 0 where
  pub long : length area ≡ area_sectors_of size
  pub each : (k : ℕ) → k < length area → length (sector area k) ≡ 512

-- where in its area a place of a lane stands
abbrev pub place_in_area : Size → ℕ → ℕ → ℕ
place_in_area size lane place = lane * lane_sectors size + place_start place

-- In each place in use stands the one spelling of a header, with that serial, of a page of the board; and
-- each page has one of these places.
pub record IsWholeArea (size : Size) (serial : ℕ) (counts : List ℕ) (area : Content) : Type 0 where
  -- the page of a place, by its lane and its number there
  pub page : ℕ → ℕ → ℕ
  pub head : (lane place : ℕ) → place < slice_index counts lane
      → IsPlaceHead size (record { page = page lane place; serial = serial })
      (sector area (place_in_area size lane place))
  pub each : (k : ℕ) → k < size.pages
      → (lane : ℕ) × (place : ℕ) × (place < slice_index counts lane) × (page lane place ≡ k)
  pub once : (i p j q : ℕ) → p < slice_index counts i → q < slice_index counts j → page i p ≡ page j q
      → (i ≡ j) × (p ≡ q)
