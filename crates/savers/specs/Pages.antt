-- Which pages a saver draws, and which places of its lane it fills. Source: docs/STORE.md, "The ticket".
use Rattle.std.specs.Prelude.{◌≡◌, ◌⊎◌, ℕ, ◌+◌, ◌<◌, ◌≤◌, List, [], length, slice_index, slice_index_or}
use Rattle.std.specs.List.{concat}
use Rattle.board_model.specs.Shapes.{Size, places_of}
use Rattle.disk.specs.Facts.{Content, LaneFacts, lane_at}
use Rattle.savers.specs.Saved.{PageStands}
use Rattle.savers.specs.Draws.{times}

-- The first numbers that were drawn are pages of the board, and each stands in the next place of a lane.
abbrev pub AreFilled : Size → List ℕ → ℕ → List ℕ → ℕ → Content → Type 0
AreFilled size memory serial drawn places lane =
    (p : ℕ) → p < places
    → (slice_index drawn p < size.pages) × PageStands memory lane p (slice_index drawn p) serial

-- What a saver drew, no call of whose lane has failed. Its places are filled by what it drew first. It ended at
-- a full lane or at a draw past the last page, and drew nothing else.
pub record Fills (size : Size) (memory : List ℕ) (serial : ℕ) (drawn : List ℕ) (filled : ℕ) (lane : Content) : Type 0
  where
    pub pages : AreFilled size memory serial drawn filled lane
    pub few : filled ≤ places_of size
    pub past : (p : ℕ) → filled ≤ p → p < length drawn → size.pages ≤ slice_index drawn p
    pub ended : ((filled ≡ places_of size) × (length drawn ≡ filled)) ⊎ (length drawn ≡ filled + 1)

-- what the saver of a lane drew
abbrev pub drawn_in : List (List ℕ) → ℕ → List ℕ
drawn_in drawn i = slice_index_or drawn i []

-- What all savers drew, put together, is all that was drawn from the ticket. Each page of the board is in it
-- once, and stands in the next place of the lane of the saver that drew it. The counts say how many do.
pub record DrawnPages (size : Size) (memory : List ℕ) (serial : ℕ) (numbers counts : List ℕ) (lanes : List LaneFacts) : Type 0
  where
    -- by lane, in the order of the draws
    pub drawn : List (List ℕ)
    pub many : length drawn ≡ length lanes
    pub all : concat drawn ≡ numbers
    pub once : (page : ℕ) → page < size.pages → times page numbers ≡ 1
    pub fills : (i : ℕ) → i < length lanes
        → Fills size memory serial (drawn_in drawn i) (slice_index counts i) (lane_at lanes i).content
    pub four : length counts ≡ 4
    pub others : (i : ℕ) → length lanes ≤ i → slice_index counts i ≡ 0
