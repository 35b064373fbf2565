-- What a save is given, and what it makes of its lanes. Source: docs/STORE.md, "Writing an area".
use Rattle.std.specs.Prelude.{◌≡◌, ℕ, ◌<◌, ◌++◌, List, length, slice_index}
use Rattle.board_model.specs.Shapes.{Size}
use Rattle.board_model.specs.declared.refusal.Refusal.{Refusal}
use Rattle.board_model.specs.declared.refusal.Refusal.TheVariants.{Device, Memory}
use Rattle.disk.specs.Facts.{LaneFacts, lane_at, lane_failures}
use Rattle.layout.specs.Sizes.{lane_sectors}
use Rattle.savers.specs.Calls.{filling_calls, IsFilledBy}
use Rattle.savers.specs.Pages.{DrawnPages}
use Rattle.savers.specs.Saved.{LanesHold}

-- the lanes of a board, each with room for its places; no call of any has failed
pub record AreFresh (size : Size) (lanes : List LaneFacts) : Type 0 where
  pub many : length lanes ≡ size.lanes
  pub room : (i : ℕ) → i < length lanes → length (lane_at lanes i).content ≡ lane_sectors size
  pub no_failure : lane_failures lanes ≡ 0

-- A save that was not refused: what its savers drew is each page once, the lanes hold the memory, and of each
-- lane just the calls were made that fill its places.
pub record HasSaved (size : Size) (memory : List ℕ) (serial : ℕ) (numbers counts : List ℕ) (old new : List LaneFacts) : Type 0
  where
    pub drawn : DrawnPages size memory serial numbers counts new
    pub hold : LanesHold size memory serial counts new
    pub calls : (i : ℕ) → i < length old
        → (lane_at new i).calls ≡ (lane_at old i).calls ++ filling_calls (slice_index counts i)
    pub no_failure : lane_failures new ≡ 0

-- each lane and its saver, which filled some places of it and then ended
abbrev pub AreEnded : Size → List LaneFacts → List LaneFacts → Type 0
AreEnded size old new =
    (i : ℕ) → i < length old → (filled : ℕ) × IsFilledBy size filled (lane_at old i) (lane_at new i)

-- 5 where a call of a lane failed, which was the last of that lane; and 11 where memory was refused, before
-- any call
abbrev pub SaveRefused : Size → List LaneFacts → Refusal → List LaneFacts → Type 0
SaveRefused size old Device new = (0 < lane_failures new) × AreEnded size old new
SaveRefused size old Memory new = new ≡ old
SaveRefused size old e new = ⊥
