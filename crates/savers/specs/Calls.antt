-- The calls of a lane that its saver makes, in their order. Source: docs/STORE.md, "Writing an area".
use Rattle.std.specs.Prelude.{◌≡◌, ◌⊎◌, ℕ, zero, suc, ◌+◌, ◌≤◌, Bool, true, false, List, [], ◌∷◌, ◌++◌, Result, OnOk, OnErr}
use Rattle.board_model.specs.Shapes.{Size, places_of}
use Rattle.disk.specs.Facts.{LaneFacts}
use Rattle.disk.specs.declared.device.LaneCall.{LaneCall}
use Rattle.disk.specs.declared.device.LaneCall.TheVariants.{Write}
use Rattle.layout.specs.Sizes.{place_start}

-- the header of a place is written
abbrev pub header_call : ℕ → Bool → LaneCall
header_call place ok = Write (place_start place) 1 ok

-- its 8 data sectors are, as one write
abbrev pub data_call : ℕ → Bool → LaneCall
data_call place ok = Write (place_start place + 1) 8 ok

-- what fills a place
abbrev pub place_calls : ℕ → List LaneCall
place_calls place = header_call place true ∷ data_call place true ∷ []

-- what fills the first places of a lane, one after another
abbrev pub filling_calls : ℕ → List LaneCall
filling_calls zero = []
filling_calls (suc n) = filling_calls n ++ place_calls n

-- The last call failed: the write of that place's header, or of its data after it.
abbrev pub StopsAt : ℕ → List LaneCall → List LaneCall → Type 0
StopsAt place old new =
    (new ≡ old ++ header_call place false ∷ [])
    ⊎ (new ≡ old ++ (header_call place true ∷ data_call place false ∷ []))

-- the calls of a place that is written
pub record WritesPlace {T E : Type 0} (place : ℕ) (old new : List LaneCall) (result : Result T E) : Type 0 where
  pub ok : OnOk result (new ≡ old ++ place_calls place)
  pub err : OnErr result (StopsAt place old new)

-- the calls of a saver that has filled so many places
pub record WritesPlaces {T E : Type 0} (filled : ℕ) (old new : List LaneCall) (result : Result T E) : Type 0 where
  pub ok : OnOk result (new ≡ old ++ filling_calls filled)
  pub err : OnErr result (StopsAt filled (old ++ filling_calls filled) new)

-- A lane and its saver, which made just these calls of it: those that fill so many places, one after another;
-- and where a call failed, that was the last, in the place after them.
pub record IsFilledBy (size : Size) (filled : ℕ) (old new : LaneFacts) : Type 0 where
  pub few : filled ≤ places_of size
  pub made : ((new.failures ≡ 0) × (new.calls ≡ old.calls ++ filling_calls filled))
      ⊎ ((new.failures ≡ 1) × StopsAt filled (old.calls ++ filling_calls filled) new.calls)
