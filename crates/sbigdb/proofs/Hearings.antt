-- What is heard, byte by byte.
use Rattle.std.{proofs.Common.{◌≡◌, ℕ, Bool, List, [], ◌∷◌, ◌++◌, Option, sym, subst}, specs.Io.KnownBytes.Consumes}
use Rattle.debug_session.specs.{Streams.{Completes, Hears, Standing, standing_after}, declared.heard.PacketEvent.PacketEvent}
use Rattle.sbigdb.specs.Hearings.{AreTaken, newly}

-- a byte more, and what it completes
pub hears_more : (now mid new : Standing) (bytes : List ℕ) (heard : List PacketEvent) (b : ℕ) (what : PacketEvent) → Hears now bytes heard mid → Completes mid.place mid.body b what → new ≡ standing_after mid.place mid.body b → Hears now (bytes ++ b ∷ []) (heard ++ what ∷ []) new
hears_more now mid new [] [] b what same this to = let P : Standing → Type 0 = λ s. Completes s.place s.body b what × (standing_after s.place s.body b ≡ new) in subst P (sym same) (this, sym to)
hears_more now mid new [] (x ∷ more) b what never this to = absurd never
hears_more now mid new (y ∷ bytes) [] b what never this to = absurd never
hears_more now mid new (y ∷ bytes) (x ∷ more) b what (first, rest) this to = (first, hears_more (standing_after now.place now.body y) mid new bytes more b what rest this to)

-- these were handed on, more was wanted after each, and they are what these bytes complete
abbrev pub Listened : {F : Type 0} → (F → PacketEvent → Bool → F → Type 0) → F → Option (List ℕ) → F → Option (List ℕ) → Standing → Type 0
Listened gives first input last left now =
    (heard : List PacketEvent) × (bytes : List ℕ) × AreTaken gives first heard last × Consumes input left bytes × Hears newly bytes heard now
