-- What a seat knows of its harts, as a list of views, one for each.
use Rattle.std.specs.Prelude.{◌≡◌, ℕ, zero, suc, List, [], ◌∷◌, ◌++◌, ◌==◌, if◌then◌else◌, map, take, drop}
use Rattle.atomic_table.specs.Table.{Me}
use Rattle.tallies.specs.Sums.{total}
use Rattle.tallies.specs.declared.view.HartNotes.{HartNotes}
use Rattle.tallies.specs.declared.view.SeatNotes.{SeatNotes}

-- what a table keeps of a seat: its view, and the slots that it has taken, of which there are none
abbrev pub SeatState : Type 0 → Type 0
SeatState V = Me (Unit {0}) V

module _ {S D : Type 0} where
  abbrev pub hart_notes : ℕ → S → List D → List ℕ → HartNotes S D
  hart_notes h st ds ps = record { hart = h; stage = st; actions = ds; places = ps }

  abbrev pub seat_notes : List (HartNotes S D) → SeatNotes S D
  seat_notes vs = record { harts = vs }

  -- the numbers of the harts, in the order of the list
  abbrev pub numbers : List (HartNotes S D) → List ℕ
  numbers = map (λ v. v.hart)

  abbrev pub is_of : ℕ → HartNotes S D → ℕ
  is_of h v = if v.hart == h then 1 else 0

  -- how often the hart is in a seat
  abbrev pub seats : ℕ → SeatNotes S D → ℕ
  seats h c = total (is_of h) c.harts

  -- one more action of the hart, at its place, after which it stands at this stage
  abbrev pub noted : ℕ → S → ℕ → D → List (HartNotes S D) → List (HartNotes S D)
  noted h st p x [] = []
  noted h st p x (v ∷ vs) =
      if v.hart == h then hart_notes v.hart st (x ∷ v.actions) (p ∷ v.places) ∷ vs else v ∷ noted h st p x vs

  -- a view that has one more action of the hart, at whatever place, and nothing else is new
  abbrev pub HasNoted : ℕ → S → D → List (HartNotes S D) → List (HartNotes S D) → Type 0
  HasNoted h st x vs vs' = (place : ℕ) × (vs' ≡ noted h st place x vs)

  -- and so the seat, which took no slot
  abbrev pub Notes : ℕ → S → D → SeatState (SeatNotes S D) → SeatState (SeatNotes S D) → Type 0
  Notes h st x m m' = HasNoted h st x m.0.harts m'.0.harts × (m'.1 ≡ m.1)

  -- ---- the harts at the start, with no step yet
  abbrev pub opening_from : (ℕ → S) → ℕ → ℕ → List (HartNotes S D)
  opening_from stage first zero = []
  opening_from stage first (suc n) = hart_notes first (stage first) [] [] ∷ opening_from stage (suc first) n

  -- ---- a seat is parted, and two are joined
  -- the first hart of a seat, and the others
  abbrev pub first_hart : SeatNotes S D → SeatNotes S D
  first_hart c = seat_notes (take 1 c.harts)

  abbrev pub other_harts : SeatNotes S D → SeatNotes S D
  other_harts c = seat_notes (drop 1 c.harts)

  abbrev pub together : SeatNotes S D → SeatNotes S D → SeatNotes S D
  together c d = seat_notes (c.harts ++ d.harts)

  abbrev pub nobody : SeatNotes S D
  nobody = seat_notes []
