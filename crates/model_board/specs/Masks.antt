-- A map whose harts are the bits of numbers: of one for each word, and of one for each hart that is sent to. What a footprint
-- and a request have by a map.
use Rattle.std.specs.Prelude.{◌≡◌, ◌⊎◌, ℕ, ◌==◌, List, slice_index, true, false, IsTrue, Some, Ok}
use Rattle.std.specs.Int.{bit_at}
use Rattle.board_model.specs.HartSets.{Has}
use Rattle.sbi_calls.specs.Requests.{Checked}
use Rattle.sbi_calls.specs.declared.requests.Request.TheVariants.{Send}
use Rattle.model_board.specs.Maps.{Map, WritesAlone, ReadsAlone, HearsNone}
use Rattle.model_board.specs.declared.footprints.Footprint.{Footprint}

-- for each word the harts that may read it and those that may write it, and for each hart those that may send to it
pub record Masks : Type 0 where
  pub readers : List ℕ
  pub writers : List ℕ
  pub senders : List ℕ

abbrev pub map_of : Masks → Map
map_of m =
    record {
      reads = λ h k. bit_at (slice_index m.readers k) h == 1;
      writes = λ h k. bit_at (slice_index m.writers k) h == 1;
      sends = λ h t. bit_at (slice_index m.senders t) h == 1;
    }

-- hart h may send to each hart that the request names
abbrev pub MaySend : Map → ℕ → Checked → Type 0
MaySend map h asked = (targets t : ℕ) → asked ≡ Ok (Send targets) → Has t targets → IsTrue (map.sends h t)

-- what a footprint of hart h has, no other hart can change, or make a use of
pub record IsAloneBy (map : Map) (h : ℕ) (f : Footprint) : Type 0 where
  pub fetches : (k : ℕ) → f.fetched ≡ Some k → IsTrue (map.reads h k) × WritesAlone map h k
  pub loads : (k : ℕ) → f.loaded ≡ Some k → IsTrue (map.reads h k) × WritesAlone map h k
  pub stores : (k : ℕ) → f.stored ≡ Some k → IsTrue (map.writes h k) × ReadsAlone map h k × WritesAlone map h k
  pub sure : (f.interrupts ≡ true) ⊎ ((f.pending ≡ false) ⊎ HearsNone map h)
