-- Disks on which nothing was written since their last syncs, and which stand alike.
use Rattle.std.proofs.{Common.{◌≡◌, inl, inr, ℕ, List, [], ◌∷◌, All, length, arith}, lemmas.List.Elements.{All-head, All-tail}}
use Rattle.std.proofs.lemmas.Bool.{cases_lt}
use Rattle.disk.{specs.{Facts.Content, WriteLog.{ranges, Untouched, AgreesOutside, AreWithin}}, proofs.Ranges.agrees_all}
use Rattle.simdisk.{specs.{Views.{left_by_fill, pieces}, declared.{fill.Fill.Fill, patch.Patch.Patch}}, proofs.Notes.left_agrees}

abbrev is_empty : Patch → Type 0
is_empty p = p.count ≡ 0

pub untouched_none : (ps : List Patch) (k : ℕ) → All is_empty ps → Untouched (ranges (pieces ps)) k
untouched_none [] k none = tt
untouched_none (p ∷ ps) k none = (
  elim (cases_lt k p.first) [ inl low ↦ inl low | inr le ↦ inr (omega (arith, le, p.long, All-head is_empty p ps none)) ],
  untouched_none ps k (All-tail is_empty p ps none),
)

-- what a read gives stood at the last sync
pub stood_settled : (stood now : Content) (ps : List Patch) → All is_empty ps → AgreesOutside stood (ranges (pieces ps)) now → now ≡ stood
stood_settled stood now ps none a = agrees_all stood now (record { as_long = a.as_long; same = λ k u. a.same k (untouched_none ps k none) })

-- and by each fill a crash leaves what stood
pub left_settled : (fill : Fill) (stood : Content) (ps : List Patch) → All is_empty ps → AreWithin (length stood) (ranges (pieces ps)) → left_by_fill fill stood (pieces ps) ≡ stood
left_settled fill stood ps none fits =
    stood_settled stood (left_by_fill fill stood (pieces ps)) ps none (left_agrees fill stood (pieces ps) fits)
