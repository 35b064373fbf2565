-- What patches are to a contract.
use Rattle.std.specs.Prelude.{List, [], ◌∷◌, map, replicate, ℕ, ◌≤◌, length, ◌≡◌, ◌+◌, ◌<◌}
use Rattle.std.specs.List.{flat_map}
use Rattle.disk.specs.Facts.{Content, Lent}
use Rattle.simdisk.specs.declared.patch.Patch.{Patch}
use Rattle.disk.specs.WriteLog.{Piece, filled, replay, range_at}
use Rattle.simdisk.specs.declared.lane.Last.{Last}
use Rattle.simdisk.specs.declared.lane.Last.TheVariants as last
use Rattle.simdisk.specs.declared.fill.Fill.{Fill}
use Rattle.simdisk.specs.declared.fill.Fill.TheVariants.{Byte, Alternating, Old, New}
use Rattle.simdisk.specs.declared.loan.Loan.{Loan}

abbrev pub piece : Patch → Piece
piece patch = (patch.first, patch.bytes.kept.log.began)

abbrev pub pieces : List Patch → List Piece
pieces patches = map piece patches

-- ---- what was written last in a lane, to a contract
-- what was written last in a lane that holds these sectors
abbrev pub last_of : Last → Content → Content
last_of last.AsRead sectors = sectors
last_of (last.Apart newest) sectors = newest.items

abbrev pub IsAsRead : Last → Type 0
IsAsRead last.AsRead = Unit {0}
IsAsRead (last.Apart newest) = ⊥

-- what is kept apart has so many sectors at least
abbrev pub HasRoom : ℕ → Last → Type 0
HasRoom n last.AsRead = Unit {0}
HasRoom n (last.Apart newest) = n ≤ length newest.items

-- ---- what each fill leaves of what was written since the last sync
-- a sector with 0x55 at each even place of it, and 0xaa at each odd one
abbrev pub alternating : List ℕ
alternating = flat_map (λ (pair : List ℕ). pair) (replicate 256 (0x55 ∷ 0xaa ∷ []))

-- that byte throughout each piece, or the two in turn; what stood at the sync; or the bytes that were written
-- last
abbrev pub left_by_fill : Fill → Content → List Piece → Content
left_by_fill (Byte byte) stood pieces = replay (map (filled (replicate 512 byte)) pieces) stood
left_by_fill Alternating stood pieces = replay (map (filled alternating) pieces) stood
left_by_fill Old stood pieces = stood
left_by_fill New stood pieces = replay pieces stood

-- ---- what is lent, and where the write log has it
abbrev pub lent_of : Loan → Lent
lent_of loan = record { first = loan.first; lanes = loan.lanes; each = loan.each }

-- that range is one of these, at that place
abbrev pub Noted : List (ℕ × ℕ) → ℕ → ℕ × ℕ → Type 0
Noted rs i r = (i < length rs) × (range_at rs i ≡ r)

-- that range is at that place, and each later one ends before it or begins after it
pub record IsLatest (rs : List (ℕ × ℕ)) (i : ℕ) (r : ℕ × ℕ) : Type 0 where
  pub noted : Noted rs i r
  pub apart : (j : ℕ) → i < j → j < length rs → r.0 < (range_at rs j).0 + (range_at rs j).1
      → r.0 + r.1 ≤ (range_at rs j).0
