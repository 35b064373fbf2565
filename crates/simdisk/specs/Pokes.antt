-- A sector of a disk that somebody writes past the firmware. Source: docs/DISK.md.
use Rattle.std.specs.Prelude.{◌≡◌, ℕ, ◌+◌, ◌-◌, ◌<◌, ◌≤◌, ◌↔◌, ◌||◌, Bool, nat_lt, nat_le, if◌then◌else◌, List, [], ◌∷◌, ◌++◌, length, take, drop}
use Rattle.std.specs.List.{flat_map}
use Rattle.disk.specs.Facts.{Content, Facts, sector}
use Rattle.simdisk.specs.declared.fill.Fill.{Fill}
use Rattle.simdisk.specs.Views.{left_by_fill}
use Rattle.disk.specs.WriteLog.{Piece, WriteLog, laid_over, synced}

-- the bytes of a sector with these in it, from that one on
abbrev pub bytes_put : ℕ → List ℕ → List ℕ → List ℕ
bytes_put offset bytes old = take offset old ++ (bytes ++ drop (offset + length bytes) old)

-- what the k-th sector then holds
abbrev pub poked : ℕ → ℕ → List ℕ → Content → List ℕ
poked k offset bytes c = bytes_put offset bytes (sector c k)

-- the bytes end in a sector that the disk has
abbrev pub PokeFits : ℕ → ℕ → List ℕ → Content → Type 0
PokeFits k offset bytes c = (k < length c) × (offset + length bytes ≤ 512)

-- The k-th sector stands so: a read gives it, and so does each crash, whatever that leaves of the others.
pub record StandsSo (k : ℕ) (bytes : List ℕ) (old new : Facts) : Type 0 where
  pub content : new.content ≡ laid_over (k, bytes ∷ []) old.content
  pub crash : (c : Content) → new.may_leave c ↔ ((d : Content) × old.may_leave d × (c ≡ laid_over (k, bytes ∷ []) d))

-- by each fill a cut leaves what it would have left, with that sector
abbrev pub StandsByEach : ℕ → List ℕ → WriteLog → WriteLog → Type 0
StandsByEach k bytes old new =
    (fill : Fill)
    → left_by_fill fill (synced new) new.written
    ≡ laid_over (k, bytes ∷ []) (left_by_fill fill (synced old) old.written)

-- the k-th sector is not in the piece
abbrev pub misses : ℕ → Piece → Bool
misses k piece = nat_lt k piece.0 || nat_le (length piece.1) (k - piece.0)

-- what the piece has before the k-th sector, and what after it
abbrev pub part_before : ℕ → Piece → Piece
part_before k piece = (piece.0, take (k - piece.0) piece.1)

abbrev pub part_behind : ℕ → Piece → Piece
part_behind k piece = (k + 1, drop (k - piece.0 + 1) piece.1)

-- the piece without the k-th sector
abbrev pub parted : ℕ → Piece → List Piece
parted k piece = (if misses k piece then piece ∷ [] else part_before k piece ∷ part_behind k piece ∷ [])

-- The write log begun anew with what stood at the last sync, in which the k-th sector holds these bytes, and
-- without what was written to it since.
abbrev pub poked_log : ℕ → List ℕ → WriteLog → WriteLog
poked_log k bytes r =
    record { began = laid_over (k, bytes ∷ []) (synced r); past = []; written = flat_map (parted k) r.written }
