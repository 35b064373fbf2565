-- The log of a disk's writes and syncs, and what a crash may leave by it.
use Rattle.std.specs.Prelude.{◌≡◌, ◌⊎◌, ℕ, ◌+◌, ◌*◌, ◌≤◌, ◌<◌, List, [], ◌∷◌, ◌++◌, length, take, drop, map, replicate, get_or}
use Rattle.disk.specs.Facts.{Content, Facts, Lent, counted, sector}

-- sectors in a row, from the first that it names on
abbrev pub Piece : Type 0
Piece = ℕ × Content

-- a disk's writes since it was made, or left by a crash
pub record WriteLog : Type 0 where
  -- what stood then
  pub began : Content
  -- for each sync the pieces written before it, since the sync before, as they stood at it
  pub past : List (List Piece)
  -- the pieces written since the last sync, in order, each with the bytes of that write
  pub written : List Piece

-- the piece as it stands in that content
abbrev pub piece_in : Content → Piece → Piece
piece_in c piece = (piece.0, take (length piece.1) (drop piece.0 c))

-- the piece with these bytes in each of its sectors
abbrev pub filled : List ℕ → Piece → Piece
filled bytes piece = (piece.0, replicate (length piece.1) bytes)

-- the content with that piece laid over it
abbrev pub laid_over : Piece → Content → Content
laid_over piece c = take piece.0 c ++ (piece.1 ++ drop (piece.0 + length piece.1) c)

-- the content with these pieces laid over it, one after the other
abbrev pub replay : List Piece → Content → Content
replay [] c = c
replay (piece ∷ pieces) c = replay pieces (laid_over piece c)

-- what stood after these syncs
abbrev pub synced_after : List (List Piece) → Content → Content
synced_after [] c = c
synced_after (epoch ∷ epochs) c = synced_after epochs (replay epoch c)

-- what stood at the last sync
abbrev pub synced : WriteLog → Content
synced r = synced_after r.past r.began

-- the log of a disk that was just made, or left by a crash
abbrev pub new_log : Content → WriteLog
new_log c = record { began = c; past = []; written = [] }

-- one piece more is written
abbrev pub more_written : Piece → WriteLog → WriteLog
more_written piece r = record r { written = r.written ++ piece ∷ [] }

-- a sync: the pieces stand as in that content, and these are written from now on
abbrev pub more_synced : Content → List Piece → WriteLog → WriteLog
more_synced c pieces r = record { began = r.began; past = r.past ++ map (piece_in c) r.written ∷ []; written = pieces }

-- where a piece begins, and how many sectors it has
abbrev pub range : Piece → ℕ × ℕ
range piece = (piece.0, length piece.1)

abbrev pub ranges : List Piece → List (ℕ × ℕ)
ranges pieces = map range pieces

-- the sectors that are lent, which count as written
abbrev pub lent_piece : Lent → Content → Piece
lent_piece l c = (l.first, take (l.lanes * l.each) (drop l.first c))

-- what would stand now, had each failed write gone through
abbrev pub newest : WriteLog → Content
newest r = replay r.written (synced r)

-- a failed write is noted too, but where memory was refused for it
abbrev pub NotedOrRefused : Piece → WriteLog → WriteLog → ℕ → ℕ → Type 0
NotedOrRefused piece old new own own' = (new ≡ more_written piece old) ⊎ ((new ≡ old) × (own' ≡ counted own 1))

-- the ranges that were written stay, and the syncs
pub record SameRanges (old new : WriteLog) : Type 0 where
  pub began : new.began ≡ old.began
  pub past : new.past ≡ old.past
  pub written : ranges new.written ≡ ranges old.written

-- the sector is in none of these ranges
abbrev pub Untouched : List (ℕ × ℕ) → ℕ → Type 0
Untouched [] k = Unit {0}
Untouched (r ∷ rs) k = ((k < r.0) ⊎ (r.0 + r.1 ≤ k)) × Untouched rs k

-- but for the sectors of these ranges, which are any, c is what stood
pub record AgreesOutside (stood : Content) (rs : List (ℕ × ℕ)) (c : Content) : Type 0 where
  pub as_long : length c ≡ length stood
  pub same : (k : ℕ) → Untouched rs k → sector c k ≡ sector stood k

abbrev pub range_at : List (ℕ × ℕ) → ℕ → ℕ × ℕ
range_at rs i = get_or rs i (0, 0)

-- each range is within so many sectors
abbrev pub AreWithin : ℕ → List (ℕ × ℕ) → Type 0
AreWithin n rs = (i : ℕ) → i < length rs → (range_at rs i).0 + (range_at rs i).1 ≤ n

-- a crash before one of these syncs might have left it, where that content stood when they began
abbrev pub Had : Content → List (List Piece) → Content → Type 0
Had stood [] c = ⊥
Had stood (epoch ∷ epochs) c = AgreesOutside stood (ranges epoch) c ⊎ Had (replay epoch stood) epochs c

-- the facts of a disk with that log, whose last sync had that content
abbrev pub sim_facts : Content → Content → WriteLog → ℕ → ℕ → Lent → Facts
sim_facts now stood r failures calls lent = record {
  content = now;
  may_leave = λ c. AgreesOutside stood (ranges r.written) c;
  moment = length r.past;
  since =
      λ t c. AgreesOutside stood (ranges r.written) c ⊎ Had (synced_after (take t r.past) r.began) (drop t r.past) c;
  failures = failures;
  calls = calls;
  lent = lent;
}
