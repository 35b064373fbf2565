-- What a cache keeps back of a disk, and what it takes of its device. Source: docs/PORTING.md.
use Rattle.std.specs.Prelude.{◌≡◌, ◌⊎◌, ℕ, List, [], ◌∷◌, length, map, take, Result, OnOk}
use Rattle.disk.specs.Facts.{Content, Facts, Counts, Passes}
use Rattle.disk.specs.FaultState.{FaultState, Caused}
use Rattle.disk.specs.WriteLog.{Piece, WriteLog, AgreesOutside, AreWithin, Untouched, ranges, replay}
use Rattle.simdisk.specs.Kept.{IsKept, facts_over}
use Rattle.simdisk.specs.declared.waiting.Waiting.{Waiting}

-- a sector that waits, as a piece
abbrev pub piece_of : Waiting → Piece
piece_of w = (w.number, w.sector ∷ [])

abbrev pub pieces_of : List Waiting → List Piece
pieces_of ws = map piece_of ws

-- what a read gives: what the device holds, and over it what waits, the oldest first
abbrev pub shown : List Waiting → Content → Content
shown ws held = replay (pieces_of ws) held

-- the facts of the disk: its content, and of a crash what its log says
abbrev pub facts_of : List Waiting → WriteLog → ℕ → Facts → Facts
facts_of ws log calls device = facts_over (shown ws device.content) log calls device

-- that sector waits
abbrev pub Waits : List Waiting → ℕ → Type 0
Waits [] k = ⊥
Waits (w ∷ ws) k = (w.number ≡ k) ⊎ Waits ws k

-- these sectors may be any, and all others stay
abbrev pub ButIn : List (ℕ × ℕ) → Content → Content → Type 0
ButIn rs old new = AgreesOutside old rs new

-- what a cache keeps of its device and of its log: what waits was written since the last sync
pub record IsCached (ws : List Waiting) (log : WriteLog) (device : Facts) : Type 0 where
  pub kept : IsKept log device
  pub fits : AreWithin (length device.content) (ranges (pieces_of ws))
  pub waits : (k : ℕ) → Waits ws k → Untouched (ranges log.written) k → ⊥

-- What waits was handed on to the device: with Ok it holds what a read gave before. Nothing but the sectors that wait was
-- touched, and an error is one call of the device that failed.
pub record HandsOn {T E : Type 0} (ws : List Waiting) (old new : Facts) (was is : FaultState) (result : Result T E) : Type 0 where
  pub all : OnOk result (new.content ≡ shown ws old.content)
  pub content : ButIn (ranges (pieces_of ws)) old.content new.content
  pub crash : Passes old new (ButIn (ranges (pieces_of ws)))
  pub lent : new.lent ≡ old.lent
  pub failures : Counts old.failures new.failures result
  pub cause : Caused was is result

-- and so far, where no call has failed
pub record HandedOn (n : ℕ) (ws : List Waiting) (old new : Facts) (was is : FaultState) : Type 0 where
  pub so_far : new.content ≡ shown (take n ws) old.content
  pub but : ButIn (ranges (pieces_of ws)) old.content new.content
  pub crash : Passes old new (ButIn (ranges (pieces_of ws)))
  pub lent : new.lent ≡ old.lent
  pub failures : new.failures ≡ old.failures
  pub cause : is ≡ was
