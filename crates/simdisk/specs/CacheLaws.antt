-- What the laws of a disk ask of a cache.
use Rattle.std.proofs.Common.{◌≡◌, ◌∙◌, inl, inr, ℕ, ◌+◌, List, [], ◌∷◌, length, arith}
use Rattle.std.proofs.lemmas.Bool.{cases_lt}
use Rattle.disk.specs.Facts.{Facts}
use Rattle.disk.specs.WriteLog.{WriteLog, AgreesOutside, Untouched, ranges, synced}
use Rattle.disk.proofs.Pieces.{length_replay, replay_outside}
use Rattle.simdisk.specs.declared.waiting.Waiting.{Waiting}
use Rattle.simdisk.specs.Cached.{pieces_of, shown, Waits, IsCached}

-- a sector that doesn't wait is in no piece that waits
pub apart_waiting : (ws : List Waiting) (k : ℕ) → (Waits ws k → ⊥) → Untouched (ranges (pieces_of ws)) k
apart_waiting [] k none = tt
apart_waiting (w ∷ ws) k none = (
  elim (cases_lt k w.number) [
    | inl low ↦ inl low
    | inr le ↦ elim (cases_lt k (w.number + 1)) [
      | inl less ↦ absurd (none (inl (omega (arith, le, less))))
      | inr high ↦ inr (omega (arith, high))
    ]
  ],
  apart_waiting ws k (λ waits. none (inr waits)),
)

-- what waits is among the ranges that were written
pub covered : (ws : List Waiting) (log : WriteLog) → ((k : ℕ) → Waits ws k → Untouched (ranges log.written) k → ⊥) → (k : ℕ) → Untouched (ranges log.written) k → Untouched (ranges (pieces_of ws)) k
covered ws log waits k u = apart_waiting ws k (λ w. waits k w u)

pub length_shown : (ws : List Waiting) (log : WriteLog) (a : Facts) → IsCached ws log a → length (shown ws a.content) ≡ length a.content
length_shown ws log a cached = length_replay (pieces_of ws) a.content cached.fits

-- what a crash may leave of the disk, what a read gives may be
pub keeps : (ws : List Waiting) (log : WriteLog) (a : Facts) → IsCached ws log a → AgreesOutside (synced log) (ranges log.written) (shown ws a.content)
keeps ws log a cached = record {
  as_long = length_shown ws log a cached ∙ cached.kept.holds.as_long;
  same = λ k u. replay_outside (pieces_of ws) a.content k cached.fits (covered ws log cached.waits k u) ∙ cached.kept.holds.same k u;
}
