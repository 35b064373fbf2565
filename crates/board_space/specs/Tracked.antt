-- Words of 8 bytes of RAM, by their numbers from its start, in segments.
use Rattle.std.specs.Prelude.{◌≡◌, ◌⊎◌, ℕ, ◌+◌, ◌*◌, ◌<◌, ◌≤◌, List, length, slice_index}
use Rattle.std.specs.Vec.{vec_len}
use Rattle.state_space.specs.Stores.{word_entry}
use Rattle.state_space.specs.declared.word_pool.WordPool.{WordPool}

abbrev pub segment_count : WordPool → ℕ
segment_count tracked = vec_len tracked.ends

-- the words of a segment
abbrev pub segment : WordPool → ℕ → List ℕ
segment = word_entry

-- that word is told, by some segment
pub record IsTracked (tracked : WordPool) (word : ℕ) : Type 0 where
  pub number : ℕ
  pub place : ℕ
  pub known : number < segment_count tracked
  pub within : place < length (segment tracked number)
  pub is : slice_index (segment tracked number) place ≡ word

-- each word that is told lies in `bytes` bytes
abbrev pub AreWithin : WordPool → ℕ → Type 0
AreWithin tracked bytes = (word : ℕ) → IsTracked tracked word → 8 * word + 8 ≤ bytes

-- the word is told, or is one of the segment that is being made
abbrev pub IsKept : WordPool → List ℕ → ℕ → Type 0
IsKept tracked made word = IsTracked tracked word ⊎ ((place : ℕ) × (place < length made) × (slice_index made place ≡ word))
