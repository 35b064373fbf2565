-- Rows that are handed on in order.
use Rattle.std.specs.Prelude.{◌≡◌, ◌+◌, ◌-◌, ◌<◌, ℕ, List, [], ◌∷◌, Option, None, Some, Result, IfOk, length}
use Rattle.std.specs.declared.alloc.AllocError.{AllocError}
use Rattle.crew.specs.Parts.{chunk_from, chunk_to}

-- what a slot holds where the row of that number was made, or memory was lacking for it, or not yet
abbrev pub MayBeMade : {Row : Type 0} → (ℕ → Row → Type 0) → ℕ → Option (Result Row AllocError) → Type 0
MayBeMade is n None = Unit {0}
MayBeMade is n (Some made) = IfOk made (is n)

-- a place of a window of `size` rows from the number `first` on, and what was made for it
abbrev pub IsPlaced : {Row : Type 0} → (ℕ → Row → Type 0) → ℕ → ℕ → ℕ × Result Row AllocError → Type 0
IsPlaced is first size made = (made.0 < size) × MayBeMade is (first + made.0) (Some made.1)

-- the rows of the numbers from that one on, in order
abbrev pub AreRows : {Row : Type 0} → (ℕ → Row → Type 0) → ℕ → List Row → Type 0
AreRows is first [] = Unit {0}
AreRows is first (row ∷ rows) = is first row × AreRows is (first + 1) rows

-- The rows of chunk k of a window, in order: one of each number from the chunk's first up to the first after it.
pub record IsChunk {Row : Type 0} (is : ℕ → Row → Type 0) (from to each k : ℕ) (made : List Row) : Type 0 where
  pub many : length made ≡ chunk_to from to each k - chunk_from from each k
  pub are : AreRows is (chunk_from from each k) made

-- these rows are taken, one after another
abbrev pub TakesAll : {Row S : Type 0} → (S → Row → S → Type 0) → S → List Row → S → Type 0
TakesAll takes s [] t = t ≡ s
TakesAll {Row} {S} takes s (row ∷ rows) t = (mid : S) × takes s row mid × TakesAll takes mid rows t

-- The rows of `count` numbers from `first` on are taken in their order.
pub record Handed {Row S : Type 0} (is : ℕ → Row → Type 0) (takes : S → Row → S → Type 0) (first count : ℕ) (old new : S) : Type 0 where
  pub rows : List Row
  pub many : length rows ≡ count
  pub each : AreRows is first rows
  pub taken : TakesAll takes old rows new
