-- Numbers of a row that are carried over to other stores.
use Rattle.std.specs.Prelude.{◌≡◌, ◌⊎◌, ℕ, ◌+◌, ◌<◌, Bool, true, List, length, slice_index}
use Rattle.state_space.specs.Numbered.{word_count, words_of}
use Rattle.state_space.specs.declared.interner.Interner.{Interner}
use Rattle.board_space.specs.Records.{IsAt}
use Rattle.board_space.specs.declared.carrying.Numbers.{Numbers}

-- `count` numbers of the second row, from a place on, are of the records of those of the first
abbrev pub AreSameRecords : {T : Type 0} → List T → List ℕ → ℕ → List T → List ℕ → ℕ → ℕ → Type 0
AreSameRecords {T} old row from new out at count =
    (h : ℕ) (x : T) → h < count → IsAt old (slice_index row (from + h)) x → IsAt new (slice_index out (at + h)) x

-- and of slices of words
abbrev pub AreSameWords : Interner → List ℕ → ℕ → Interner → List ℕ → ℕ → ℕ → Type 0
AreSameWords old row from new out at count =
    (s : ℕ) → s < count → (slice_index out (at + s) < word_count new)
    × (words_of new (slice_index out (at + s)) ≡ words_of old (slice_index row (from + s)))

-- what is remembered of a number that was not met yet
abbrev pub NONE : ℕ
NONE = 4294967295

-- of the number that other one is remembered
abbrev pub Has : Numbers → ℕ → ℕ → Type 0
Has memo number other = (number < length memo.others.items) × (slice_index memo.others.items number ≡ other) × (other ≡ NONE → ⊥)

-- what is remembered of numbers of records is of the same records
abbrev pub AreRightRecords : {T : Type 0} → List T → List T → Numbers → Type 0
AreRightRecords {T} old new memo = (n m : ℕ) (x : T) → Has memo n m → IsAt old n x → IsAt new m x

-- and of slices of words
abbrev pub AreRightWords : Interner → Interner → Numbers → Type 0
AreRightWords old new memo = (n m : ℕ) → Has memo n m → n < word_count old → (m < word_count new) × (words_of new m ≡ words_of old n)

-- `count` numbers of the second row, from a place on, are what is remembered of those of the first
abbrev pub AreFound : Numbers → List ℕ → ℕ → List ℕ → ℕ → ℕ → Type 0
AreFound memo row from out at count = (h : ℕ) → h < count → Has memo (slice_index row (from + h)) (slice_index out (at + h))

-- what is remembered and was not before is of that number, and only where it may be remembered
abbrev pub IsLearned : Bool → Numbers → Numbers → ℕ → ℕ → Type 0
IsLearned learns old new number other = (n m : ℕ) → Has new n m → Has old n m ⊎ ((learns ≡ true) × (n ≡ number) × (m ≡ other))

-- and is of one of `count` numbers of the two rows, from a place on
abbrev pub AreLearned : Bool → Numbers → Numbers → List ℕ → ℕ → List ℕ → ℕ → ℕ → Type 0
AreLearned learns old new row from out at count = (n m : ℕ) → Has new n m
    → Has old n m ⊎ ((learns ≡ true) × ((h : ℕ) × (h < count) × (slice_index row (from + h) ≡ n) × (slice_index out (at + h) ≡ m)))
