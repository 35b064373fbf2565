-- What looks show of a memory, and what is expected of them. Source: docs/CHECKING.md, "What is asked".
use Rattle.std.specs.Prelude.{◌≡◌, ℕ, ◌+◌, ◌≤◌, List, [], ◌∷◌, ◌++◌, take, drop, slice_range, All, IfSome, None}
use Rattle.kernel_check.specs.declared.facts.EndShown.{EndShown}
use Rattle.kernel_check.specs.declared.facts.EndShown.TheVariants as shown
use Rattle.kernel_check.specs.declared.looks.Look.{Look}

-- the bytes of looks in a memory, one look after the other
abbrev pub looked : List Look → List ℕ → List ℕ
looked [] memory = []
looked (look ∷ looks) memory = slice_range memory look.start (look.start + look.bytes) ++ looked looks memory

-- a look's bytes are in a RAM of `ram` bytes
abbrev pub IsIn : ℕ → Look → Type 0
IsIn ram look = look.start + look.bytes ≤ ram

abbrev pub AreIn : ℕ → List Look → Type 0
AreIn ram looks = All (IsIn ram) looks

-- ---- what is expected
-- the bytes of each look are those that are expected of it, where some are
abbrev pub Meet : List Look → List ℕ → Type 0
Meet [] bytes = Unit {0}
Meet (look ∷ looks) bytes = IfSome look.expected (λ expected. take look.bytes bytes ≡ expected.items) × Meet looks (drop look.bytes bytes)

-- of a board that was shut down nothing can be expected
abbrev pub IsAsExpected : List Look → EndShown → Type 0
IsAsExpected looks (shown.On bytes) = Meet looks bytes.items
IsAsExpected looks (shown.Shutdown why) = All (λ look. look.expected ≡ None) looks

-- something is shown: a shutdown, or the bytes of a look
abbrev pub ShowsSome : List Look → EndShown → Type 0
ShowsSome [] (shown.On bytes) = ⊥
ShowsSome (look ∷ looks) (shown.On bytes) = Unit {0}
ShowsSome looks (shown.Shutdown why) = Unit {0}
