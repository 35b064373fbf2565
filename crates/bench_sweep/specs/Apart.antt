-- In which line two texts differ.
use Rattle.std.specs.Prelude.{◌+◌, ◌==◌, if◌then◌else◌, ℕ, List, [], ◌∷◌, count_by}

-- the first bytes of the one, as far as the other has the same
abbrev pub common : List ℕ → List ℕ → List ℕ
common [] ys = []
common (x ∷ xs) [] = []
common (x ∷ xs) (y ∷ ys) = if x == y then x ∷ common xs ys else []

-- how many lines end in them
abbrev pub ends_of : List ℕ → ℕ
ends_of bytes = count_by (λ (b : ℕ). b == 10) bytes

-- the number, from 1, of the line that comes after the lines that both have
abbrev pub line_behind : List ℕ → List ℕ → ℕ
line_behind one other = ends_of (common one other) + 1
