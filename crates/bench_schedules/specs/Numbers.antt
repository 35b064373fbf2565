-- The numbers of the lines of a script. Source: docs/SCRIPT.md, "How a script is written".
use Rattle.std.specs.Prelude.{ℕ, zero, suc, ◌+◌, List, [], ◌∷◌, ◌==◌, if◌then◌else◌, slice_index_or}
use Rattle.std.specs.List.{slice_split}
use Rattle.script_lang.specs.Scripts.{is_passed}
use Rattle.script_lang.specs.declared.line.Line.{Line}
use Rattle.script_lang.specs.declared.line.Line.TheVariants as lines

-- of lines from number n on, the numbers of those that are not passed over
abbrev pub numbers_from : ℕ → List (List ℕ) → List ℕ
numbers_from n [] = []
numbers_from n (line ∷ more) =
    if is_passed line then numbers_from (n + 1) more else (n ∷ numbers_from (n + 1) more)

-- of a script: that of the board line, and then of each line after it
abbrev pub numbers_of : List ℕ → List ℕ
numbers_of bytes = numbers_from 1 (slice_split (λ b. b == 10) bytes)

-- the place of the k-th line that is no turn, from 0 on
abbrev pub place_of_other : ℕ → List Line → ℕ
place_of_other k [] = 0
place_of_other k (lines.Turn h n ∷ more) = 1 + place_of_other k more
place_of_other zero (line ∷ more) = 0
place_of_other (suc k) (line ∷ more) = 1 + place_of_other k more

-- the number of the k-th line that is no turn, in a script of these bytes and lines
abbrev pub number_of_other : List ℕ → List Line → ℕ → ℕ
number_of_other bytes those k = slice_index_or (numbers_of bytes) (1 + place_of_other k those) 0
