-- What `--tap` makes of the lines of a bench: the Test Anything Protocol, version 13 (testanything.org). Source: docs/SCRIPT.md, "The
-- program".
use Rattle.std.specs.Prelude.{ℕ, ◌+◌, Bool, true, false, ◌==◌, nat_eq, List, [], ◌∷◌, ◌++◌, if◌then◌else◌}
use Rattle.std.specs.Fmt.{decimal}
use Rattle.std.specs.List.{slice_split, starts_with}
use lib.Chars.{codes}

-- that word stands in the line, which is not empty
abbrev pub has_word : List ℕ → List ℕ → Bool
has_word word [] = false
has_word word (b ∷ bs) = if starts_with nat_eq (b ∷ bs) word then true else has_word word bs

-- a line tells of a difference: what the script's own run said comes after this word
abbrev pub tells_apart : List ℕ → Bool
tells_apart line = has_word (codes " own ") line

-- the line of the counts has no run
abbrev pub is_untried : List ℕ → Bool
is_untried line =
    if has_word (codes " runs 0 ") line then true else has_word (codes "schedules 0 ") line

-- how the test of that line ends then: nothing failed, and nothing was tried
abbrev pub skip_text : List ℕ → List ℕ
skip_text line = if is_untried line then codes " # SKIP nothing was tried" else []

-- a comment where no run could show a difference
abbrev pub shown_text : Bool → List ℕ
shown_text true = []
shown_text false = codes "# nothing is shown\n"

-- a test that failed, with that number
abbrev pub failed_text : ℕ → List ℕ → List ℕ
failed_text n line = codes "not ok " ++ (decimal n ++ (codes " - " ++ (line ++ 10 ∷ [])))

-- the lines that tell of a difference, each as a test; n tests stand before them
abbrev pub failed_lines : ℕ → List (List ℕ) → List ℕ
failed_lines n [] = []
failed_lines n (line ∷ more) =
    if tells_apart line then (failed_text (n + 1) line ++ failed_lines (n + 1) more) else failed_lines n more

abbrev pub failed_count : List (List ℕ) → ℕ
failed_count [] = 0
failed_count (line ∷ more) = if tells_apart line then (failed_count more + 1) else failed_count more

abbrev pub last_of_two : List ℕ → List ℕ → List ℕ
last_of_two before [] = before
last_of_two before (b ∷ bs) = b ∷ bs

-- the last of these lines that is not empty; where there is none, that one
abbrev pub last_behind : List ℕ → List (List ℕ) → List ℕ
last_behind before [] = before
last_behind before (line ∷ more) = last_behind (last_of_two before line) more

abbrev pub well_word : Bool → List ℕ
well_word true = codes "ok"
well_word false = codes "not ok"

-- the last test, which has the line of the counts, and the plan
abbrev pub counts_text : Bool → ℕ → List ℕ → List ℕ
counts_text well n line =
    well_word well
    ++ (codes " " ++ (decimal n ++ (codes " - " ++ (line ++ (skip_text line ++ (codes "\n1.." ++ (decimal n ++ 10 ∷ [])))))))

abbrev pub tap_lines : Bool → Bool → List (List ℕ) → List ℕ
tap_lines well shown lines =
    codes "TAP version 13\n"
    ++ (failed_lines 0 lines ++ (shown_text shown ++ counts_text well (failed_count lines + 1) (last_behind [] lines)))

-- a test for each line that tells of a difference, and one for the line of the counts, by whether all is well and whether a run
-- can show a difference
abbrev pub tap_text : Bool → Bool → List ℕ → List ℕ
tap_text well shown text = tap_lines well shown (slice_split (λ b. b == 10) text)
