-- The line of a long run at a terminal. Source: docs/SCRIPT.md, "The benches".
use Rattle.std.specs.Prelude.{ℕ, ◌-◌, ◌*◌, ◌/◌, ◌%◌, ◌^◌, List, [], ◌∷◌, ◌++◌, Option, None, Some, nat_lt, if◌then◌else◌}
use Rattle.std.specs.Borrow.{Bor}
use Rattle.std.specs.Fmt.{decimal}
use Rattle.bench_program.specs.declared.standing.RunProgress.{RunProgress}
use lib.Chars.{codes}

-- the last three digits of a number
abbrev pub last_digits : ℕ → List ℕ
last_digits n = decimal (n / 100 % 10) ++ (decimal (n / 10 % 10) ++ decimal (n % 10))

-- a comma, and then these
abbrev pub behind_comma : List ℕ → List ℕ
behind_comma digits = codes "," ++ digits

-- a number with a comma between each three digits
abbrev pub grouped : ℕ → List ℕ
grouped n =
    if nat_lt n 1_000 then decimal n
    else (if nat_lt n 1_000_000 then (decimal (n / 1_000) ++ behind_comma (last_digits n))
    else (if nat_lt n 1_000_000_000
    then (decimal (n / 1_000_000) ++ (behind_comma (last_digits (n / 1_000)) ++ behind_comma (last_digits n)))
    else (decimal (n / 1_000_000_000) ++ (behind_comma (last_digits (n / 1_000_000))
    ++ (behind_comma (last_digits (n / 1_000)) ++ behind_comma (last_digits n))))))

-- the whole seconds that a run takes on, as many milliseconds after it began as it took for these of its rows; none where none was made
abbrev pub seconds_left : ℕ → ℕ → ℕ → Option ℕ
seconds_left took done rows = if nat_lt 0 done then (if nat_lt (took * (rows - done)) (2 ^ 64) then Some (took * (rows - done) / done / 1000) else None) else None

-- what stands after the number of rows of the run
abbrev pub left_text : Option ℕ → List ℕ
left_text None = codes ""
left_text (Some left) = codes ", " ++ (grouped left ++ codes " s left")

-- how far a run is; of a run whose rows are not counted yet, how many were made
abbrev pub standing_text : RunProgress → List ℕ
standing_text s =
    if nat_lt 0 s.rows then (s.noun.now ++ (codes " " ++ (grouped s.done ++ (codes " of " ++ (grouped s.rows ++ left_text s.left)))))
    else (s.noun.now ++ (codes " " ++ grouped s.done))

-- what erases the line that a terminal's cursor stands in: a carriage return, and the control sequence EL (ECMA-48, 8.3.41)
abbrev pub erased : List ℕ
erased = 13 ∷ 27 ∷ 91 ∷ 75 ∷ []

-- the line, over the one that stands, with the cursor back at its begin
abbrev pub standing_line : Bor (List ℕ) → ℕ → ℕ → Option ℕ → List ℕ
standing_line noun done rows left =
    13 ∷ (standing_text (record { noun = noun; done = done; rows = rows; left = left }) ++ 27 ∷ 91 ∷ 75 ∷ 13 ∷ [])
