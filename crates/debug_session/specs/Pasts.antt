-- What a history says: its lines, each row of turns as the turns that it is. Source: docs/SCRIPT.md.
use Rattle.std.specs.Prelude.{◌≡◌, ◌⊎◌, ◌≤◌, ℕ, zero, suc, ◌+◌, ◌-◌, ◌<◌, Bool, true, List, [], ◌∷◌, ◌++◌, Option, Some, None, replicate, take, ⊤}
use Rattle.std.specs.List.{flat_map}
use Rattle.script_lang.specs.Lines.{turns_in}
use Rattle.script_lang.specs.declared.line.Line.{Line}
use Rattle.script_lang.specs.declared.line.Line.TheVariants as lines

-- the lines that a line stands for: N turns are N lines of one turn
abbrev pub singles : Line → List Line
singles (lines.Turn h n) = replicate n (lines.Turn h 1)
singles line = line ∷ []

abbrev pub moments : List Line → List Line
moments past = flat_map singles past

-- no line makes a turn of hart h
abbrev pub NoRow : ℕ → List Line → Type 0
NoRow h [] = ⊤
NoRow h (line ∷ more) = (turns_in h line ≡ 0) × NoRow h more

-- line i is the last row of hart h, of n turns
abbrev pub IsLastRow : ℕ → List Line → ℕ → ℕ → Type 0
IsLastRow h past i n =
    (0 < n) × ((after : List Line) × (past ≡ take i past ++ lines.Turn h n ∷ after) × NoRow h after)

-- the last turn of hart h, and what came after it, are forgotten, and nothing else
abbrev pub IsBack : ℕ → List Line → List Line → Type 0
IsBack h old new =
    (after : List Line) × (moments old ≡ moments new ++ lines.Turn h 1 ∷ moments after) × NoRow h after

-- so many turns of hart h, in one line where there are any
abbrev pub some_turns : ℕ → ℕ → List Line
some_turns h zero = []
some_turns h (suc n) = lines.Turn h (suc n) ∷ []

-- one of the lines is a row of hart h: its last turn is forgotten, and all that came after it
abbrev pub IsRowCut : ℕ → List Line → List Line → Type 0
IsRowCut h old new =
    (i : ℕ) × (n : ℕ) × (after : List Line) × (old ≡ take i old ++ lines.Turn h n ∷ after) × (0 < n)
    × (new ≡ take i old ++ some_turns h (n - 1))

-- the last line is a row of n turns of hart h, with room for `more`
abbrev pub IsOpen : ℕ → ℕ → List Line → Option ℕ → Type 0
IsOpen h more past None = ⊤
IsOpen h more past (Some n) = (n + more ≤ 1000000) × ((before : List Line) × (past ≡ before ++ lines.Turn h n ∷ []))

-- turns of hart h joined the last line, which is a row of it
abbrev pub IsJoined : ℕ → ℕ → List Line → List Line → Type 0
IsJoined h count old new =
    (before : List Line) × (n : ℕ) × (old ≡ before ++ lines.Turn h n ∷ [])
    × (new ≡ before ++ lines.Turn h (n + count) ∷ []) × (n + count ≤ 1000000)

-- turns of hart h were added: as a line of their own, or to the last line, where they may join it
abbrev pub IsAdded : ℕ → ℕ → Bool → List Line → List Line → Type 0
IsAdded h count joins old new =
    (new ≡ old ++ lines.Turn h count ∷ []) ⊎ ((joins ≡ true) × IsJoined h count old new)
