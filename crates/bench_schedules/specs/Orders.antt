-- Schedules of a script: its turns in another order. Source: docs/SCRIPT.md, "Schedules".
use Rattle.std.specs.Prelude.{◌≡◌, ℕ, suc, ◌+◌, ◌≤◌, List, [], ◌∷◌, ◌++◌, ◌==◌, Bool, true, false, All, length, take, if◌then◌else◌, slice_index_or}
use Rattle.std.specs.List.{sum_by}
use Rattle.board_model.specs.Shapes.{Size}
use Rattle.script_lang.specs.Lines.{FitsLine, IsLineInRange, turns_in}
use Rattle.script_lang.specs.Scripts.{Script}
use Rattle.script_lang.specs.declared.line.Line.{Line}
use Rattle.script_lang.specs.declared.line.Line.TheVariants as lines

-- how many turns of hart h these lines name
abbrev pub named : ℕ → List Line → ℕ
named h those = sum_by (turns_in h) those

-- a line `turn` of at least one turn and at most 1,000,000
abbrev pub IsTurn : Line → Type 0
IsTurn (lines.Turn by n) = (1 ≤ n) × (n ≤ 1000000)
IsTurn line = ⊥

-- the first line has so many turns more
abbrev pub more_turns : ℕ → List Line → List Line
more_turns n (lines.Turn by m ∷ others) = lines.Turn by (n + m) ∷ others
more_turns n others = others

-- the lines as hart h sees them: all turns that stand between two other lines are one line, of its own turns
unfoldable pub seen_by : ℕ → List Line → List Line
seen_by h [] = lines.Turn h 0 ∷ []
seen_by h (lines.Turn by n ∷ more) = more_turns (if by == h then n else 0) (seen_by h more)
seen_by h (line ∷ more) = lines.Turn h 0 ∷ line ∷ seen_by h more

-- To each hart both are the same lines: the same lines that are no turns, in their order, and between two of them
-- as many turns of it.
abbrev pub AreOrderOf : List Line → List Line → Type 0
AreOrderOf old new = (h : ℕ) → seen_by h new ≡ seen_by h old

-- a schedule of a script: its turns in another order
pub record IsScheduleOf (old new : Script) : Type 0 where
  pub board : new.size ≡ old.size
  pub lines : AreOrderOf old.lines new.lines

-- how many turns of hart h are left
abbrev pub left_of : ℕ → List ℕ → ℕ
left_of h left = slice_index_or left h 0

-- lines of turns that name as many of each hart as these
abbrev pub IsRowOf : List Line → List Line → Type 0
IsRowOf row order = All IsTurn order × ((h : ℕ) → named h order ≡ named h row)

-- The lines are an order of the others, with only such lines as the others have: each in the ranges of every board
-- that allows the others, with numbers and bytes of their types.
pub record IsOrderFor (old new : List Line) : Type 0 where
  pub order : AreOrderOf old new
  pub ranges : (size : Size) → All (IsLineInRange size) old → All (IsLineInRange size) new
  pub fits : All FitsLine old → All FitsLine new

-- they may stand where the others stood, whatever stands around them
abbrev pub TakesPlaceOf : List Line → List Line → Type 0
TakesPlaceOf old new = (front back : List Line) → IsOrderFor (front ++ (old ++ back)) (front ++ (new ++ back))

-- The first n of these lines, one or more, were taken, and lines that may stand in their place added to those made.
pub record IsPartAdded (rest made new_made : List Line) (n : ℕ) : Type 0 where
  pub some : 1 ≤ n
  pub within : n ≤ length rest
  pub new : List Line
  pub added : new_made ≡ made ++ new
  pub placed : TakesPlaceOf (take n rest) new

-- a line that is no `turn`
abbrev pub is_other : Line → Bool
is_other (lines.Turn by n) = false
is_other line = true

-- how many lines are no turns
abbrev pub other_count : List Line → ℕ
other_count [] = 0
other_count (lines.Turn by n ∷ more) = other_count more
other_count (line ∷ more) = suc (other_count more)
