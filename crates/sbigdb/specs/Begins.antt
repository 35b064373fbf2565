-- Where a session begins. Source: docs/DEBUGGING.md, "A race that a bench found"; docs/SCRIPT.md, "Schedules" and "The benches".
use Rattle.std.specs.Prelude.{◌≡◌, ◌⊎◌, ◌==◌, ◌&&◌, ℕ, Bool, false, List, [], ◌∷◌, ◌++◌, Option, None, Some, Ok, if◌then◌else◌, min}
use Rattle.std.specs.Option.{option_to_list}
use Rattle.board_model.specs.Shapes.{Size}
use Rattle.board_model.specs.declared.refusal.Refusal.{Refusal}
use Rattle.board_model.specs.declared.refusal.Refusal.TheVariants.{BadShape, NotPlain}
use Rattle.script_lang.specs.Scripts.{Script, script_of}
use Rattle.script_lang.specs.Spellings.{script_text}
use Rattle.script_lang.specs.declared.line.Line.{Line}
use Rattle.script_lang.specs.declared.line.Line.TheVariants as lines
use Rattle.bench_schedules.specs.Orders.{IsScheduleOf, is_other}
use Rattle.bench_sweep.specs.Shown.{NoRowOf, ShownRow}
use Rattle.bench_sweep.specs.Swept.{NoBenchRuns}
use Rattle.bench_sweep.specs.declared.points.BenchKind.{BenchKind}
use Rattle.bench_sweep.specs.declared.points.BenchKind.TheVariants.{Cuts, Fails}
use Rattle.sbigdb.specs.declared.given.Begin.{Begin}
use Rattle.sbigdb.specs.declared.given.Begin.TheVariants.{Cut, End, Failure, Schedule}
use Rattle.sbigdb.specs.Strikes.{StopsBefore}

-- the turns that both lines make, where these are rows of one hart
abbrev pub turns_of_both : Line → Line → Option Line
turns_of_both (lines.Turn h n) (lines.Turn g m) = if h == g then Some (lines.Turn h (min n m)) else None
turns_of_both a b = None

-- those of the first of both
abbrev pub both_turn : List Line → List Line → List Line
both_turn [] right = []
both_turn (a ∷ left) [] = []
both_turn (a ∷ left) (b ∷ right) = option_to_list (turns_of_both a b)

-- Lines up to where two scripts part: those with which both begin, as many as there are, and then the turns that both make.
pub record PartsAt (own other lines : List Line) : Type 0 where
  pub front : List Line
  pub left : List Line
  pub right : List Line
  pub of_own : own ≡ front ++ left
  pub of_other : other ≡ front ++ right
  pub parts : (line : Line) (a b : List Line) → left ≡ line ∷ a → right ≡ line ∷ b → ⊥
  pub stands : lines ≡ front ++ both_turn left right

-- it is the script that `--show` writes of the row of that number
abbrev pub IsRow : BenchKind → ℕ → Script → List (List ℕ) → Script → Type 0
IsRow kind number said payloads found =
    ShownRow kind said.size payloads said.lines number (Some []) (Some (script_text found ++ 10 ∷ []))

-- What a bench found of a script that begins with these payloads: a schedule; or a row of the power-cut bench, or of the fault bench.
abbrev pub IsFound : Begin → Script → List (List ℕ) → Script → Type 0
IsFound End said payloads found = found ≡ said
IsFound (Schedule drawn) said payloads found = IsScheduleOf said found
IsFound (Cut number) said payloads found = IsRow Cuts number said payloads found
IsFound (Failure number) said payloads found = IsRow Fails number said payloads found

-- up to where what was found parts from the script; of a row, up to where what it arms strikes
abbrev pub StopsAt : Begin → Size → List (List ℕ) → List Line → List Line → List Line → Type 0
StopsAt End size payloads own other stop = PartsAt own other stop
StopsAt (Schedule drawn) size payloads own other stop = PartsAt own other stop
StopsAt (Cut number) size payloads own other stop = StopsBefore size payloads other stop
StopsAt (Failure number) size payloads own other stop = StopsBefore size payloads other stop

-- The lines of what was found, up to there.
pub record BeginsAt (begin : Begin) (text : List ℕ) (payloads : List (List ℕ)) (script : Script) : Type 0 where
  pub said : Script
  pub read : script_of text ≡ Ok said
  pub found : Script
  pub is : IsFound begin said payloads found
  pub board : script.size ≡ said.size
  pub stops : StopsAt begin said.size payloads said.lines found.lines script.lines

-- there is no row of that number, or no bench runs the script
abbrev pub NoRow : BenchKind → ℕ → List ℕ → List (List ℕ) → Refusal → Type 0
NoRow kind number text payloads e =
    ((e ≡ NotPlain) × NoBenchRuns text) ⊎ ((e ≡ BadShape) × NoRowOf kind number payloads text)

-- there is no such row
abbrev pub HasNone : Begin → List ℕ → List (List ℕ) → Refusal → Type 0
HasNone End text payloads e = ⊥
HasNone (Schedule drawn) text payloads e = ⊥
HasNone (Cut number) text payloads e = NoRow Cuts number text payloads e
HasNone (Failure number) text payloads e = NoRow Fails number text payloads e

-- ---- how the code finds where they part
-- both lines are the same row of turns, or neither is one
abbrev pub is_same_row : Line → Line → Bool
is_same_row (lines.Turn h n) (lines.Turn g m) = (h == g) && (n == m)
is_same_row (lines.Turn h n) b = false
is_same_row a b = is_other b
