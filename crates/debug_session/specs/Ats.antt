-- The state of a debugged board is one that its history may leave.
use Rattle.std.specs.Prelude.{◌≡◌, ◌<◌, ℕ, Bool, true, false, List, [], ◌∷◌, ◌++◌, take, replicate, ⊤}
use Rattle.board_model.specs.Shapes.{Size}
use Rattle.sbi.specs.Words.{ends}
use Rattle.sbi.specs.declared.words.Word.{Word}
use Rattle.script_lang.specs.declared.line.Line.{Line}
use Rattle.script_lang.specs.declared.line.Line.TheVariants as lines
use Rattle.simdisk.specs.declared.fill.Fill.TheVariants as fills
use Rattle.debug_session.specs.Pasts.{moments}
use Rattle.report_lines.specs.declared.printed.Answer.{Answer}
use Rattle.bench_report.specs.Bench.{Bench, bench_with}
use Rattle.bench_report.specs.Agree.{fills_after}
use Rattle.bench_report.specs.Steps.{Moves}
use Rattle.bench_report.specs.declared.rows.TurnRow.{TurnRow}
use Rattle.bench_report.specs.declared.rows.TurnRow.TheVariants as rows
use Rattle.bench_report.specs.Rows.{IsWithin, RowMoves, is_idle_row, made_in, row_answer}
use Rattle.debug_session.specs.Notes.{AreInRange, Joins, Leaves}
use Rattle.debug_session.specs.declared.timeline.Timeline.{Timeline}
use Rattle.bench_report.specs.Lives.{IsSound, Shows}
use Rattle.debug_session.specs.Lives.{Rests}
use Rattle.debug_session.specs.Passes.{GoesTo}

-- a line is a row of turns of which all were made, and a further turn of the hart is one row with it
abbrev pub GoesOnBy : Size → Bool → Line → Bench → Bench → Type 0
GoesOnBy size false line b new = ⊤
GoesOnBy size true line b new =
    (h : ℕ) × (n : ℕ) × (word : Word) × (line ≡ lines.Turn h n) × RowMoves size h (rows.Made n word) b new
    × (ends word ≡ false)

-- a bench that the history may leave
abbrev pub IsLeft : Size → Timeline → Bench → Type 0
IsLeft size t b =
    Leaves size (bench_with t.begins) t.history b × Joins size (bench_with t.begins) t.joins t.history b
    × Shows size b t.bench

-- The invariant: the bench is one that the history may leave, and what an armed cut is to leave is what it says.
pub record IsAt (size : Size) (t : Timeline) : Type 0 where
  pub left : (b : Bench) × IsLeft size t b
  pub sound : IsSound t.bench
  pub fill : t.bench.fill ≡ fills_after t.history fills.Old
  pub ranges : AreInRange size t.history

-- A line became part of the history; a row of turns with as many as its answer says.
abbrev pub IsNoted : Line → Answer → List Line → List Line → Type 0
IsNoted (lines.Turn h n) answer old new =
    (row : TurnRow) × IsWithin n row × (answer ≡ row_answer h row)
    × (moments new ≡ moments old ++ replicate (made_in row) (lines.Turn h 1))
IsNoted line answer old new = new ≡ old ++ line ∷ []

-- A line was run, and noted.
pub record Ran (size : Size) (line : Line) (answer : Answer) (old new : Timeline) : Type 0 where
  pub moves : (b : Bench) → IsLeft size old b → (after : Bench) × Moves size line b answer after × IsLeft size new after
  pub noted : IsNoted line answer old.history new.history

-- A row of turns of hart h became part of the history, and nothing else; none before the last ended the row, or left the
-- hart at one of these addresses. The last is not idle, and the turn after it may rest.
pub record MadeTurns (size : Size) (h : ℕ) (points : List ℕ) (row : TurnRow) (rests : Bool) (old new : Timeline) : Type 0 where
  pub moves : (b : Bench) → IsLeft size old b → (after : Bench) × RowMoves size h row b after × IsLeft size new after
      × Rests size h rests after × GoesTo size h points row b after
  pub grew : moments new.history ≡ moments old.history ++ replicate (made_in row) (lines.Turn h 1)
  pub busy : is_idle_row row ≡ false

-- line i is a row of hart h with more than k turns
abbrev pub IsPlace : ℕ → ℕ → ℕ → List Line → Type 0
IsPlace h i k past =
    (n : ℕ) × (after : List Line) × (past ≡ take i past ++ lines.Turn h n ∷ after) × (k < n)

-- the history ends before a turn of hart h, which came next; it and what came after are forgotten, and nothing else
abbrev pub IsBefore : ℕ → List Line → List Line → Type 0
IsBefore h old new = (after : List Line) × (moments old ≡ moments new ++ lines.Turn h 1 ∷ after)
