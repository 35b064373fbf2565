-- A history that may leave a bench, and turns that are noted in it.
use Rattle.std.specs.Prelude.{◌≡◌, ℕ, Bool, true, false, List, [], ◌∷◌, ◌++◌, All, ⊤}
use Rattle.board_model.specs.Shapes.{Size}
use Rattle.sbi.specs.Words.{ends}
use Rattle.sbi.specs.declared.words.Word.{Word}
use Rattle.script_lang.specs.Lines.{IsLineInRange}
use Rattle.script_lang.specs.declared.line.Line.{Line}
use Rattle.script_lang.specs.declared.line.Line.TheVariants as lines
use Rattle.report_lines.specs.declared.printed.Answer.{Answer}
use Rattle.bench_report.specs.Bench.{Bench}
use Rattle.bench_report.specs.Steps.{Run}
use Rattle.bench_report.specs.declared.rows.TurnRow.{TurnRow}
use Rattle.bench_report.specs.declared.rows.TurnRow.TheVariants as rows
use Rattle.bench_report.specs.Rows.{RowMoves}

-- these lines may leave the bench, where they begin with that one
abbrev pub Leaves : Size → Bench → List Line → Bench → Type 0
Leaves size start past b = (answers : List Answer) × Run size start past answers b

-- The last line is a row of turns, all of which were made, and a further turn of the hart belongs to that row.
abbrev pub Joins : Size → Bench → Bool → List Line → Bench → Type 0
Joins size start false past b = ⊤
Joins size start true past b =
    (before : List Line) × (h : ℕ) × (n : ℕ) × (mid : Bench) × (word : Word) × (past ≡ before ++ lines.Turn h n ∷ [])
    × Leaves size start before mid × RowMoves size h (rows.Made n word) mid b × (ends word ≡ false)

-- the lines are those of a script of that board
abbrev pub AreInRange : Size → List Line → Type 0
AreInRange size past = All (IsLineInRange size) past

-- The history could leave a bench; with these turns noted in it, it can leave the bench that comes after them.
abbrev pub NotesRow : Size → ℕ → TurnRow → Bool → Bool → List Line → List Line → Type 0
NotesRow size h row joins next old new =
    (start b after : Bench) → Leaves size start old b → Joins size start joins old b → RowMoves size h row b after
    → Leaves size start new after × Joins size start next new after
