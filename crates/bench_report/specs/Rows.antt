-- Turns of a hart, as the bench's own relation of a line has them.
use Rattle.std.specs.Prelude.{◌≡◌, ◌≤◌, ◌+◌, ℕ, Bool, true, false, not, ⊤}
use Rattle.board_model.specs.Shapes.{Size}
use Rattle.sbi.specs.Words.{ends}
use Rattle.sbi.specs.declared.words.Word.{Word}
use Rattle.sbi.specs.declared.words.Word.TheVariants as words
use Rattle.sbi_calls.specs.declared.words.Did.{Did}
use Rattle.sbi_calls.specs.declared.words.Did.TheVariants as dids
use Rattle.script_lang.specs.declared.line.Line.TheVariants as lines
use Rattle.machine.specs.declared.line.MachineLine.TheVariants as shown
use Rattle.report_lines.specs.declared.printed.Printed.TheVariants as printed
use Rattle.report_lines.specs.declared.printed.Answer.{Answer}
use Rattle.bench_report.specs.Bench.{Bench}
use Rattle.bench_report.specs.Happens.{says, shows}
use Rattle.bench_report.specs.Steps.{Moves}
use Rattle.bench_report.specs.declared.rows.TurnRow.{TurnRow}
use Rattle.bench_report.specs.declared.rows.TurnRow.TheVariants as rows

-- what the line `turn` of hart h answers
abbrev pub row_answer : ℕ → TurnRow → Answer
row_answer h rows.Off = shows shown.Off
row_answer h (rows.Made n word) = shows (shown.Turn h n word)
row_answer h (rows.Lost n) = says printed.PowerLost

-- no turn was made
abbrev pub is_off : TurnRow → Bool
is_off rows.Off = true
is_off (rows.Made n word) = false
is_off (rows.Lost n) = false

-- how many turns were made
abbrev pub made_in : TurnRow → ℕ
made_in rows.Off = 0
made_in (rows.Made n word) = n
made_in (rows.Lost n) = n

abbrev pub is_idle_did : Did → Bool
is_idle_did dids.Idle = true
is_idle_did did = false

-- the hart had nothing to do
abbrev pub is_idle : Word → Bool
is_idle (words.Goes did) = is_idle_did did
is_idle (words.Over end) = false

-- A line `turn` of as many turns as were made may answer so. Where the board is off, or lacks the hart, no turn was made, and
-- nothing changed.
abbrev pub RowMoves : Size → ℕ → TurnRow → Bench → Bench → Type 0
RowMoves size h rows.Off b new = new ≡ b
RowMoves size h (rows.Made n word) b new = Moves size (lines.Turn h n) b (shows (shown.Turn h n word)) new
RowMoves size h (rows.Lost n) b new = Moves size (lines.Turn h n) b (says printed.PowerLost) new

-- as many were made as a line may have
abbrev pub IsWithin : ℕ → TurnRow → Type 0
IsWithin most rows.Off = ⊤
IsWithin most (rows.Made n word) = (1 ≤ n) × (n ≤ most)
IsWithin most (rows.Lost n) = (1 ≤ n) × (n ≤ most)

abbrev pub is_idle_row : TurnRow → Bool
is_idle_row rows.Off = false
is_idle_row (rows.Made n word) = is_idle word
is_idle_row (rows.Lost n) = false

-- a further turn of the hart belongs to this row
abbrev pub goes_on : TurnRow → Bool
goes_on rows.Off = false
goes_on (rows.Made n word) = not (ends word)
goes_on (rows.Lost n) = false

-- the last of these turns alone
abbrev pub last_of : TurnRow → TurnRow
last_of rows.Off = rows.Off
last_of (rows.Made n word) = rows.Made 1 word
last_of (rows.Lost n) = rows.Lost 1

-- these turns, and then those, as one row
abbrev pub row_then : TurnRow → TurnRow → TurnRow
row_then first rows.Off = first
row_then first (rows.Made n word) = rows.Made (made_in first + n) word
row_then first (rows.Lost n) = rows.Lost (made_in first + n)

-- no turn was made yet, or the row goes on
abbrev pub IsOpenRow : TurnRow → Type 0
IsOpenRow rows.Off = ⊤
IsOpenRow (rows.Made n word) = ends word ≡ false
IsOpenRow (rows.Lost n) = ⊥

-- two rows of turns of a hart, one after the other, are one row, unless the first has ended
abbrev pub RowsJoin : Type 0
RowsJoin = (size : Size) (h : ℕ) (first next : TurnRow) (b mid new : Bench) → IsOpenRow first
    → RowMoves size h first b mid → RowMoves size h next mid new → RowMoves size h (row_then first next) b new

-- an idle turn leaves the bench as it was
abbrev pub IdleTurnStays : Type 0
IdleTurnStays = (size : Size) (h : ℕ) (word : Word) (b new : Bench) → is_idle word ≡ true
    → RowMoves size h (rows.Made 1 word) b new → new ≡ b
