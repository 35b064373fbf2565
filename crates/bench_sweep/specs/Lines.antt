-- What a line that moves harts does, by the steps of the model, and that the ledger follows it.
use Rattle.std.specs.Prelude.{◌≡◌, ℕ, Option, None, Some}
use Rattle.board_model.specs.Shapes.{Size}
use Rattle.sbi.specs.declared.words.Word.{Word}
use Rattle.script_lang.specs.declared.line.Line.{Line}
use Rattle.report_lines.specs.declared.printed.Answer.{Answer}
use Rattle.bench_report.specs.Bench.{BenchLife, Bench}
use Rattle.bench_report.specs.Steps.{Step}
use Rattle.bench_report.specs.Turns.{GuestTurn, GuestTurns}
use Rattle.bench_report.specs.Agree.{OnIs, BoardAfter}
use Rattle.bench_report.specs.Views.{SimBoard}
use Rattle.bench_sweep.specs.declared.ledgers.RunLedger.{RunLedger}
use Rattle.bench_sweep.specs.declared.site.Going.{Going}
use Rattle.bench_sweep.specs.Resumes.{line_resumes, Resumes}
use Rattle.bench_sweep.specs.Runs.{Follows, Runs}

-- one turn of hart h, and what was said of it
abbrev pub TurnsOnce : ℕ → Bench → Word → Bench → Type 0
TurnsOnce h b word new = (life : BenchLife) × (b.power ≡ Some life) × GuestTurn h life b word new

-- at most n turns of hart h in a line, and what was said of the last
abbrev pub TurnsMany : ℕ → ℕ → Bench → Word → Bench → Type 0
TurnsMany h n b word new = (made : ℕ) × GuestTurns h n b made word new

-- what a line does, whatever it answers
abbrev pub DoesLine : Size → Line → Bench → Bench → Type 0
DoesLine size line b new = (answer : Answer) × Step size line b answer new

-- A hart came to that word by a step from b of which this holds; the board and the ledger then.
pub record HartGoes (size : Size) (b : Bench) (Does : Bench → Type 0) (word : Word) (board : SimBoard) (ledger : RunLedger)
    : Type 0 where
  pub bench : Bench
  pub does : Does bench
  pub slots : bench.payloads ≡ b.payloads
  pub after : BoardAfter size word bench board
  pub follows : Follows size bench ledger

-- the same of a line of harts, of which no word is said where it did nothing
abbrev pub LineGoes : Size → Bench → (Bench → Type 0) → Option Word → SimBoard → RunLedger → Type 0
LineGoes size b Does None board ledger =
    (new : Bench) × Does new × (new.payloads ≡ b.payloads) × OnIs size new board × Follows size new ledger
LineGoes size b Does (Some word) board ledger = HartGoes size b Does word board ledger

-- The line's step was made, and the run's ledger has the serial of the image that it resumed besides those of the old one.
pub record LineMoves (size : Size) (line : Line) (b : Bench) (old new : Going) : Type 0 where
  pub bench : Bench
  pub does : DoesLine size line b bench
  pub resumed : Resumes old.ledger new.ledger (line_resumes line does.0)
  pub runs : Runs size bench new
