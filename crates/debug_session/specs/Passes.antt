-- Turns of a hart that are made one by one, up to the first after which it halts.
use Rattle.std.specs.Prelude.{◌≡◌, ℕ, ◌-◌, zero, suc, false, List, Option, Some, None}
use Rattle.board_model.specs.Shapes.{Size}
use Rattle.machine.specs.Machine.{Machine}
use Rattle.sbi.specs.Words.{ends}
use Rattle.sbi.specs.declared.words.Word.{Word}
use Rattle.bench_report.specs.Bench.{Bench, BenchLife}
use Rattle.bench_report.specs.declared.rows.TurnRow.{TurnRow}
use Rattle.bench_report.specs.declared.rows.TurnRow.TheVariants as rows
use Rattle.bench_report.specs.Rows.{RowMoves, last_of, made_in}
use Rattle.debug_session.specs.Lives.{pc_in, stands_in}

-- the machine of a board that is on
abbrev pub machine_left : Option BenchLife → Option Machine
machine_left None = None
machine_left (Some life) = Some life.machine

-- A turn of hart h that another may follow: it did not end the row, and left the hart at none of these addresses.
abbrev pub PassesOne : Size → ℕ → List ℕ → Bench → Bench → Type 0
PassesOne size h points b new =
    (word : Word) × RowMoves size h (rows.Made 1 word) b new × (ends word ≡ false)
    × (stands_in points (pc_in h (machine_left new.power)) ≡ false)

-- n of them
abbrev pub Passes : Size → ℕ → List ℕ → ℕ → Bench → Bench → Type 0
Passes size h points zero b new = new ≡ b
Passes size h points (suc n) b new = (mid : Bench) × Passes size h points n b mid × PassesOne size h points mid new

-- The turns of a row, one by one: another may follow each but the last.
abbrev pub GoesTo : Size → ℕ → List ℕ → TurnRow → Bench → Bench → Type 0
GoesTo size h points row b new =
    (mid : Bench) × Passes size h points (made_in row - 1) b mid × RowMoves size h (last_of row) mid new
