-- Turns that were made in place, as a line of the bench.
use Rattle.std.proofs.Common.{◌≡◌, ℕ, true, false, Option, None, Some, refl, subst}
use Rattle.board.specs.Turns as boards
use Rattle.board_model.specs.Shapes.{Size}
use Rattle.machine.specs.{Machine.Machine, Shows.HasHart}
use Rattle.machine.specs.declared.line.MachineLine.TheVariants as shown
use Rattle.sbi.specs.declared.words.Word.{Word}
use Rattle.script_lang.specs.declared.line.Line.TheVariants as lines
use Rattle.bench_report.specs.{declared.power.Power.TheVariants.On, Agree.{BoardIs, OnIs}, Bench.{BenchLife, Bench}, Turns.GuestTurns}
use Rattle.bench_report.specs.{Happens.{shows, unpowered}, Steps.{Moves, TurnStep}, Views.{SimBoard, store_in, machine_in}}
use Rattle.bench_report.{proofs.{Came.turns, Commanded.Running, Lines.stands_by}, specs.{Rows.{RowMoves, row_answer}, Lives.WentInPlace}}
use Rattle.bench_report.proofs.Turns.{Struck, Went, loss_of, moves_of, trimmed, went_step}
use Rattle.bench_report.specs.declared.rows.TurnRow.TheVariants as rows

-- what the board did
pub went_on : (size : Size) (b : Bench) (old new : SimBoard) (h n made : ℕ) (word : Word) → OnIs size b old → HasHart (machine_in old) h
    → boards.TurnsManyHeld h n (machine_in old) (machine_in new) (store_in old) (store_in new) made word → WentInPlace size h n b made word (On new)
went_on size b old new h n made word was has turned = by b.power was.0 refl
  where
    by : (p : Option BenchLife) → BoardIs size b.disk_state b.kept p old → b.power ≡ p → WentInPlace size h n b made word (On new)
    by None is on = absurd is
    by (Some life) is on =
        let P : Machine → Type 0 = λ m. HasHart m h in
        let running : Running size b (machine_in old) (store_in old) = (life, on, is.0, is.1, was.1) in
        let did = turns size h n b (machine_in old) (machine_in new) (store_in old) (store_in new) made word running turned in
        (did.0, life, on, subst P is.1 has, did.1, stands_by size word did.0 new did.2, did.3, did.4)

-- ---- the line of a row, and of as many turns as were made
module _ (size : Size) (h n : ℕ) (b : Bench) (made : ℕ) (word : Word) (new : Bench) (life : BenchLife) (on : b.power ≡ Some life) (has : HasHart life.machine h) (guest : GuestTurns h n b made word new) where
  long : Went h n b made word new
  long = record { life = life; on = on; has = has; guest = guest }

  short : Went h made b made word new
  short = record { life = life; on = on; has = has; guest = trimmed h n b made word new guest }

  pub step_of : TurnStep b.power h n b (shows (shown.Turn h made word)) new
  step_of = went_step long

  pub row_of : new.fault_state.struck ≡ false → RowMoves size h (rows.Made made word) b new × Moves size (lines.Turn h n) b (row_answer h (rows.Made made word)) new
  row_of calm = (moves_of size h made b made word new short calm, moves_of size h n b made word new long calm)

  pub lost_of : new.fault_state.struck ≡ true → RowMoves size h (rows.Lost made) b (unpowered new) × Moves size (lines.Turn h n) b (row_answer h (rows.Lost made)) (unpowered new)
  lost_of hit =
      let one : Struck h made b (unpowered new) = record { made = made; word = word; mid = new; went = short; hit = hit; off = refl } in
      let all : Struck h n b (unpowered new) = record { made = made; word = word; mid = new; went = long; hit = hit; off = refl } in
      (loss_of size h made b (unpowered new) one, loss_of size h n b (unpowered new) all)
