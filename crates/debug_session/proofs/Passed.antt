-- Turns that are made one by one.
use Rattle.std.proofs.Common.{◌≡◌, ◌≤◌, ◌+◌, ◌-◌, inl, inr, ◌∙◌, ℕ, suc, Bool, false, nat_lt, length, List, Option, None, Some, refl, sym, ap, subst, arith}
use Rattle.std.{specs.Prelude.if◌then◌else◌, proofs.lemmas.Bool.Decides.nat_tests}
use Rattle.board_model.specs.{Shapes.Size, Kept.Kept}
use Rattle.machine.specs.{Machine.{Machine, hart_at}, Shows.HasHart}
use Rattle.script_lang.specs.declared.line.Line.TheVariants as lines
use Rattle.machine.specs.declared.line.MachineLine.TheVariants as shown
use Rattle.report_lines.specs.declared.printed.Printed.TheVariants as printed
use Rattle.report_lines.specs.declared.printed.Answer.{Answer}
use Rattle.bench_report.specs.{Steps.{Moves, TurnStep}, Agree.{BoardIs, IsBench}, Bench.{Bench, BenchLife, DiskState}, Views.SimBoard}
use Rattle.bench_report.specs.declared.{power.Power.{Power, TheVariants.{Off, On}}, rows.TurnRow.TurnRow, live.LiveBench.LiveBench}
use Rattle.bench_report.specs.Rows.{IsOpenRow, IsWithin, RowMoves, RowsJoin, is_off, made_in, row_answer, row_then}
use Rattle.bench_report.specs.declared.rows.TurnRow.TheVariants as rows
use Rattle.bench_report.specs.Lives as live
use Rattle.debug_session.specs.{Lives.{machine_on, pc_in, stands_in}, Passes.{GoesTo, Passes, machine_left}}

-- ---- the machine that a bench shows
on_machine : (size : Size) (disk_state : DiskState) (kept : Kept) (p : Option BenchLife) (board : SimBoard) → BoardIs size disk_state kept p board → machine_on (On board) ≡ machine_left p
on_machine size disk_state kept None board is = absurd is
on_machine size disk_state kept (Some life) board is = ap (λ (m : Machine). Some m) is.1

pub shown_machine : (size : Size) (b : Bench) (power : Power) (payloads : List (List ℕ)) → IsBench size b power payloads → machine_on power ≡ machine_left b.power
shown_machine size b (Off disk) payloads shows = sym (ap machine_left shows.0.0)
shown_machine size b (On board) payloads shows = on_machine size b.disk_state b.kept b.power board shows.0.0

-- ---- where no turn is made
none_at : (h : ℕ) (m : Machine) → (HasHart m h → ⊥) → pc_in h (Some m) ≡ None
none_at h m lacks = let test : nat_lt h (length m.harts) ≡ false = grind (arith, nat_tests, lacks) in ap (λ (t : Bool). if t then Some (hart_at m h).pc else None) test

-- the board is off, or lacks the hart
off_lacks : (size : Size) (h n : ℕ) (b new : Bench) → Moves size (lines.Turn h n) b (row_answer h rows.Off) new → pc_in h (machine_left b.power) ≡ None
off_lacks size h n b new (inr (would, mid, step, struck, e, is)) =
    let no : printed.Shown shown.Off ≡ printed.PowerLost = ap (λ (a : Answer). a.line) e in absurd (let never : ⊥ = cc in never)
off_lacks size h n b new (inl (step, calm)) = at b.power step
  where
    at : (p : Option BenchLife) → TurnStep p h n b (row_answer h rows.Off) new → pc_in h (machine_left p) ≡ None
    at None step = refl
    at (Some life) (inl (has, made, word, guest, e)) =
        let no : printed.Shown shown.Off ≡ printed.Shown (shown.Turn h made word) = ap (λ (a : Answer). a.line) e in absurd (let never : ⊥ = cc in never)
    at (Some life) (inr (lacks, e, same)) = none_at h life.machine lacks

pub off_row : (size : Size) (h n : ℕ) (row : TurnRow) (b : Bench) (after : LiveBench) → row ≡ rows.Off
    → (new : Bench) × RowMoves size h row b new × Moves size (lines.Turn h n) b (row_answer h row) new × live.Shows size new after → pc_in h (machine_on after.power) ≡ None
off_row size h n row b after is (new, moves, line, shows) =
    let P : TurnRow → Type 0 = λ r. RowMoves size h r b new × Moves size (lines.Turn h n) b (row_answer h r) new in
    let off = subst P is (moves, line) in
    ap (pc_in h) (shown_machine size new after.power after.payloads shows) ∙ ap (λ (x : Bench). pc_in h (machine_left x.power)) off.0 ∙ off_lacks size h n b new off.1

-- ---- one turn more
pub within_less : (most k : ℕ) (row : TurnRow) → most ≤ k → IsWithin most row → IsWithin k row
within_less most k rows.Off less within = tt
within_less most k (rows.Made n word) less within = (omega (arith, within), omega (arith, within, less))
within_less most k (rows.Lost n) less within = (omega (arith, within), omega (arith, within, less))

module _ (size : Size) (h : ℕ) (points : List ℕ) where
  -- another turn may follow a row that is open and left the hart at none of the addresses
  passes_of : (row : TurnRow) (b new : Bench) → IsOpenRow row → IsWithin 1000000 row → RowMoves size h row b new → GoesTo size h points row b new
      → (is_off row ≡ false → stands_in points (pc_in h (machine_left new.power)) ≡ false) → Passes size h points (made_in row) b new
  passes_of rows.Off b new runs within moves goes still = moves
  passes_of (rows.Lost n) b new runs within moves goes still = absurd runs
  passes_of (rows.Made n word) b new runs within moves (mid, passed, last) still =
      let more : suc (n - 1) ≡ n = omega (arith, within) in
      let P : ℕ → Type 0 = λ k. Passes size h points k b new in
      subst P more (mid, passed, (word, last, runs, still refl))

  pub goes_more : (row next : TurnRow) (b mid new : Bench) → IsOpenRow row → IsWithin 1000000 row → RowMoves size h row b mid → GoesTo size h points row b mid
      → (is_off row ≡ false → stands_in points (pc_in h (machine_left mid.power)) ≡ false) → IsWithin 1 next → RowMoves size h next mid new → GoesTo size h points (row_then row next) b new
  goes_more row rows.Off b mid new runs within moves goes still one step =
      let P : Bench → Type 0 = λ x. GoesTo size h points row b x in subst P (sym step) goes
  goes_more row (rows.Made n word) b mid new runs within moves goes still one step =
      let single : n ≡ 1 = omega (arith, one) in
      let count : made_in row ≡ made_in row + n - 1 = omega (arith, single) in
      let P : ℕ → Type 0 = λ k. Passes size h points k b mid in
      let Q : ℕ → Type 0 = λ k. RowMoves size h (rows.Made k word) mid new in
      (mid, subst P count (passes_of row b mid runs within moves goes still), subst Q single step)
  goes_more row (rows.Lost n) b mid new runs within moves goes still one step =
      let single : n ≡ 1 = omega (arith, one) in
      let count : made_in row ≡ made_in row + n - 1 = omega (arith, single) in
      let P : ℕ → Type 0 = λ k. Passes size h points k b mid in
      let Q : ℕ → Type 0 = λ k. RowMoves size h (rows.Lost k) mid new in
      (mid, subst P count (passes_of row b mid runs within moves goes still), subst Q single step)

  -- a row with one turn more, as the bench's own row and turn by turn
  pub more_done : (join : RowsJoin) (row next all : TurnRow) (b mid new : Bench) → all ≡ row_then row next → IsOpenRow row → IsWithin 1000000 row → RowMoves size h row b mid → GoesTo size h points row b mid
      → (is_off row ≡ false → stands_in points (pc_in h (machine_left mid.power)) ≡ false) → IsWithin 1 next → RowMoves size h next mid new → RowMoves size h all b new × GoesTo size h points all b new
  more_done join row next all b mid new is runs within moves goes still one step =
      let P : TurnRow → Type 0 = λ r. RowMoves size h r b new × GoesTo size h points r b new in
      subst P (sym is) (join size h row next b mid new runs moves step, goes_more row next b mid new runs within moves goes still one step)
