-- Two rows of turns of a hart, one after the other, are one.
use Rattle.std.proofs.Common.{◌≡◌, ◌+◌, ℕ, false, refl, sym, subst, arith}
use Rattle.board_model.specs.Shapes.{Size}
use Rattle.sbi.specs.{Words.ends, declared.words.Word.Word}
use Rattle.bench_report.specs.{Bench.Bench, declared.rows.TurnRow.TurnRow, Rows.{RowMoves, RowsJoin}}
use Rattle.bench_report.proofs.Turns.{went_in, lost_in, moves_of, loss_of, merged}
use Rattle.bench_report.specs.declared.rows.TurnRow.TheVariants as rows

counted : (size : Size) (h n m : ℕ) (word : Word) (b new : Bench) → n ≡ m → RowMoves size h (rows.Made n word) b new → RowMoves size h (rows.Made m word) b new
counted size h n m word b new e moves = subst (λ (x : ℕ). RowMoves size h (rows.Made x word) b new) e moves

counted_loss : (size : Size) (h n m : ℕ) (b new : Bench) → n ≡ m → RowMoves size h (rows.Lost n) b new → RowMoves size h (rows.Lost m) b new
counted_loss size h n m b new e moves = subst (λ (x : ℕ). RowMoves size h (rows.Lost x) b new) e moves

from_here : (size : Size) (h : ℕ) (next : TurnRow) (b mid new : Bench) → mid ≡ b → RowMoves size h next mid new → RowMoves size h next b new
from_here size h next b mid new same moves = subst (λ (x : Bench). RowMoves size h next x new) same moves

-- a first row, before another of turns
pub went_then : (size : Size) (h n c : ℕ) (w word : Word) (b mid new : Bench) → ends w ≡ false → RowMoves size h (rows.Made n w) b mid → RowMoves size h (rows.Made c word) mid new → RowMoves size h (rows.Made (n + c) word) b new
went_then size h n c w word b mid new runs first next =
    let a = went_in size h n b n w mid first in
    let d = went_in size h c mid c word new next in
    moves_of size h (n + c) b (n + c) word new (record { life = a.0.life; on = a.0.on; has = a.0.has; guest = merged h n c b n w mid c word new refl a.0.guest runs a.1 d.0.guest }) d.1

-- and before one in which a cut struck
pub lost_then : (size : Size) (h n c : ℕ) (w : Word) (b mid new : Bench) → ends w ≡ false → RowMoves size h (rows.Made n w) b mid → RowMoves size h (rows.Lost c) mid new → RowMoves size h (rows.Lost (n + c)) b new
lost_then size h n c w b mid new runs first next =
    let a = went_in size h n b n w mid first in
    let d = lost_in size h c mid new a.1 next in
    loss_of size h (n + c) b new (record {
      made = n + d.made;
      word = d.word;
      mid = d.mid;
      went = record { life = a.0.life; on = a.0.on; has = a.0.has; guest = merged h n c b n w mid d.made d.word d.mid refl a.0.guest runs a.1 d.went.guest };
      hit = d.hit;
      off = d.off;
    })

pub rows_join : RowsJoin
rows_join size h first rows.Off b mid new runs was next = subst (λ (x : Bench). RowMoves size h first b x) (sym next) was
rows_join size h rows.Off (rows.Made c word) b mid new runs was next = counted size h c (0 + c) word b new (omega arith) (from_here size h (rows.Made c word) b mid new was next)
rows_join size h (rows.Made n w) (rows.Made c word) b mid new runs was next = went_then size h n c w word b mid new runs was next
rows_join size h (rows.Lost n) (rows.Made c word) b mid new runs was next = absurd runs
rows_join size h rows.Off (rows.Lost c) b mid new runs was next = counted_loss size h c (0 + c) b new (omega arith) (from_here size h (rows.Lost c) b mid new was next)
rows_join size h (rows.Made n w) (rows.Lost c) b mid new runs was next = lost_then size h n c w b mid new runs was next
rows_join size h (rows.Lost n) (rows.Lost c) b mid new runs was next = absurd runs
