use Rattle.std.proofs.{Common.{ℕ, ap, length, length-append, arith}, lemmas.List.length-replicate}
use Rattle.board_space.proofs.row_layout.Layout.new.Goals as goal

pub invariant_of-result : goal.invariant_of-result
invariant_of-result c = record {
  wide = omega arith;
  whole = omega (arith, ap length c.in_ok-booted.ensures, length-append {A = ℕ}, length-replicate {A = ℕ});
  within = λ word t. omega (arith, c.in_ok-tracked.ensures.only word t, c.requires.words);
}
