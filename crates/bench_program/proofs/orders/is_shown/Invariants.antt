use Rattle.std.proofs.Common.{◌≡◌, drop}
use Rattle.bench_program.specs.Orders.{is_shown}
use Rattle.bench_program.proofs.orders.is_shown.Given as goal

abbrev pub invariant-loop-place : goal.invariant-loop-place
invariant-loop-place l = is_shown (drop l.place l.lines) ≡ is_shown l.lines
