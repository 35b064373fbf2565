use Rattle.std.proofs.Common.{◌≡◌, drop}
use Rattle.bench_program.specs.Orders.{has_orders}
use Rattle.bench_program.proofs.orders.has_orders.Given as goal

abbrev pub invariant-loop-place : goal.invariant-loop-place
invariant-loop-place l = has_orders (drop l.place l.lines) ≡ has_orders l.lines
