use Rattle.std.proofs.Common.{◌≡◌, drop}
use Rattle.bench_program.specs.Orders.{tells_any}
use Rattle.bench_program.proofs.orders.tells_any.Given as goal

abbrev pub invariant-loop-place : goal.invariant-loop-place
invariant-loop-place l = tells_any (drop l.place l.lines) ≡ tells_any l.lines
