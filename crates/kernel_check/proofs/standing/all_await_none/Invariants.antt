use Rattle.std.proofs.Common.{◌<◌, ℕ}
use Rattle.kernel_check.specs.Failures.{AwaitsNone}
use Rattle.kernel_check.proofs.standing.all_await_none.Given as goal

abbrev pub invariant-loop-number : goal.invariant-loop-number
invariant-loop-number l = (h : ℕ) → h < l.number → h < l.board.machine.size.harts → AwaitsNone l.board.machine h
