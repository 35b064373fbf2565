use Rattle.std.proofs.Common.{◌≡◌}
use Rattle.machine.specs.Machine.{stopped_harts}
use Rattle.model_board.proofs.plain.stopped_harts.Given as goal

abbrev pub invariant-loop-number : goal.invariant-loop-number
invariant-loop-number l = l.harts.items ≡ stopped_harts l.number
