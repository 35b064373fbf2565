use Rattle.std.proofs.Common.{◌≡◌}
use Rattle.tests.proofs.kept_back.write_each.Given as goal

abbrev pub invariant-loop-k : goal.invariant-loop-k
invariant-loop-k g l = l.disk.queue.device.loan.lanes ≡ 0
