use Rattle.std.proofs.Common.{◌≡◌, ◌+◌, take}
use Rattle.bench_sweep.proofs.Written.{total}
use Rattle.bench_sweep.proofs.shown.run_of_number.Given as goal

-- so many points stand before those of this caller
abbrev pub invariant-loop-i : goal.invariant-loop-i
invariant-loop-i l = total (take l.i l.counts) + l.point ≡ l.initial.point
