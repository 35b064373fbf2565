use Rattle.std.proofs.Common.{◌≡◌, ◌+◌, drop}
use Rattle.bench_schedules.specs.Numbers.{place_of_other}
use Rattle.bench_schedules.proofs.numbers.place_of_other.Given as goal

abbrev pub invariant-loop-i : goal.invariant-loop-i
invariant-loop-i l = l.i + place_of_other l.left (drop l.i l.lines) ≡ place_of_other l.k l.lines
