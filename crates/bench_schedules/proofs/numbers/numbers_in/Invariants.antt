use Rattle.std.proofs.Common.{◌≡◌, ◌+◌, ◌++◌, map, drop}
use Rattle.bench_schedules.specs.Numbers.{numbers_from}
use Rattle.bench_schedules.proofs.numbers.numbers_in.Given as goal

abbrev pub invariant-loop-i : goal.invariant-loop-i
invariant-loop-i l =
    l.found.items ++ numbers_from (l.i + 1) (map (λ w. w.now) (drop l.i l.lines)) ≡ numbers_from 1 (map (λ w. w.now) l.lines)
