use Rattle.std.proofs.Common.{◌≡◌, ◌≤◌, ◌+◌, drop}
use Rattle.bench_sweep.specs.Apart.{common, ends_of}
use Rattle.bench_sweep.proofs.apart.ends_alike.Given as goal

-- those so far, and those of what is left
abbrev pub invariant-loop-i : goal.invariant-loop-i
invariant-loop-i l = record {
  all : ends_of (common l.one l.other) ≡ l.ends + ends_of (common (drop l.i l.one) (drop l.i l.other));
  few : l.ends ≤ l.i;
}
