use Rattle.std.proofs.Common.{◌≡◌, ◌≤◌, ◌*◌, ℕ, take}
use Rattle.bench_schedules.specs.Orders.{named, left_of}
use Rattle.bench_schedules.proofs.rows.turns_named.Given as goal

abbrev pub invariant-loop-line : goal.invariant-loop-line
invariant-loop-line l = record {
  named : (h : ℕ) → left_of h l.turns ≡ named h (take l.line-index l.row);
  others : (h : ℕ) → 8 ≤ h → left_of h l.turns ≡ 0;
  few : (h : ℕ) → left_of h l.turns ≤ 1000000 * l.line-index;
}
