use Rattle.std.proofs.Common.{◌≡◌, take}
use Rattle.bench_schedules.proofs.copies.copied_row.Given as goal

abbrev pub invariant-loop-line : goal.invariant-loop-line
invariant-loop-line l = l.copy.items ≡ take l.line-index l.row
