use Rattle.std.proofs.Common.{◌≡◌, ◌++◌, take}
use Rattle.bench_sweep.proofs.shown.add_lines.Given as goal

abbrev pub invariant-loop-line : goal.invariant-loop-line
invariant-loop-line l = l.all.items ≡ l.initial.all.items ++ take l.line-index l.lines
