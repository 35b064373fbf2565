use Rattle.std.proofs.Common.{◌≡◌, map, drop, []}
use Rattle.bench_program.specs.Taps.{last_behind}
use Rattle.bench_program.proofs.taps.last_line.Given as goal

abbrev pub invariant-loop-line : goal.invariant-loop-line
invariant-loop-line l = last_behind l.last (map (λ w. w.now) (drop l.line-index l.lines)) ≡ last_behind [] (map (λ w. w.now) l.lines)
