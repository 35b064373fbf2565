use Rattle.std.{proofs.Common.{◌≡◌, ◌+◌, ◌≤◌, ◌++◌, ℕ, List, map, drop}, specs.Io.KnownBytes.Appends}
use Rattle.bench_program.specs.Taps.{failed_count, failed_lines}
use Rattle.bench_program.proofs.taps.write_failures.Given as goal

abbrev pub invariant-loop-line : goal.invariant-loop-line
invariant-loop-line g l = record {
  count : l.told + failed_count (map (λ w. w.now) (drop l.line-index l.lines)) ≡ failed_count (map (λ w. w.now) l.lines);
  few : l.told ≤ l.line-index;
  wrote : (text : List ℕ) × Appends (g.W.Write.contents l.initial.out) (g.W.Write.contents l.out) text
      × (text ++ failed_lines l.told (map (λ w. w.now) (drop l.line-index l.lines)) ≡ failed_lines 0 (map (λ w. w.now) l.lines));
}
