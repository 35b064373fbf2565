use Rattle.std.proofs.Common.{◌≡◌, ◌≤◌, map, drop}
use Rattle.script_lang.specs.Scripts.{lines_from}
use Rattle.script_lang.proofs.scripts.checked.Given as goal

abbrev pub invariant-loop-i : goal.invariant-loop-i
invariant-loop-i l = record {
  some : 1 ≤ l.n;
  few : l.n ≤ 65537;
  same : lines_from l.n (map (λ w. w.now) (drop l.i l.lines)) ≡ lines_from 1 (map (λ w. w.now) l.lines);
}
