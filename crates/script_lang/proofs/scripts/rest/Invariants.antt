use Rattle.std.proofs.Common.{All, ◌≡◌, ◌+◌, ◌≤◌, length, map, drop}
use Rattle.script_lang.specs.{Lines.IsLineInRange, Scripts.{rest_of, with_front}}
use Rattle.script_lang.proofs.scripts.rest.Given as goal

abbrev pub invariant-loop-bytes : goal.invariant-loop-bytes
invariant-loop-bytes l = record {
  few : l.n ≤ 65537;
  ranges : All (IsLineInRange l.shape) l.found.items;
  found : length l.found.items + l.start ≤ l.n;
  same : with_front l.found.items (rest_of l.shape l.n (map (λ w. w.now) (drop l.bytes-index l.lines))) ≡ rest_of l.shape l.start (map (λ w. w.now) l.lines);
}
