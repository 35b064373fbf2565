use Rattle.std.proofs.Common.{◌≡◌, map, take}
use Rattle.kernel_check.specs.Options.{is_among}
use lib.Chars.{codes}
use Rattle.kernel_check.proofs.parsed.left_out.Given as goal

abbrev pub invariant-loop-word : goal.invariant-loop-word
invariant-loop-word l = record {
  cuts : l.cuts ≡ is_among (codes "cuts") (map (λ w. w.now) (take l.word-index l.words));
  refusals : l.refusals ≡ is_among (codes "refusals") (map (λ w. w.now) (take l.word-index l.words));
}
