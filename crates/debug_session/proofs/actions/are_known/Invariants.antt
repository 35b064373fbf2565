use Rattle.std.proofs.Common.{◌≡◌, map, drop}
use Rattle.debug_session.specs.Actions.{are_known}
use Rattle.debug_session.proofs.actions.are_known.Given as goal

abbrev pub invariant-loop-word : goal.invariant-loop-word
invariant-loop-word l = are_known (map (λ w. w.now) (drop l.word-index l.words)) ≡ are_known (map (λ w. w.now) l.words)
