use Rattle.std.proofs.Common.{◌≡◌, map, drop}
use Rattle.debug_session.specs.Actions.{first_asked}
use Rattle.debug_session.proofs.actions.action_for.Given as goal

abbrev pub invariant-loop-word : goal.invariant-loop-word
invariant-loop-word l = first_asked l.thread (map (λ w. w.now) (drop l.word-index l.words)) ≡ first_asked l.thread (map (λ w. w.now) l.words)
