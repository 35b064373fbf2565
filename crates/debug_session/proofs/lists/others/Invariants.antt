use Rattle.std.proofs.Common.{◌≡◌}
use Rattle.debug_session.specs.Replies.{others_text}
use Rattle.debug_session.proofs.lists.others.Given as goal

abbrev pub invariant-loop-hart : goal.invariant-loop-hart
invariant-loop-hart l = l.out.items ≡ others_text l.hart
