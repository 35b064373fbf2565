use Rattle.std.proofs.Common.{◌≡◌, ◌++◌, map, drop}
use Rattle.debug_session.specs.Replies.{packets_of}
use Rattle.debug_session.proofs.sent.packets.Given as goal

abbrev pub invariant-loop-payload : goal.invariant-loop-payload
invariant-loop-payload l = l.out.items ++ packets_of (map (λ p. p.items) (drop l.payload-index l.payloads)) ≡ packets_of (map (λ p. p.items) l.payloads)
