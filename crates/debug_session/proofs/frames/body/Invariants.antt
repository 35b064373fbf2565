use Rattle.std.proofs.Common.{◌≡◌, ◌++◌, drop}
use Rattle.debug_session.specs.Packets.{body_of}
use Rattle.debug_session.proofs.frames.body.Given as goal

abbrev pub invariant-loop-byte : goal.invariant-loop-byte
invariant-loop-byte l = l.out.items ++ body_of (drop l.byte-index l.payload) ≡ body_of l.payload
