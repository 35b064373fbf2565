use Rattle.std.proofs.Common.{◌≡◌, ◌++◌, drop}
use Rattle.debug_session.specs.Replies.{pairs_of}
use Rattle.debug_session.proofs.bytes.put_hex.Given as goal

abbrev pub invariant-loop-byte : goal.invariant-loop-byte
invariant-loop-byte l = l.out.items ++ pairs_of (drop l.byte-index l.bytes) ≡ l.fn.out.items ++ pairs_of l.bytes
