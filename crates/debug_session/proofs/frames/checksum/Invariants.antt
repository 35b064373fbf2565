use Rattle.std.proofs.Common.{◌≡◌, ◌+◌, ◌%◌, drop, sum}
use Rattle.debug_session.proofs.frames.checksum.Given as goal

abbrev pub invariant-loop-byte : goal.invariant-loop-byte
invariant-loop-byte l = (l.sum + sum (drop l.byte-index l.body)) % 256 ≡ sum l.body % 256
