use Rattle.std.proofs.Common.{◌≡◌, false, drop}
use Rattle.debug_session.specs.Packets.{spelled_by, led_by}
use Rattle.debug_session.proofs.frames.unescaped.Given as goal

abbrev pub invariant-loop-byte : goal.invariant-loop-byte
invariant-loop-byte l = led_by l.out.items (spelled_by l.after_escape (drop l.byte-index l.body)) ≡ spelled_by false l.body
