use Rattle.std.{proofs.Common.{◌≡◌, length}, specs.Io.KnownBytes.Keeps}
use Rattle.board_session.proofs.lines.next_byte.Given as goal

abbrev pub invariant-loop : goal.invariant-loop
invariant-loop g l = record {
  stays : Keeps (g.I.Read.remaining l.fn.input) (g.I.Read.remaining l.input);
  one : length l.byte ≡ 1;
}
