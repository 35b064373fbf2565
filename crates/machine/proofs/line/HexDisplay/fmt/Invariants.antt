use Rattle.std.{proofs.Common.take, specs.Fmt.{HasWritten, IsPlainFormatter}}
use Rattle.machine.specs.Texts.{bytes_text}
use Rattle.machine.proofs.line.HexDisplay.fmt.Given as goal

abbrev pub invariant-loop-byte : goal.invariant-loop-byte
invariant-loop-byte g l =
    IsPlainFormatter l.initial.f → HasWritten g.W.Write.write_str_gives l.initial.f (bytes_text (take l.byte-index l.self.0.now)) l.f
