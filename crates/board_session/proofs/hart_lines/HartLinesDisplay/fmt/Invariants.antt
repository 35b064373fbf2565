use Rattle.std.{proofs.Common.take, specs.Fmt.{HasWritten, IsPlainFormatter}}
use Rattle.board_session.specs.HartTexts.{lines_text}
use Rattle.board_session.proofs.hart_lines.HartLinesDisplay.fmt.Given as goal

abbrev pub invariant-loop-end : goal.invariant-loop-end
invariant-loop-end g l =
    IsPlainFormatter l.initial.f → HasWritten g.W.Write.write_str_gives l.initial.f (lines_text (take l.end-index l.self.0.now)) l.f
