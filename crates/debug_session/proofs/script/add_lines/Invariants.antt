use Rattle.std.{proofs.Common.{◌≡◌, ◌++◌, take}, specs.String.string_bytes}
use Rattle.debug_session.specs.Texts.{lines_text}
use Rattle.debug_session.proofs.script.add_lines.Given as goal

abbrev pub invariant-loop-line : goal.invariant-loop-line
invariant-loop-line l = string_bytes l.text ≡ string_bytes l.fn.text ++ lines_text (take l.line-index l.lines)
