use Rattle.std.{proofs.Common.take, specs.Io.KnownBytes.Appends}
use Rattle.script_lang.specs.Spellings.{lines_text}
use Rattle.script_lang.proofs.writing.write_lines.Given as goal

abbrev pub invariant-loop-line : goal.invariant-loop-line
invariant-loop-line g l = Appends (g.W.Write.contents l.initial.out) (g.W.Write.contents l.out) (lines_text (take l.line-index l.lines))
