use Rattle.std.proofs.Common.{take, All}
use Rattle.script_lang.specs.Lines.{FitsLine}
use Rattle.script_lang.proofs.lines_fit.fits.Given as goal

abbrev pub invariant-loop-line : goal.invariant-loop-line
invariant-loop-line l = All FitsLine (take l.line-index l.lines)
