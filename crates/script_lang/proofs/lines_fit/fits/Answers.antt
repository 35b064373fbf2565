use Rattle.std.proofs.{Common.{take, All, get_or, sym, subst, [], ◌∷◌}, lemmas.List.{take_more, Elements.{All-append, All-cons, All-nil}}}
use Rattle.script_lang.specs.Lines.{FitsLine}
use Rattle.script_lang.proofs.lines_fit.fits.Goals as goal

pub loop-line-preserved : goal.loop-line-preserved
loop-line-preserved c =
    let row = c.args.lines.now in
    let i = c.loop-line.line-index in
    let here = subst FitsLine c.line-item.is c.line_fits.ensures in
    subst (All FitsLine) (sym (take_more row i c.line-item.result c.loop-line-test.true))
    (All-append FitsLine (take i row) (get_or row i c.line-item.result ∷ []) c.loop-line.invariant
    (All-cons FitsLine (get_or row i c.line-item.result) [] here (All-nil FitsLine)))
