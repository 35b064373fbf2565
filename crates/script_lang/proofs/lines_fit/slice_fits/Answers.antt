use Rattle.std.proofs.{Common.arith, lemmas.Int.ints}
use Rattle.script_lang.proofs.lines_fit.slice_fits.Goals as goal

pub returns : goal.returns
returns c = λ i. (let t = c.type_inv.bytes i in omega (arith, ints, t))
