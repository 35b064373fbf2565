use Rattle.std.proofs.Common.{◌∙◌, ap, Some, arith}
use Rattle.layout.proofs.SpelledPlaces.{page_in, head_is}
use Rattle.layout.proofs.places.head_in.Goals as goal

pub returns-in_err-page-clause-exact : goal.returns-in_err-page-clause-exact
returns-in_err-page-clause-exact c head is =
    let page = page_in c.args.shape.now head c.args.sector.now is in
    absurd (omega (arith, page, is.0, c.u32_at.ensures, c.in_err-page.ensures.none))

pub returns-clause-exact : goal.returns-clause-exact
returns-clause-exact c head is =
    ap Some (head_is c.args.shape.now head c.args.sector.now is _ _ (c.in_ok-page.ensures.some.0 ∙ c.u32_at.ensures) c.u64_at-serial.ensures)
