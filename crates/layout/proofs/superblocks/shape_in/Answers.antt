use Rattle.std.proofs.Common.{◌≡◌, ◌∙◌, Result, Ok, Err, IsOk, IfOk, ap, sym, subst}
use Rattle.board_model.specs.Shapes.{Size, IsSize, board_size}
use Rattle.layout.proofs.Spellings.{size_in}
use Rattle.layout.proofs.superblocks.shape_in.Goals as goal

is_ok : {E : Type 0} (result : Result Size E) (size : Size) → IsOk result → IfOk result (λ s. s ≡ size) → result ≡ Ok size
is_ok (Ok s) size ok is = ap Ok is
is_ok (Err e) size ok is = cc

pub returns-clause-exact : goal.returns-clause-exact
returns-clause-exact c size is =
    let read : board_size c.u32_at-harts.result c.u32_at-pages.result c.u32_at-lanes.result ≡ size =
    rw (c.u32_at-harts.ensures, c.u32_at-pages.ensures, c.u32_at-lanes.ensures) (size_in size c.args.sector.now is) in
    let fits : IsSize (board_size c.u32_at-harts.result c.u32_at-pages.result c.u32_at-lanes.result) = subst IsSize (sym read) is.0 in
    is_ok _ _ (c.new.ensures.ok.1 fits) c.new.ensures.shape ∙ ap Ok read
