use Rattle.std.{proofs.Common.{subst, sym}, specs.Prelude.IfSome}
use Rattle.board_model.specs.Shapes.{Size}
use Rattle.script_lang.specs.Lines.{IsLineInRange}
use Rattle.sbigdb.proofs.{Lines.just_ranged, Shapes.same_shape}
use Rattle.sbigdb.proofs.monitor.line_of.Goals as goal

pub returns-in-Ok-clause-range : goal.returns-in-Ok-clause-range
returns-in-Ok-clause-range c =
    let P : Size → Type 0 = λ size. IfSome c.just_one.result (IsLineInRange size) in
    let size = c.in-Ok.read.shape in
    subst P (same_shape size c.args.shape.now c.if-ne.ensures) (subst (λ r. IfSome r (IsLineInRange size)) (sym c.just_one.ensures)
    (just_ranged size c.in-Ok.read.lines.items c.in-Ok.ensures.ranges))
