use Rattle.std.proofs.Common.{◌∙◌, Some, ap}
use Rattle.board_model.specs.Shapes.{Size}
use Rattle.planned_store.specs.declared.{formats.FormatStep.FormatStep, plans.Plan.TheVariants.Formatting}
use Rattle.sbistore.proofs.Packed.{some_is}
use Rattle.sbistore.proofs.packing.formatting.Goals as goal

pub returns : goal.returns
returns c f has step few =
    ap (λ (z : Size). Some (Formatting (record { shape = z; step = c.in_ok-step.step }))) (some_is _ _ (c.in_ok-shape.ensures.exact f.shape has))
    ∙ ap (λ (t : FormatStep). Some (Formatting (record { shape = f.shape; step = t }))) (some_is _ _ (c.in_ok-step.ensures f.step step few))
