use Rattle.std.proofs.Common.{◌∙◌, ℕ, Some, ap}
use Rattle.board_model.specs.Shapes.{Size}
use Rattle.planned_store.specs.declared.plans.Plan.TheVariants.{ReadingRecord}
use Rattle.sbistore.proofs.Packed.{some_is}
use Rattle.sbistore.proofs.packing.reading_record.Goals as goal

pub returns : goal.returns
returns c size has few =
    ap (λ (z : Size). Some (ReadingRecord z c.in_ok-new.field-0)) (some_is _ _ (c.in_ok-shape.ensures.exact size has))
    ∙ ap (λ (k : ℕ). Some (ReadingRecord size k)) c.in_ok-new.ensures.some.0
