use Rattle.std.proofs.Common.{Some, ap}
use Rattle.board_model.specs.Shapes.{Size}
use Rattle.planned_store.specs.declared.plans.Plan.TheVariants.{ReadingGate}
use Rattle.sbistore.proofs.Packed.{some_is}
use Rattle.sbistore.proofs.packing.reading_gate.Goals as goal

pub returns : goal.returns
returns c size has = ap (λ (z : Size). Some (ReadingGate z)) (some_is _ _ (c.in_ok-shape_of.ensures.exact size has))
