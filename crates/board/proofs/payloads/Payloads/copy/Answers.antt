use Rattle.std.proofs.Common.{◌∙◌}
use Rattle.board.proofs.Mapped.{same_items, same_mapped}
use Rattle.board.proofs.payloads.Payloads.copy.Goals as goal

pub returns : goal.returns
returns c =
    same_mapped _ (λ v. v.items) (λ v w is. same_items v.items w.items is.0) c.self.inside.slots c.in_ok-slots.slots c.in_ok-slots.ensures.cases.whole ∙ c.self.view_is
