use Rattle.std.proofs.Common.{ℕ, ◌<◌, sym, subst, arith}
use Rattle.board_model.specs.Shapes.{IsValidAddress}
use Rattle.planned_store.specs.declared.commits.Selected.{Selected}
use Rattle.sbistore.proofs.{Packed.some_is, Saves.from_known}
use Rattle.sbistore.proofs.images.saving_of.Goals as goal

pub returns-in_default-resumption-clause-exact : goal.returns-in_default-resumption-clause-exact
returns-in_default-resumption-clause-exact c life plan packed =
    let store = c.args.store.now in
    let same = some_is _ _ (c.in-Some.ensures.exact life packed.keeps) in
    let from = sym (from_known life c.in-Some.open plan store same packed) in
    absurd
    (c.in_default-resumption.ensures.none (subst (λ (x : Selected). store.hart < x.shape.harts) from (omega (arith, packed.hart, packed.has_hart)))
    (subst (λ (x : Selected). IsValidAddress x.shape store.address) from (subst (λ (a : ℕ). IsValidAddress plan.from.shape a) (sym packed.address) packed.has_address)))
