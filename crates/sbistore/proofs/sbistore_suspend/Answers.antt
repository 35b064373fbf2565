use Rattle.std.proofs.Common.{subst}
use Rattle.store.specs.declared.saving.Resumption.{Resumption}
use Rattle.planned_store.specs.{Saves.NoSave, declared.stores.OpenStore.OpenStore}
use Rattle.sbistore.{specs.Images.resumption, proofs.{Packed.some_is, Saves.refused_save}}
use Rattle.sbistore.proofs.sbistore_suspend.Goals as goal

pub returns-in_default-resumption-clause-begins : goal.returns-in_default-resumption-clause-begins
returns-in_default-resumption-clause-begins c life kept =
    let at : Resumption = resumption c.args.hart c.args.address c.args.opaque in
    let same = some_is _ _ (c.in-Some.ensures.exact life kept) in
    let why = c.no_board.ensures c.args.pages at (λ board. c.in_default-resumption.ensures.none board.1 board.2) in
    refused_save life c.args.pages c.args.hart c.args.address c.args.opaque c.args.store.now c.end-in_default-resumption.new.store kept c.no_board.result c.code.result
    (subst (λ (o : OpenStore). NoSave o c.args.pages at c.no_board.result) same why) c.code.ensures c.end-in_default-resumption.ensures
