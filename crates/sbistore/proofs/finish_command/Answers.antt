use Rattle.std.proofs.Common.{◌∙◌, Ok, Err, refl, sym}
use Rattle.sbistore.proofs.{Packed.some_is, Ended.ends_command}
use Rattle.sbistore.proofs.finish_command.Goals as goal

pub returns-in-Ok : goal.returns-in-Ok
returns-in-Ok c sound life over kept ends =
    let same = some_is _ _ (c.in-Some.ensures.exact life kept) in
    let set = c.is_set.ensures over ends in
    let receipt = sym c.in-Ok.is ∙ c.ended-receipt.ensures.receipt in
    ends_command life c.in-Some.open c.ended-receipt.new.self over c.is_set.result c.args.plan.now c.args.store.now c.keep.new.store c.end-in-Ok.new.store (Ok c.in-Ok.field-0) 0 sound kept same set c.ended-receipt.ensures.store receipt c.keep.ensures refl c.end-in-Ok.ensures

pub returns-in-Err : goal.returns-in-Err
returns-in-Err c sound life over kept ends =
    let same = some_is _ _ (c.in-Some.ensures.exact life kept) in
    let set = c.is_set.ensures over ends in
    let receipt = sym c.in-Err.is ∙ c.ended-receipt.ensures.receipt in
    ends_command life c.in-Some.open c.ended-receipt.new.self over c.is_set.result c.args.plan.now c.args.store.now c.keep.new.store c.end-in-Err.new.store (Err c.in-Err.refusal) c.code.result sound kept same set c.ended-receipt.ensures.store receipt c.keep.ensures c.code.ensures c.end-in-Err.ensures
