use Rattle.std.proofs.Common.{refl}
use Rattle.hsm.{specs.States.suspended, proofs.Copying.{comes, stood}}
use Rattle.hsm.proofs.copies.sleep.Goals as goal

pub suspend-requires-clause-acts : goal.suspend-requires-clause-acts
suspend-requires-clause-acts c = stood c.args.table.now.table.shared.key.harts c.args.hart c.args.seat.me.0 c.requires.rests c.requires.hart.0 c.requires.hart.1

pub returns-clause-becomes : goal.returns-clause-becomes
returns-clause-becomes c =
    let e = c.suspend.ensures in
    comes c.args.table.now.table.shared.key.harts c.args.hart suspended c.args.seat.me.0 c.suspend.result.me.0 (λ _. suspended) c.requires.rests refl e.stands e.others (e.alone _ c.requires.rests.shown).1
