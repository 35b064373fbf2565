use Rattle.std.proofs.Common.{refl}
use Rattle.hsm.{specs.States.stopped, proofs.Copying.{comes, stood}}
use Rattle.hsm.proofs.copies.halt.Goals as goal

pub stop-requires-clause-acts : goal.stop-requires-clause-acts
stop-requires-clause-acts c = stood c.args.table.now.table.shared.key.harts c.args.hart c.args.seat.me.0 c.requires.rests c.requires.hart.0 c.requires.hart.1

pub returns-clause-becomes : goal.returns-clause-becomes
returns-clause-becomes c =
    let e = c.stop.ensures in
    comes c.args.table.now.table.shared.key.harts c.args.hart stopped c.args.seat.me.0 c.stop.result.me.0 (λ _. stopped) c.requires.rests refl e.stands e.others (e.alone _ c.requires.rests.shown).1
