use Rattle.hsm.proofs.Copying.{pended, stood}
use Rattle.hsm.proofs.copies.pend.Goals as goal

pub start-seat-requires-clause-acts : goal.start-seat-requires-clause-acts
start-seat-requires-clause-acts c = stood c.args.table.now.table.shared.key.harts c.args.by c.args.seat.me.0 c.requires.rests c.requires.by.0 c.requires.by.1

pub returns-clause-becomes : goal.returns-clause-becomes
returns-clause-becomes c =
    let e = c.start-seat.ensures in
    pended c.args.table.now.table.shared.key.harts c.args.by c.args.hart c.args.address c.args.opaque c.args.seat.me.0 c.start-seat.result.0.me.0 c.requires.rests c.requires.by.0 c.requires.hart.0 c.requires.by.1 c.requires.hart.1
    e.stands e.others (e.alone _ c.requires.rests.shown).1
