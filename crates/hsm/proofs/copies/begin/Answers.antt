use Rattle.std.proofs.Common.{ap, ◌∙◌}
use Rattle.hsm.{specs.States.{started, entry, begin}, proofs.Copying.{comes, entered, stood}}
use Rattle.hsm.proofs.copies.begin.Goals as goal

pub try_enter-seat-requires-clause-acts : goal.try_enter-seat-requires-clause-acts
try_enter-seat-requires-clause-acts c = stood c.args.table.now.table.shared.key.harts c.args.hart c.args.seat.me.0 c.requires.rests c.requires.hart c.requires.pends.2

pub returns-clause-becomes : goal.returns-clause-becomes
returns-clause-becomes c =
    let e = c.try_enter-seat.ensures in
    let done = e.alone _ c.requires.rests.shown in
    comes c.args.table.now.table.shared.key.harts c.args.hart started c.args.seat.me.0 c.try_enter-seat.result.0.me.0 begin c.requires.rests (ap begin c.requires.pends.2)
    (entered c.args.hart c.try_enter-seat.result.1 c.requires.pends.0 c.requires.pends.1 c.try_enter-seat.result.0.me.0.harts (done.0 ∙ ap entry c.requires.pends.2) e.stands) e.others done.1
