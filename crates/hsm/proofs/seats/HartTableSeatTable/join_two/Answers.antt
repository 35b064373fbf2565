use Rattle.std.proofs.Common.{arith}
use Rattle.hsm.proofs.Parting.{joins}
use Rattle.hsm.proofs.seats.HartTableSeatTable.join_two.Goals as goal

pub join_seat-requires : goal.join_seat-requires
join_seat-requires c =
    let t = c.args.self.now in
    let wide = t.wide in
    (c.requires.seat.0, c.requires.others.0, c.requires.others.1, omega arith, joins t.table.shared.key.harts t.table.shared.key.started c.args.seat.id c.args.seat.me.0 c.args.others.id c.args.others.me.0)
