use Rattle.std.proofs.Common.{arith}
use Rattle.hsm.proofs.Parting.{splits}
use Rattle.hsm.proofs.seats.HartTableSeatTable.split_first.Goals as goal

pub split_seat-others-requires : goal.split_seat-others-requires
split_seat-others-requires c =
    let t = c.args.self.now in
    let wide = t.wide in
    (c.requires.0, omega arith, splits t.table.shared.key.harts t.table.shared.key.started c.args.seat.id c.args.seat.me.0)
