use Rattle.std.proofs.Common.{arith}
use Rattle.ipi.proofs.Parting.{splits}
use Rattle.ipi.proofs.seats.PendingTableSeatTable.split_first.Goals as goal

pub split_seat-others-requires : goal.split_seat-others-requires
split_seat-others-requires c =
    let t = c.args.self.now in
    let wide = t.wide in
    let one = t.one in
    (c.requires.0, omega arith, splits t.table.shared.key c.args.seat.id c.args.seat.me.0)
