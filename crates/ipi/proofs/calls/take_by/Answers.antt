use Rattle.std.proofs.Common.{arith}
use Rattle.ipi.proofs.Keeps.{takes}
use Rattle.ipi.proofs.calls.take_by.Goals as goal

pub swap-requires : goal.swap-requires
swap-requires g c =
    let t = c.args.table.now in
    let s = c.args.seat.now in
    let wide = t.wide in
    let under = c.requires.by in
    rw (c.requires.named, c.index-word.ensures.value) (c.requires.seat.0, omega arith, takes t.table.shared.key t.table.shared.table_id.slots s.id s.me c.args.by t.few c.requires.acts)
