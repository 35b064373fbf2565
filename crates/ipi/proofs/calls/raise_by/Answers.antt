use Rattle.std.proofs.Common.{arith}
use Rattle.ipi.proofs.Keeps.{raises}
use Rattle.ipi.proofs.calls.raise_by.Goals as goal

pub fetch_or-requires : goal.fetch_or-requires
fetch_or-requires g c =
    let t = c.args.table.now in
    let s = c.args.seat.now in
    let wide = t.wide in
    let under = c.requires.by in
    let over = c.requires.target in rw (c.requires.named.0, c.requires.named.1, c.number-bit.ensures.value, c.index-word.ensures.value) (c.requires.seat.0, omega arith, raises t.table.shared.key t.table.shared.table_id.slots s.id s.me c.args.by t.few c.requires.acts c.args.target c.requires.target)
