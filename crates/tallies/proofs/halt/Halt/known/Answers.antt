use Rattle.std.proofs.Common.{rules}
use Rattle.tallies.proofs.HaltKeeps.{copied}
use Rattle.tallies.proofs.halt.Halt.known.Goals as goal

pub split_seat-seat-requires : goal.split_seat-seat-requires
split_seat-seat-requires c =
    let t = c.self in
    let w = c.watch.inside.seat in
    (search rules, t.invariant, copied w.id w.me.0)
