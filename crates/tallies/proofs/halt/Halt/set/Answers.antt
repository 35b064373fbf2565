use Rattle.std.proofs.Common.{rules}
use mathlib.Core.Option.{none}
use Rattle.atomic_table.specs.Table.{step}
use Rattle.tallies.proofs.HaltKeeps.{sets}
use Rattle.tallies.proofs.halt.Halt.set.Goals as goal

pub swap-requires : goal.swap-requires
swap-requires c =
    let t = c.self in
    let w = c.watch.inside.seat in
    let slots = t.inside.table.shared.table_id.slots in
    (search rules, t.invariant, sets slots w.id w.me (step slots 0 1 0 none) (search rules))
