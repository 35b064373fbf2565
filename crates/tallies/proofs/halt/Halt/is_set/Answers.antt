use Rattle.std.proofs.Common.{rules}
use mathlib.Core.Option.{none}
use Rattle.atomic_table.specs.Table.{step}
use Rattle.tallies.proofs.HaltKeeps.{looks}
use Rattle.tallies.proofs.halt.Halt.is_set.Goals as goal

pub load-requires : goal.load-requires
load-requires c =
    let t = c.self in
    let w = c.watch.inside.seat in
    let slots = t.inside.table.shared.table_id.slots in
    (search rules, t.invariant, looks slots w.id w.me (step slots 0 0 0 none))
