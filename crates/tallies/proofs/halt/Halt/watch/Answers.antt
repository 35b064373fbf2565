use Rattle.std.proofs.Common.{[]}
use mathlib.Core.Option.{none}
use Rattle.atomic_table.specs.Table.{step}
use Rattle.tallies.{specs.Halts.no_looks, proofs.HaltKeeps.enters}
use Rattle.tallies.proofs.halt.Halt.watch.Goals as goal

pub load_new_seat-found-requires : goal.load_new_seat-found-requires
load_new_seat-found-requires c =
    let t = c.self in
    let slots = t.inside.table.shared.table_id.slots in
    (t.invariant, enters slots (step slots 0 0 0 none) (no_looks, []))
