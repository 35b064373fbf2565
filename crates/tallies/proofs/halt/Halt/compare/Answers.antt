use Rattle.std.proofs.Common.{rules, ◌∙◌}
use mathlib.Core.Option.{none}
use Rattle.atomic_table.specs.Table.{step}
use Rattle.tallies.proofs.HaltKeeps.{knows, learns}
use Rattle.tallies.proofs.halt.Halt.compare.Goals as goal

pub join_seat-requires : goal.join_seat-requires
join_seat-requires c =
    let t = c.self in
    let k = c.setter.inside.seat in
    let o = c.other.inside.seat in
    (search rules, search rules, search rules, t.invariant, knows k.id o.id k.me.0 o.me.0 (search rules))

pub load-requires : goal.load-requires
load-requires c =
    let t = c.self in
    let k = c.join_seat.new.seat in
    let slots = t.inside.table.shared.table_id.slots in
    (search rules, t.invariant, learns slots k.id k.me (step slots 0 0 0 none))
