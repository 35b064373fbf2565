use Rattle.std.proofs.Common.{List, map, ap, arith}
use Rattle.disk.specs.Facts.{lane_failures}
use Rattle.savers.proofs.{HandedOn.{some_left, none_left}, Jobs.stay_put}
use Rattle.savers.proofs.saving.save.Goals as goal

pub returns-in_default-clause-places : goal.returns-in_default-clause-places
returns-in_default-clause-places g c = stay_put (map g.L.Lane.lane_facts c.args.lanes.items)

pub returns-in_default-with_capacity-clause-places : goal.returns-in_default-with_capacity-clause-places
returns-in_default-with_capacity-clause-places g c = stay_put (map g.L.Lane.lane_facts c.args.lanes.items)

pub save_by-lanes-requires-clause-none : goal.save_by-lanes-requires-clause-none
save_by-lanes-requires-clause-none g c κs within = c.in-Ok-with_capacity.ensures.items

pub save_by-lanes-requires-clause-space : goal.save_by-lanes-requires-clause-space
save_by-lanes-requires-clause-space g c κs within = omega (arith, c.args.lanes.ok.0, c.len.ensures, c.in-Ok-with_capacity.ensures.capacity)

pub save_by-lanes-requires-clause-fresh : goal.save_by-lanes-requires-clause-fresh
save_by-lanes-requires-clause-fresh g c κs within = c.requires.fresh

pub save_by-lanes-requires-clause-seat : goal.save_by-lanes-requires-clause-seat
save_by-lanes-requires-clause-seat g c κs within = c.in-Ok.ensures.seat

pub save_by-lanes-requires-clause-unused : goal.save_by-lanes-requires-clause-unused
save_by-lanes-requires-clause-unused g c κs within = c.in-Ok.ensures.unused

pub returns-then-not-none_failed-clause-places : goal.returns-then-not-none_failed-clause-places
returns-then-not-none_failed-clause-places g c = c.save_by-lanes.ensures.places

pub returns-then-not-none_failed-clause-refused : goal.returns-then-not-none_failed-clause-refused
returns-then-not-none_failed-clause-refused g c =
    let facts = g.L.Lane.lane_facts in
    let lanes = c.save_by-lanes.result.0.items in (
      some_left (lane_failures (map facts c.as_slice.result.now)) (lane_failures (map facts lanes)) (ap (λ (l : List g.row.L.Denot). lane_failures (map facts l)) c.as_slice.ensures.value) c.if-not-none_failed.ensures,
      c.save_by-lanes.ensures.ended,
    )

pub returns-clause-places : goal.returns-clause-places
returns-clause-places g c = c.save_by-lanes.ensures.places

pub returns-clause-saved : goal.returns-clause-saved
returns-clause-saved g c =
    let facts = g.L.Lane.lane_facts in
    let lanes = c.save_by-lanes.result.0.items in
    c.save_by-lanes.ensures.saved
    (none_left (lane_failures (map facts c.as_slice.result.now)) (lane_failures (map facts lanes)) (ap (λ (l : List g.row.L.Denot). lane_failures (map facts l)) c.as_slice.ensures.value) c.if-not-none_failed.ensures)
