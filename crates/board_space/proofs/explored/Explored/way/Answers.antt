use Rattle.std.proofs.Common.{IfOk, IfSome, subst}
use Rattle.state_space.specs.Ways.{IsWay}
use Rattle.board_space.{specs.{Few.AskedOrders, Mapped.map_in, Settings.asked_of, WaysOf.IsWayOf}, proofs.Answered.ok_some}
use Rattle.board_space.proofs.explored.Explored.way.Goals as goal

pub returns : goal.returns
returns c =
    let space = c.self.inside.space in
    let graph = c.self.inside.graph in
    let bound = c.self.inside.bound in
    subst (λ (a : AskedOrders). IfOk c.way_to.result (λ found. IfSome found (λ way. IsWayOf a.asked way.items))) c.self.view_is
    (ok_some c.way_to.result (λ way. IsWay graph way.items c.args.row) (λ way. IsWayOf (asked_of space) way.items)
    (λ way is.
    let led = c.every_order.ensures.ways (asked_of space) (map_in space.map) bound space graph c.self.invariant.by way.items c.args.row is in
    (map_in space.map, led.0, led.1, led.2, led.3))
    c.way_to.ensures)
