use Rattle.std.proofs.Common.{◌<◌, ◌≤◌, ℕ, Bool, List, IfOk, IfSome, sym, subst, arith}
use Rattle.model_board.specs.{Boards.Board, Events.{GoesOn, IsEnd}}
use Rattle.state_space.specs.{Deads.{IsMarked, Reaches}, Graphs.count_of, Orders.{Leads, CanEnd}}
use Rattle.board_space.specs.{Covering.StandsAll, Few.AskedOrders, Mapped.map_in, Searches.IsFollowed, Settings.asked_of}
use Rattle.board_space.{specs.Space.{GoesBy, Happens, start_of}, proofs.Answered.both_some}
use Rattle.board_space.proofs.explored.Explored.first_dead.Goals as goal

pub returns : goal.returns
returns c =
    let space = c.self.inside.space in
    let graph = c.self.inside.graph in
    let bound = c.self.inside.bound in
    let asked = asked_of space in
    let goals = c.deref.result.now in
    let few : asked.size.harts ≤ 8 = omega (arith, c.harts-few.ensures.count, c.harts-few.ensures.few) in
    let followed : (k : ℕ) → k < count_of graph → (IsMarked goals k → ⊥) → IsFollowed asked.size.harts bound (StandsAll space.leaves space.rows) graph k = λ k lt other. c.in_ok-open.ensures.others k lt (λ marked. other (subst (λ (l : List Bool). IsMarked l k) (sym c.deref.ensures.value) marked)) in
    subst (λ (a : AskedOrders). IfOk c.first_dead.result (λ found. IfSome found (λ _. (b : Board) × Leads (Happens a.asked) (start_of a.asked) b × (CanEnd (Happens a.asked) GoesOn IsEnd b → ⊥)))) c.self.view_is
    (both_some c.first_dead.result (λ row. row < count_of graph) (λ row. Reaches (GoesBy asked) graph goals row → ⊥) (λ _. (b : Board) × Leads (Happens asked) (start_of asked) b × (CanEnd (Happens asked) GoesOn IsEnd b → ⊥))
    (λ row within dead.
    let led = c.every_order.ensures.reached asked (map_in space.map) bound space graph c.self.invariant.by row within in (
      led.0,
      led.2,
      λ can. c.every_order.ensures.stuck asked (map_in space.map) bound space graph goals c.self.invariant.by few followed row led.0 within dead led.1 can,
    ))
    c.first_dead.ensures.within c.first_dead.ensures.dead)
