use Rattle.std.proofs.Common.{ℕ, List, ◌∙◌, ◌<◌, IfOk, IfSome, sym, subst, arith}
use Rattle.model_board.specs.{Boards.Board, Events.IsEnd}
use Rattle.state_space.specs.{Graphs.{count_of, expanded_of}, Orders.Leads}
use Rattle.board_space.specs.{Covering.StandsAll, Few.AskedOrders, Mapped.map_in, Searches.StandsBy, Settings.asked_of, Shown.Shows}
use Rattle.board_space.{specs.Space.{Happens, start_of}, proofs.Answered.ok_some}
use Rattle.board_space.proofs.explored.Explored.shown.Goals as goal

pub shown_at-requires-clause-known : goal.shown_at-requires-clause-known
shown_at-requires-clause-known c =
    let space = c.self.inside.space in
    let graph = c.self.inside.graph in
    let low : c.args.row < count_of graph = omega (arith, c.if-expanded-row.false, c.expanded.ensures, c.self.invariant.most) in
    let known = c.self.invariant.known c.args.row low in
    (known.0, subst (λ (l : List ℕ). StandsBy c.self.inside.bound (StandsAll space.leaves space.rows) l known.0) (sym c.row.ensures.row) known.1)

pub returns-clause-ends : goal.returns-clause-ends
returns-clause-ends c =
    let space = c.self.inside.space in
    let graph = c.self.inside.graph in
    let bound = c.self.inside.bound in
    let asked = asked_of space in
    let from = c.args.from in
    let to = c.args.to in
    let here : c.args.row < expanded_of graph = omega (arith, c.if-expanded-row.false, c.expanded.ensures) in
    let low : c.args.row < count_of graph = omega (arith, here, c.self.invariant.most) in
    let led = c.every_order.ensures.reached asked (map_in space.map) bound space graph c.self.invariant.by c.args.row low in
    let end : IsEnd led.0 = (c.self.invariant.ends c.args.row led.0 here led.1).0 (here, sym c.is_end.ensures ∙ c.if-not-is_end.false) in
    subst (λ (a : AskedOrders). IfOk c.shown_at.result (λ found. IfSome found (λ outcome. (b : Board) × Leads (Happens a.asked) (start_of a.asked) b × IsEnd b × Shows from to outcome b))) c.self.view_is
    (ok_some c.shown_at.result (λ outcome. (b : Board) → StandsBy bound (StandsAll space.leaves space.rows) c.row.result.now b → Shows from to outcome b) (λ outcome. (b : Board) × Leads (Happens asked) (start_of asked) b × IsEnd b × Shows from to outcome b)
    (λ outcome shows. (
      led.0,
      led.2,
      end,
      shows led.0 (subst (λ (l : List ℕ). StandsBy bound (StandsAll space.leaves space.rows) l led.0) (sym c.row.ensures.row) led.1),
    ))
    c.shown_at.ensures.shows)
