use Rattle.std.proofs.Common.{ℕ, Bool, List, ◌≡◌, ◌∙◌, ◌<◌, ◌≤◌, IfOk, IfSome, Some, sym, subst, arith}
use Rattle.model_board.specs.{Boards.Board, Events.{Event, GoesOn, IsEnd}}
use Rattle.state_space.specs.{Deads.{IsMarked, Reaches}, Graphs.{count_of, expanded_of, row_at}, Orders.CanEnd}
use Rattle.board_space.specs.{Few.{AskedOrders, GoesOnToLast, IsLastBy, RunsAsked, RunsBy}, Mapped.map_in, Covering.StandsAll}
use Rattle.board_space.specs.{Searches.StandsBy, Settings.asked_of, Shown.{AllShow, Shows}, Space.{GoesBy, Happens}}
use Rattle.board_space.proofs.Answered.{ok_some, at_none}
use Rattle.board_space.proofs.explored.Explored.outcome.Goals as goal

pub returns-clause-ends : goal.returns-clause-ends
returns-clause-ends c =
    let space = c.self.inside.space in
    let graph = c.self.inside.graph in
    let bound = c.self.inside.bound in
    let asked = asked_of space in
    let from = c.args.from in
    let to = c.args.to in
    let small : asked.size.harts ≤ 8 = omega (arith, c.harts-few.ensures.count, c.harts-few.ensures.few) in
    let all : expanded_of graph ≡ count_of graph = sym c.expanded.ensures ∙ (c.if-expanded-count.false ∙ c.count.ensures) in
    subst (λ (a : AskedOrders). IfOk c.shown_by_all.result (λ found. IfSome found (λ outcome. (events : List Event) (last : Board) → RunsAsked a events last → IsEnd last → Shows from to outcome last))) c.self.view_is
    (ok_some c.shown_by_all.result (λ outcome. AllShow from to (StandsBy bound (StandsAll space.leaves space.rows)) graph (expanded_of graph) (Some outcome)) (λ outcome. (events : List Event) (last : Board) → RunsBy asked bound events last → IsEnd last → Shows from to outcome last)
    (λ outcome shown events last run end.
    let found = c.every_order.ensures.ends asked (map_in space.map) bound space graph c.self.invariant.by all small events last run end in
    let low : found.0 < expanded_of graph = omega (arith, all, found.1) in
    shown found.0 last low ((c.self.invariant.ends found.0 last low found.2).1 end) found.2)
    c.shown_by_all.ensures.all)

pub returns-clause-no_dead_end : goal.returns-clause-no_dead_end
returns-clause-no_dead_end c =
    let space = c.self.inside.space in
    let graph = c.self.inside.graph in
    let bound = c.self.inside.bound in
    let asked = asked_of space in
    let from = c.args.from in
    let to = c.args.to in
    let goals = c.deref.result.now in
    let small : asked.size.harts ≤ 8 = omega (arith, c.harts-few.ensures.count, c.harts-few.ensures.few) in
    let all : expanded_of graph ≡ count_of graph = sym c.expanded.ensures ∙ (c.if-expanded-count.false ∙ c.count.ensures) in
    let reach : (k : ℕ) → k < count_of graph → Reaches (GoesBy asked) graph goals k = at_none c.in_ok-first_dead.field-0 ((k : ℕ) → k < count_of graph → Reaches (GoesBy asked) graph goals k) (sym c.if-is_some.false ∙ c.is_some.ensures) c.in_ok-first_dead.ensures.none in
    let lasts : (k : ℕ) → IsMarked goals k → (b : Board) → StandsBy bound (StandsAll space.leaves space.rows) (row_at graph k) b → IsLastBy bound b = λ k marked. c.in_ok-lasts.ensures.lasts k (subst (λ (l : List Bool). IsMarked l k) c.deref.ensures.value marked) in
    subst (λ (a : AskedOrders). IfOk c.shown_by_all.result (λ found. IfSome found (λ outcome. (events : List Event) (last : Board) → RunsAsked a events last → GoesOnToLast a last))) c.self.view_is
    (ok_some c.shown_by_all.result (λ outcome. AllShow from to (StandsBy bound (StandsAll space.leaves space.rows)) graph (expanded_of graph) (Some outcome)) (λ outcome. (events : List Event) (last : Board) → RunsBy asked bound events last → CanEnd (Happens asked) GoesOn (IsLastBy bound) last)
    (λ outcome shown events last run. c.every_order.ensures.no_dead_end asked (map_in space.map) bound space graph goals c.self.invariant.by all small lasts reach events last run)
    c.shown_by_all.ensures.all)
