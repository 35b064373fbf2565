use Rattle.std.proofs.Common.{ℕ, List, ◌≡◌, ◌∙◌, ◌<◌, sym, ap, subst, arith}
use Rattle.state_space.specs.Graphs.{count_of, row_at}
use Rattle.board_space.{specs.{Covering.StandsAll, Searches.board_part}, proofs.Searching.part_stands}
use Rattle.board_space.proofs.explored.Explored.show.Goals as goal

pub show-requires : goal.show-requires
show-requires c =
    let space = c.self.inside.space in
    let bound = c.self.inside.bound in
    let low : c.args.row < count_of c.self.inside.graph = omega (arith, c.if-count-row.false, c.count.ensures) in
    let known = c.self.invariant.known c.args.row low in
    let is : c.board_part.result.now ≡ board_part c.self.inside.bound (row_at c.self.inside.graph c.args.row) = c.board_part.ensures ∙ ap (board_part bound) c.row.ensures.row in
    let all = subst (λ (r : List ℕ). StandsAll space.leaves space.rows r known.0) (sym is) (part_stands bound (StandsAll space.leaves space.rows) (row_at c.self.inside.graph c.args.row) known.0 known.1) in
    (all.0, all.1)
