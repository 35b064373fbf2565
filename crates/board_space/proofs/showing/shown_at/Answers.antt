use Rattle.std.proofs.Common.{ℕ, List, sym, subst}
use Rattle.model_board.specs.Boards.{Board}
use Rattle.board_space.{specs.{Covering.StandsAll, Searches.StandsBy, Shown.Shows}, proofs.{Answered.ok_some, Searching.part_stands}}
use Rattle.board_space.proofs.showing.shown_at.Goals as goal

pub shown-requires-clause-known : goal.shown-requires-clause-known
shown-requires-clause-known c =
    let k = c.requires.known in
    let all = subst (λ (r : List ℕ). StandsAll c.args.space.now.leaves c.args.space.now.rows r k.0) (sym c.board_part.ensures) (part_stands c.args.bound (StandsAll c.args.space.now.leaves c.args.space.now.rows) c.args.row.now k.0 k.1) in
    (all.0, all.1)

pub returns-clause-shows : goal.returns-clause-shows
returns-clause-shows c =
    ok_some c.shown.result (λ outcome. (b : Board) → StandsAll c.args.space.now.leaves c.args.space.now.rows c.board_part.result.now b → Shows c.args.from c.args.to outcome b) (λ outcome. (b : Board) → StandsBy c.args.bound (StandsAll c.args.space.now.leaves c.args.space.now.rows) c.args.row.now b → Shows c.args.from c.args.to outcome b)
    (λ outcome shows b has. shows b (subst (λ (r : List ℕ). StandsAll c.args.space.now.leaves c.args.space.now.rows r b) (sym c.board_part.ensures) (part_stands c.args.bound (StandsAll c.args.space.now.leaves c.args.space.now.rows) c.args.row.now b has)))
    c.shown.ensures.shows
