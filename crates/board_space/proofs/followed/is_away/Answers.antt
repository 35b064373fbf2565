use Rattle.std.proofs.Common.{ℕ, List, sym, subst}
use Rattle.model_board.specs.Boards.{Board}
use Rattle.board_space.{specs.{Covering.StandsAll, Few.IsAwayBy, declared.bounds.Bound.Bound}, proofs.Searching.part_stands}
use Rattle.board_space.proofs.followed.is_away.Goals as goal

pub returns-in-PowerOns-clause-other : goal.returns-in-PowerOns-clause-other
returns-in-PowerOns-clause-other c is b stands away =
    let Stand : List ℕ → Board → Type 0 = StandsAll c.args.space.now.leaves c.args.space.now.rows in
    c.is_off.ensures.other is b
    (subst (λ (r : List ℕ). Stand r b) (sym c.board_part.ensures) (part_stands c.args.bound Stand c.args.row.now b stands))
    (subst (λ (x : Bound). IsAwayBy x b) c.in-PowerOns.is away)
