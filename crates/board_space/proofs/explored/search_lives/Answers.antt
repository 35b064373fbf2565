use Rattle.std.proofs.Common.{◌≡◌, ◌∙◌, ℕ, IfOk, ap, sym, subst}
use Rattle.state_space.specs.{Counted.StandsCounted, Graphs.IsSearched}
use Rattle.board_space.specs.{Few.life_rules, Mapped.map_in, Covering.StandsAll, Searches.IsSearchOf, Settings.asked_of}
use Rattle.board_space.{specs.declared.{bounds.Bound.TheVariants.PowerOns, space.BoardSpace.BoardSpace}, proofs.Answered.ok_on}
use Rattle.board_space.proofs.Searching.{search_lives}
use Rattle.board_space.proofs.explored.search_lives.Goals as goal

pub returns-clause-search : goal.returns-clause-search
returns-clause-search g c =
    let new = c.explore_by-found.new.system in
    let most : c.explore_by-found.new.system.most ≡ c.args.most = ap (λ s. s.1) c.explore_by-found.ensures.setting ∙ c.new-counting.ensures.1 in
    subst (λ (s : BoardSpace). IfOk c.explore_by-found.result (λ found. IsSearchOf s (PowerOns c.args.most) found.0)) (sym c.into_system.ensures)
    (subst (λ (k : ℕ). IfOk c.explore_by-found.result (λ found. IsSearchOf c.explore_by-found.new.system.system (PowerOns k) found.0)) most
    (ok_on c.explore_by-found.result
    (λ found. IsSearched (life_rules (asked_of new.system) (map_in new.system.map) new.most) (StandsCounted (StandsAll new.system.leaves new.system.rows)) found.0)
    (λ found. IsSearchOf new.system (PowerOns new.most) found.0)
    (λ found searched. search_lives (asked_of new.system) (map_in new.system.map) new.most (StandsAll new.system.leaves new.system.rows) found.0 searched)
    c.explore_by-found.ensures.searched))
