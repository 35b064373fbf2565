use Rattle.std.proofs.Common.{◌≡◌, ◌∙◌, ℕ, IfOk, ap, sym, subst}
use Rattle.state_space.specs.{Graphs.IsSearched, Switched.StandsWithin}
use Rattle.board_space.specs.{Few.few_rules, Mapped.map_in, Covering.StandsAll, Searches.IsSearchOf, Settings.asked_of}
use Rattle.board_space.{specs.declared.{bounds.Bound.TheVariants.Preemptions, space.BoardSpace.BoardSpace}, proofs.Answered.ok_on}
use Rattle.board_space.proofs.Searching.{search_few}
use Rattle.board_space.proofs.explored.search_few.Goals as goal

pub returns-clause-search : goal.returns-clause-search
returns-clause-search g c =
    let new = c.explore_by-found.new.system in
    let switches : c.explore_by-found.new.system.switches ≡ c.args.switches = ap (λ s. s.1) c.explore_by-found.ensures.setting ∙ c.new-switching.ensures.1 in
    subst (λ (s : BoardSpace). IfOk c.explore_by-found.result (λ found. IsSearchOf s (Preemptions c.args.switches) found.0)) (sym c.into_system.ensures)
    (subst (λ (k : ℕ). IfOk c.explore_by-found.result (λ found. IsSearchOf c.explore_by-found.new.system.system (Preemptions k) found.0)) switches
    (ok_on c.explore_by-found.result
    (λ found. IsSearched (few_rules (asked_of new.system) (map_in new.system.map) new.switches) (StandsWithin (StandsAll new.system.leaves new.system.rows)) found.0)
    (λ found. IsSearchOf new.system (Preemptions new.switches) found.0)
    (λ found searched. search_few (asked_of new.system) (map_in new.system.map) new.switches (StandsAll new.system.leaves new.system.rows) found.0 searched)
    c.explore_by-found.ensures.searched))
