use Rattle.std.proofs.Common.{ap, sym, subst, ◌∙◌, true, false}
use Rattle.state_space.specs.Graphs.{IsSearched, expanded_of, row_at}
use Rattle.state_space.proofs.Grown.{searched_grown, searched_kept, unless_goes, unless_ends, ended_goes, ended_ends}
use Rattle.state_space.proofs.explores.expand_next.Goals as goal

pub expand-requires-clause-known : goal.expand-requires-clause-known
expand-requires-clause-known g c =
    let known = c.requires.searched.known (expanded_of c.args.graph.now) c.requires.next in
    (known.0, subst (λ r. g.S.System.stands c.args.system.now r known.0) (sym (c.row.ensures.row ∙ ap (row_at c.args.graph.now) c.expanded-next.ensures)) known.1)

pub returns-in-Halts-clause-searched : goal.returns-in-Halts-clause-searched
returns-in-Halts-clause-searched g c =
    searched_kept (g.S.System.rules (g.S.System.setting c.expand.new.self)) (g.S.System.stands c.args.system.now) (g.S.System.stands c.expand.new.self) c.args.graph.now c.args.graph.now c.expand.new.found false
    c.expand.ensures.stays
    (subst (λ t. IsSearched (g.S.System.rules t) (g.S.System.stands c.args.system.now) c.args.graph.now) (sym c.expand.ensures.setting) c.requires.searched)

pub returns-in_ok-add-in-Goes-clause-searched : goal.returns-in_ok-add-in-Goes-clause-searched
returns-in_ok-add-in-Goes-clause-searched g c =
    let s = g.S.System in
    let at = c.row.ensures.row ∙ ap (row_at c.args.graph.now) c.expanded-next.ensures in
    searched_grown (s.rules (s.setting c.expand.new.self)) (s.stands c.args.system.now) (s.stands c.expand.new.self) c.args.graph.now c.add.new.self c.expand.new.found false
    c.expand.ensures.stays
    (subst (λ t. IsSearched (s.rules t) (s.stands c.args.system.now) c.args.graph.now) (sym c.expand.ensures.setting) c.requires.searched)
    c.in_ok-add-in-Goes.ensures.whole c.in_ok-add-in-Goes.ensures.added c.requires.next
    (λ b has. unless_goes c.in_ok-expand.field-0 _ c.in-Goes.is (c.in_ok-expand.ensures.successors b (subst (λ r. s.stands c.args.system.now r b) (sym at) has)))
    (λ b has. ended_goes c.in_ok-expand.field-0 _ c.in-Goes.is (c.in_ok-expand.ensures.ends b (subst (λ r. s.stands c.args.system.now r b) (sym at) has)))

pub returns-in_ok-add-in-Ends-clause-searched : goal.returns-in_ok-add-in-Ends-clause-searched
returns-in_ok-add-in-Ends-clause-searched g c =
    let s = g.S.System in
    let at = c.row.ensures.row ∙ ap (row_at c.args.graph.now) c.expanded-next.ensures in
    searched_grown (s.rules (s.setting c.expand.new.self)) (s.stands c.args.system.now) (s.stands c.expand.new.self) c.args.graph.now c.add-in-Ends.new.self c.expand.new.found true
    c.expand.ensures.stays
    (subst (λ t. IsSearched (s.rules t) (s.stands c.args.system.now) c.args.graph.now) (sym c.expand.ensures.setting) c.requires.searched)
    c.in_ok-add-in-Ends.ensures.whole c.in_ok-add-in-Ends.ensures.added c.requires.next
    (λ b has. unless_ends c.in_ok-expand.field-0 _ c.in-Ends.is (c.in_ok-expand.ensures.successors b (subst (λ r. s.stands c.args.system.now r b) (sym at) has)))
    (λ b has. ended_ends c.in_ok-expand.field-0 _ c.in-Ends.is (c.in_ok-expand.ensures.ends b (subst (λ r. s.stands c.args.system.now r b) (sym at) has)))
