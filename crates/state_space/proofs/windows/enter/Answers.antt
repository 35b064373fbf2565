use Rattle.std.proofs.Common.{◌≡◌, ◌<◌, subst, sym, arith}
use Rattle.state_space.{specs.Graphs.{IsSearched, count_of, expanded_of}, proofs.Carrying.{entered, entered_known, made_known}}
use Rattle.state_space.proofs.windows.enter.Goals as goal

pub carry_all-requires-clause-known : goal.carry_all-requires-clause-known
carry_all-requires-clause-known g c κs within =
    let s = g.S.System in
    made_known (s.rules (s.setting c.args.system.now)) (s.stands c.args.system.now) (s.stands c.args.from.now) c.args.graph.now c.args.made.now c.requires.searched.known c.requires.made c.if-made.false

pub returns-clause-searched : goal.returns-clause-searched
returns-clause-searched g c =
    let s = g.S.System in
    let is : c.args.made.now.row ≡ expanded_of c.args.graph.now = omega (arith, c.if-made-expanded.false, c.expanded.ensures) in
    subst (λ t. IsSearched (s.rules t) (s.stands c.carry_all.new.system) c.add-2.new.self) (sym c.carry_all.ensures.setting)
    (entered (s.rules (s.setting c.args.system.now)) (s.stands c.args.system.now) (s.stands c.carry_all.new.system) (s.stands c.args.from.now) c.args.graph.now c.add-2.new.self c.args.made.now c.carry_all.new.found
    c.carry_all.ensures.stays c.requires.searched (subst (λ n. n < count_of c.args.graph.now) is c.requires.made.within) is c.if-made.false c.requires.made c.in_ok-carry_all.ensures.carried c.in_ok-add-2.ensures.whole c.in_ok-add-2.ensures.added)

pub returns-then-made-clause-searched : goal.returns-then-made-clause-searched
returns-then-made-clause-searched g c =
    let s = g.S.System in
    let is : c.args.made.now.row ≡ expanded_of c.args.graph.now = omega (arith, c.if-made-expanded.false, c.expanded.ensures) in
    entered_known (s.rules (s.setting c.args.system.now)) (s.stands c.args.system.now) (s.stands c.args.system.now) (s.stands c.args.from.now) c.args.graph.now c.add.new.self c.args.made.now c.args.made.now.found
    c.requires.searched (subst (λ n. n < count_of c.args.graph.now) is c.requires.made.within) is c.if-made.true c.requires.made c.in_ok-add.ensures.whole c.in_ok-add.ensures.added
