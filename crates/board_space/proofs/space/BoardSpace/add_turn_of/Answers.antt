use Rattle.std.proofs.{Common.{ℕ, ◌≡◌, ◌≤◌, ⊎_elim, subst, arith}, lemmas.Bool.cases_lt}
use Rattle.model_board.specs.Events.{Turn}
use Rattle.board_space.specs.{Covering.StandsAll, Expanding.{AsksNone, IsTeller}, Mapped.map_in, Settings.asked_of}
use Rattle.board_space.proofs.{Moves.{told_more, told_other}, Skipped.{no_turn, only_turn}}
use Rattle.board_space.proofs.space.BoardSpace.add_turn_of.Goals as goal

pub returns-in_default-clause-told : goal.returns-in_default-clause-told
returns-in_default-clause-told c b stands =
    told_other (asked_of c.args.self.now) (map_in c.args.self.now.map) c.args.self.now.leaves (StandsAll c.args.self.now.leaves c.args.self.now.rows) (StandsAll c.args.self.now.leaves c.args.self.now.rows) c.args.found.now b c.args.number (λ r d x. x)
    (λ f one is. no_turn (asked_of c.args.self.now) c.args.number f c.requires.number c.in_default.ensures.none one is)
    (c.requires.told b stands)

pub returns-in_default-clause-asks : goal.returns-in_default-clause-asks
returns-in_default-clause-asks c is b stands h low down d happens =
    ⊎_elim
    (λ below. c.requires.asks is b stands h below down d happens)
    (λ from. omega (arith, from, low, happens.0.0, c.in_default.ensures.none))
    (cases_lt h c.args.number)

pub returns-clause-told : goal.returns-clause-told
returns-clause-told c b stands =
    let asked = asked_of c.args.self.now in
    let map = map_in c.args.self.now.map in
    let leaves = c.args.self.now.leaves in
    let at : c.in-Some.hart ≡ c.args.number = c.in-Some.ensures.some.0 in
    let few : c.args.self.now.shape.harts ≤ 8 = omega (arith, c.harts-few.ensures.count, c.harts-few.ensures.few) in
    told_more asked map leaves (StandsAll leaves c.args.self.now.rows) (StandsAll leaves c.add_turn.new.self.rows) c.args.found.now c.add_turn.new.found b c.args.number (Turn c.args.number) (λ r d x. (x.0, c.in_ok-seen.ensures.stay r x.0 x.1, x.2))
    (λ f one is. only_turn asked c.args.number f c.requires.number few one is)
    (c.requires.told b stands)
    (subst (λ (n : ℕ). IsTeller asked map leaves (StandsAll leaves c.add_turn.new.self.rows) c.args.found.now c.add_turn.new.found b (Turn n)) at (c.in_ok-seen.ensures.teller b stands))

pub returns-clause-asks : goal.returns-clause-asks
returns-clause-asks c is b stands h low =
    let none = c.both.ensures.asks is in
    let at : c.in-Some.hart ≡ c.args.number = c.in-Some.ensures.some.0 in
    ⊎_elim
    (λ below. c.requires.asks none.0 b stands h below)
    (λ from.
    let same : c.in-Some.hart ≡ h = omega (arith, from, low, at) in
    subst (λ (n : ℕ). AsksNone (asked_of c.args.self.now) n b) same (c.in_ok-seen.ensures.asks none.1 b stands))
    (cases_lt h c.args.number)

pub returns-clause-moves : goal.returns-clause-moves
returns-clause-moves c is b d stands for end =
    ⊎_elim
    (λ before. c.requires.moves before b d stands for end)
    (λ seen. c.in_ok-seen.ensures.moves seen b d stands for end)
    (c.both.ensures.moves is)
