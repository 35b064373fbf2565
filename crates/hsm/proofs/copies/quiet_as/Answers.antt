use Rattle.std.proofs.Common.{ℕ, ◌<◌, ◌∙◌, Option, IfSome, sym, subst, inl}
use Rattle.hsm.specs.{declared.view.Stage.TheVariants.Quiet, States.Shows, Rule.stands, Seating.harts_in, Views.state_in}
use Rattle.hsm.{specs.Copies.{IsShown, stage_by}, proofs.Computed.{seat_determines_states, shows_seen}}
use Rattle.hsm.proofs.Copying.{quiet_runs, stands_by_one, stands_by_none, stood, found_alone, then_quiet}
use Rattle.hsm.proofs.copies.quiet_as.Goals.{After-quiet-own}
use Rattle.hsm.proofs.copies.quiet_as.Goals as goal

pub quiet-own-requires-clause-acts : goal.quiet-own-requires-clause-acts
quiet-own-requires-clause-acts c =
    let n = c.args.table.now.table.shared.key.harts in
    let hart = c.in-Some.hart in
    let view = c.args.own.me.0 in
    let quiet = subst (λ (o : Option ℕ). IfSome o (λ h. (h < n) × stands h Quiet (harts_in c.args.seat.now))) c.in-Some.is c.requires.quiet in
    inl (stood n hart view c.requires.rests quiet.0 (c.requires.states hart quiet.0 ∙ quiet_runs n hart c.args.seat.now.me.0 c.requires.shown quiet.0 quiet.1))

-- the states that the copy shows once the hart is quiet
after : (c : After-quiet-own) → Shows c.args.made.now.table.shared.key.harts c.quiet-own.result.0.me.0 (state_in c.args.own.me.0)
after c =
    (c.quiet-own.ensures.alone (state_in c.args.own.me.0) (subst (λ (k : ℕ). IsShown k c.args.own.me.0) (sym c.requires.same) c.requires.rests.shown)).1

pub returns-in-Some-clause-shown : goal.returns-in-Some-clause-shown
returns-in-Some-clause-shown c =
    let at = (goal.at.returns-in-Some-clause-shown c).After-quiet-own in
    subst (λ (k : ℕ). IsShown k c.quiet-own.result.0.me.0) c.requires.same
    (shows_seen c.args.made.now.table.shared.key.harts c.quiet-own.result.0.me.0 (state_in c.args.own.me.0) (after at))

pub returns-in-Some-clause-states : goal.returns-in-Some-clause-states
returns-in-Some-clause-states c = λ k lt.
    let at = (goal.at.returns-in-Some-clause-states c).After-quiet-own in
    seat_determines_states c.args.made.now.table.shared.key.harts c.quiet-own.result.0.me.0 (state_in c.args.own.me.0) (after at) k (subst (λ (j : ℕ). k < j) (sym c.requires.same) lt)
    ∙ c.requires.states k lt

pub returns-in-Some-clause-stands : goal.returns-in-Some-clause-stands
returns-in-Some-clause-stands c =
    let n = c.args.table.now.table.shared.key.harts in
    let hart = c.in-Some.hart in
    let old = c.args.seat.now.me.0 in
    let own = c.args.own.me.0 in
    let new = c.quiet-own.result.0.me.0 in
    let told = (c.quiet-own.ensures.alone (state_in own) (subst (λ (k : ℕ). IsShown k own) (sym c.requires.same) c.requires.rests.shown)).0 in
    let is = found_alone c.args.made.now.table.shared.key.harts n hart c.quiet-own.result.1 old own c.requires.same told c.find_alone.ensures.alone c.requires.states in
    subst (λ (o : Option ℕ). (h : ℕ) → h < n → stands h (stage_by o h (state_in old h)) new.harts) (sym c.in-Some.is)
    (stands_by_one n hart old own new c.requires.rests c.requires.states (then_quiet hart c.quiet-own.result.1 new.harts c.quiet-own.ensures.stands is) c.quiet-own.ensures.others)

pub returns-in-None-clause-stands : goal.returns-in-None-clause-stands
returns-in-None-clause-stands c =
    let n = c.args.table.now.table.shared.key.harts in
    let old = c.args.seat.now.me.0 in
    let own = c.args.own.me.0 in
    subst (λ (o : Option ℕ). (h : ℕ) → h < n → stands h (stage_by o h (state_in old h)) own.harts) (sym c.in-None.is)
    (stands_by_none n old own c.requires.rests c.requires.states)
