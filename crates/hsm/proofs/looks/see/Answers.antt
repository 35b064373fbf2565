use Rattle.std.proofs.Common.{ℕ, ◌<◌, subst, arith}
use Rattle.hsm.specs.{States.{HartState, IsBetweenCalls, Shows}, Rule.HasSteps, Seating.{hart_view_of_seat, harts_in}}
use Rattle.hsm.proofs.Later.{sees_as}
use Rattle.hsm.proofs.looks.see.Goals as goal

pub load-requires : goal.load-requires
load-requires g c =
    let t = c.args.table.now in
    let s = c.args.seat.now in
    let wide = t.wide in
    rw (c.requires.named.0, c.requires.named.1) (c.requires.seat.0, omega arith, sees_as t.table.shared.key.harts t.table.shared.key.started t.table.shared.table_id.slots s.id s.me)

pub returns-clause-shows : goal.returns-clause-shows
returns-clause-shows g c =
    subst (λ (n : ℕ). ((h : ℕ) → h < n → IsBetweenCalls h (harts_in c.args.seat.now)) → (states : ℕ → HartState) × Shows n (hart_view_of_seat c.args.seat.now) states) c.requires.named.0 c.load.ensures.2.2

pub returns-clause-steps : goal.returns-clause-steps
returns-clause-steps g c =
    subst (λ (n : ℕ). HasSteps n c.args.table.now.table.shared.key.started (harts_in c.args.seat.now)) c.requires.named.0
    (subst (λ (b : ℕ). HasSteps _ b (harts_in c.args.seat.now)) c.requires.named.1 c.load.ensures.2.3)
