use Rattle.std.proofs.Common.{◌≡◌, Bool, true, refl, sym, ◌∙◌, subst}
use Rattle.hsm.specs.{States.{HartState, started}, Views.listed}
use Rattle.sbi_calls.specs.{declared.tables.Seats.Seats, Both.{harts_of_both, known, IsTable}}
use Rattle.turns.specs.declared.readies.Ready.TheVariants as readies
use Rattle.turns.{specs.{Turns.{begun_by, woken_turn}, Own.LooksOwn}, proofs.Begun.gives_then}
use Rattle.turns.proofs.begins.wake.Goals as goal

pub returns-then-wakes-clause-gives : goal.returns-then-wakes-clause-gives
returns-then-wakes-clause-gives c =
    gives_then c.args.tables.now c.args.by c.args.seats c.look-seats.result.0 (record { harts = c.wake-harts.result; pending = c.look-seats.result.0.pending })
    c.look-seats.ensures.gives
    (record { seats = (c.wake-harts.ensures.seat, c.look-seats.ensures.gives.seats.1); others = c.wake-harts.ensures.others; pairs = record { harts = refl; each = λ h. refl } })

pub returns-then-wakes-clause-alone : goal.returns-then-wakes-clause-alone
returns-then-wakes-clause-alone c = λ t are e.
    let n = harts_of_both c.args.tables.now in
    let s : Seats = record { harts = c.wake-harts.result; pending = c.look-seats.result.0.pending } in
    let l = c.look-seats.ensures.alone t are in
    let a = c.wake-harts.ensures.alone (listed t.states) l.1.0.1 in
    let states = c.seat_determines_states.ensures.changed n c.args.by (λ (x : HartState). started) _ t.states l.1.0.0 c.requires.by a.1 in
    let p = sym l.0 ∙ c.if-wakes.true in
    subst (λ (y : HartState). (readies.Woke ≡ (begun_by c.args.by t y).ready) × IsTable n s (begun_by c.args.by t y).table) (sym e)
    (subst (λ (b : Bool). (readies.Woke ≡ (woken_turn b c.args.by t).ready) × IsTable n s (woken_turn b c.args.by t).table) (sym p) (refl, (states, l.1.1)))

pub returns-else-wakes-clause-alone : goal.returns-else-wakes-clause-alone
returns-else-wakes-clause-alone c = λ t are e.
    let n = harts_of_both c.args.tables.now in
    let s = c.look-seats.result.0 in
    let l = c.look-seats.ensures.alone t are in
    let p = sym l.0 ∙ c.if-wakes.false in
    subst (λ (y : HartState). (readies.Idle ≡ (begun_by c.args.by t y).ready) × IsTable n s (begun_by c.args.by t y).table) (sym e)
    (subst (λ (b : Bool). (readies.Idle ≡ (woken_turn b c.args.by t).ready) × IsTable n s (woken_turn b c.args.by t).table) (sym p) (refl, l.1))

pub returns-then-wakes-clause-own : goal.returns-then-wakes-clause-own
returns-then-wakes-clause-own c =
    let mid = known c.look-seats.result.0 in
    let looked : LooksOwn c.args.by (known c.args.seats) mid true = subst (λ (b : Bool). LooksOwn c.args.by (known c.args.seats) mid b) c.if-wakes.true c.look-seats.ensures.own in
    let step = c.wake-harts.ensures.steps in
    (mid, looked, step.0, (step.1, refl))

pub returns-else-wakes-clause-own : goal.returns-else-wakes-clause-own
returns-else-wakes-clause-own c = subst (λ (b : Bool). LooksOwn c.args.by (known c.args.seats) (known c.look-seats.result.0) b) c.if-wakes.false c.look-seats.ensures.own

pub look-seats-requires-clause-seats : goal.look-seats-requires-clause-seats
look-seats-requires-clause-seats c = c.requires.seats

pub look-seats-requires-clause-by : goal.look-seats-requires-clause-by
look-seats-requires-clause-by c = c.requires.by

pub look-seats-requires-clause-sits : goal.look-seats-requires-clause-sits
look-seats-requires-clause-sits c = c.requires.acts.1

pub wake-harts-requires-clause-seat : goal.wake-harts-requires-clause-seat
wake-harts-requires-clause-seat c = c.look-seats.ensures.gives.seats.0

pub wake-harts-requires-clause-by : goal.wake-harts-requires-clause-by
wake-harts-requires-clause-by c = c.requires.by

pub returns-else-wakes-clause-gives : goal.returns-else-wakes-clause-gives
returns-else-wakes-clause-gives c = c.look-seats.ensures.gives
