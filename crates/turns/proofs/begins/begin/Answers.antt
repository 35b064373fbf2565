use Rattle.std.proofs.Common.{◌≡◌, Bool, List, refl, sym, ap, ◌∙◌, subst, inl, inr}
use Rattle.hsm.specs.{Words.HartView, declared.view.Stage.TheVariants.Running, Rule.stands, States.HartState, Seating.harts_in}
use Rattle.hsm.specs.{Views.listed, declared.{state.{State.{State as Code}}}}
use Rattle.sbi_calls.specs.Both.{harts_of_both, known, views, IsTable}
use Rattle.turns.specs.declared.readies.Ready.TheVariants as readies
use Rattle.turns.specs.{Turns.begun_by, Own.GoesOwn}
use Rattle.turns.proofs.Begun.{sits, runs, suspends, is_out, gives_then, is_started, is_suspended, is_stopped, named_pending}
use Rattle.turns.proofs.begins.begin.Goals as goal

pub status-harts-requires-clause-acts : goal.status-harts-requires-clause-acts
status-harts-requires-clause-acts c = sits c.args.by (views c.args.seats) c.requires.rests.0

pub wake-requires-clause-acts : goal.wake-requires-clause-acts
wake-requires-clause-acts c = (
  c.status-harts.ensures.stays.stages _ _ (suspends c.args.by (views c.args.seats) c.status-harts.result.1 c.status-harts.ensures.fresh c.requires.rests.0 c.in-Suspended.is),
  c.requires.rests.1,
)

pub enter-requires-clause-acts : goal.enter-requires-clause-acts
enter-requires-clause-acts c = (
  c.status-harts.ensures.stays.stages _ _ (is_out c.args.by (views c.args.seats) c.status-harts.result.1 c.status-harts.ensures.fresh c.requires.rests.0 (inr c.in-StartPending.is)),
  c.requires.rests.1,
)

pub returns-in-Started-clause-gives : goal.returns-in-Started-clause-gives
returns-in-Started-clause-gives c = let kept = c.status-harts.ensures.stays in
    gives_then c.args.tables.now c.args.by c.args.seats (record { harts = c.status-harts.result.0; pending = c.args.seats.pending }) c.look-seats.result.0
    (record { seats = (c.status-harts.ensures.seat, c.requires.seats.1); others = record { harts = kept.harts; stages = λ k st ne s. kept.stages k st s }; pairs = record { harts = refl; each = λ h. refl } })
    c.look-seats.ensures.gives

pub returns-in-Started-clause-rests : goal.returns-in-Started-clause-rests
returns-in-Started-clause-rests c = (
  subst (λ (v : List HartView). stands c.args.by Running v) (sym (ap harts_in c.look-seats.ensures.harts))
      (c.status-harts.ensures.stays.stages _ _ (runs c.args.by (views c.args.seats) c.status-harts.result.1 c.status-harts.ensures.fresh c.requires.rests.0 c.in-Started.is)),
  c.look-seats.ensures.gives.pairs.each c.args.by ∙ c.requires.rests.1,
)

pub returns-in-Started-clause-alone : goal.returns-in-Started-clause-alone
returns-in-Started-clause-alone c = λ t are.
    let a = c.status-harts.ensures.alone (listed t.states) are.0.1 in
    let e = is_started (listed t.states c.args.by) (sym a.0 ∙ c.in-Started.is) in
    let l = c.look-seats.ensures.alone t ((are.0.0, a.1), are.1) in
    subst (λ (y : HartState). (readies.Steps c.look-seats.result.1 ≡ (begun_by c.args.by t y).ready) × IsTable (harts_of_both c.args.tables.now) c.look-seats.result.0 (begun_by c.args.by t y).table) (sym e)
    (ap (λ (b : Bool). readies.Steps b) l.0, l.1)

pub returns-in-Suspended-clause-gives : goal.returns-in-Suspended-clause-gives
returns-in-Suspended-clause-gives c = let kept = c.status-harts.ensures.stays in
    gives_then c.args.tables.now c.args.by c.args.seats (record { harts = c.status-harts.result.0; pending = c.args.seats.pending }) c.wake.result.0
    (record { seats = (c.status-harts.ensures.seat, c.requires.seats.1); others = record { harts = kept.harts; stages = λ k st ne s. kept.stages k st s }; pairs = record { harts = refl; each = λ h. refl } })
    c.wake.ensures.gives

pub returns-in-Suspended-clause-alone : goal.returns-in-Suspended-clause-alone
returns-in-Suspended-clause-alone c = λ t are.
    let a = c.status-harts.ensures.alone (listed t.states) are.0.1 in
    c.wake.ensures.alone t ((are.0.0, a.1), are.1) (is_suspended (listed t.states c.args.by) (sym a.0 ∙ c.in-Suspended.is))

pub returns-in-StartPending-clause-gives : goal.returns-in-StartPending-clause-gives
returns-in-StartPending-clause-gives c = let kept = c.status-harts.ensures.stays in
    gives_then c.args.tables.now c.args.by c.args.seats (record { harts = c.status-harts.result.0; pending = c.args.seats.pending }) c.enter.result.0
    (record { seats = (c.status-harts.ensures.seat, c.requires.seats.1); others = record { harts = kept.harts; stages = λ k st ne s. kept.stages k st s }; pairs = record { harts = refl; each = λ h. refl } })
    c.enter.ensures.gives

pub returns-in-StartPending-clause-alone : goal.returns-in-StartPending-clause-alone
returns-in-StartPending-clause-alone c = λ t are.
    let a = c.status-harts.ensures.alone (listed t.states) are.0.1 in
    c.enter.ensures.alone t ((are.0.0, a.1), are.1) (named_pending (listed t.states c.args.by) (sym a.0 ∙ c.in-StartPending.is))

pub returns-in-Stopped-clause-gives : goal.returns-in-Stopped-clause-gives
returns-in-Stopped-clause-gives c = let kept = c.status-harts.ensures.stays in
    record { seats = (c.status-harts.ensures.seat, c.requires.seats.1); others = record { harts = kept.harts; stages = λ k st ne s. kept.stages k st s }; pairs = record { harts = refl; each = λ h. refl } }

pub returns-in-Stopped-clause-rests : goal.returns-in-Stopped-clause-rests
returns-in-Stopped-clause-rests c = (
  inl (c.status-harts.ensures.stays.stages _ _ (is_out c.args.by (views c.args.seats) c.status-harts.result.1 c.status-harts.ensures.fresh c.requires.rests.0 (inl c.in-Stopped.is))),
  c.requires.rests.1,
)

pub returns-in-Stopped-clause-alone : goal.returns-in-Stopped-clause-alone
returns-in-Stopped-clause-alone c = λ t are.
    let a = c.status-harts.ensures.alone (listed t.states) are.0.1 in
    let e = is_stopped (listed t.states c.args.by) (sym a.0 ∙ c.in-Stopped.is) in
    subst (λ (y : HartState). (readies.Idle ≡ (begun_by c.args.by t y).ready) × IsTable (harts_of_both c.args.tables.now) (record { harts = c.status-harts.result.0; pending = c.args.seats.pending }) (begun_by c.args.by t y).table) (sym e)
    (refl, ((are.0.0, a.1), are.1))

pub returns-in-Started-clause-own : goal.returns-in-Started-clause-own
returns-in-Started-clause-own c =
    let step = c.status-harts.ensures.steps in
    let mid = known (record { harts = c.status-harts.result.0; pending = c.args.seats.pending }) in
    let P : Code → Type 0 = λ x. GoesOwn c.args.by x mid (known c.look-seats.result.0) (readies.Steps c.look-seats.result.1) in
    (step.0, mid, (step.2, refl), subst P (sym c.in-Started.is ∙ step.1) (c.look-seats.result.1, c.look-seats.ensures.own, refl))

pub returns-in-Suspended-clause-own : goal.returns-in-Suspended-clause-own
returns-in-Suspended-clause-own c =
    let step = c.status-harts.ensures.steps in
    let mid = known (record { harts = c.status-harts.result.0; pending = c.args.seats.pending }) in
    let P : Code → Type 0 = λ x. GoesOwn c.args.by x mid (known c.wake.result.0) c.wake.result.1 in
    (step.0, mid, (step.2, refl), subst P (sym c.in-Suspended.is ∙ step.1) c.wake.ensures.own)

pub returns-in-Stopped-clause-own : goal.returns-in-Stopped-clause-own
returns-in-Stopped-clause-own c =
    let step = c.status-harts.ensures.steps in
    let mid = known (record { harts = c.status-harts.result.0; pending = c.args.seats.pending }) in
    let P : Code → Type 0 = λ x. GoesOwn c.args.by x mid mid readies.Idle in
    (step.0, mid, (step.2, refl), subst P (sym c.in-Stopped.is ∙ step.1) (refl, refl))

pub returns-in-StartPending-clause-own : goal.returns-in-StartPending-clause-own
returns-in-StartPending-clause-own c =
    let step = c.status-harts.ensures.steps in
    let mid = known (record { harts = c.status-harts.result.0; pending = c.args.seats.pending }) in
    let P : Code → Type 0 = λ x. GoesOwn c.args.by x mid (known c.enter.result.0) c.enter.result.1 in
    (step.0, mid, (step.2, refl), subst P (sym c.in-StartPending.is ∙ step.1) c.enter.ensures.own)

pub status-harts-requires-clause-seat : goal.status-harts-requires-clause-seat
status-harts-requires-clause-seat c = c.requires.seats.0

pub status-harts-requires-clause-hart : goal.status-harts-requires-clause-hart
status-harts-requires-clause-hart c = c.requires.by

pub look-seats-requires-clause-seats : goal.look-seats-requires-clause-seats
look-seats-requires-clause-seats c = (c.status-harts.ensures.seat, c.requires.seats.1)

pub look-seats-requires-clause-by : goal.look-seats-requires-clause-by
look-seats-requires-clause-by c = c.requires.by

pub look-seats-requires-clause-sits : goal.look-seats-requires-clause-sits
look-seats-requires-clause-sits c = c.requires.rests.1

pub wake-requires-clause-seats : goal.wake-requires-clause-seats
wake-requires-clause-seats c = (c.status-harts.ensures.seat, c.requires.seats.1)

pub wake-requires-clause-by : goal.wake-requires-clause-by
wake-requires-clause-by c = c.requires.by

pub enter-requires-clause-seats : goal.enter-requires-clause-seats
enter-requires-clause-seats c = (c.status-harts.ensures.seat, c.requires.seats.1)

pub enter-requires-clause-by : goal.enter-requires-clause-by
enter-requires-clause-by c = c.requires.by

pub returns-in-Suspended-clause-rests : goal.returns-in-Suspended-clause-rests
returns-in-Suspended-clause-rests c = c.wake.ensures.rests

pub returns-in-StartPending-clause-rests : goal.returns-in-StartPending-clause-rests
returns-in-StartPending-clause-rests c = c.enter.ensures.rests
