use Rattle.std.proofs.Common.{ap, inl, inr}
use Rattle.hart.specs.State.{ArchState}
use Rattle.sbi_calls.specs.Both.{known}
use Rattle.hart_threads.{specs.Views.bus_in, proofs.{Looking.{idle_once, woken_once}, Looping.gives_none}}
use Rattle.hart_threads.proofs.dozes.doze_turn.Goals as goal

pub returns-then-not-woken-clause-gives : goal.returns-then-not-woken-clause-gives
returns-then-not-woken-clause-gives g c = gives_none c.args.tables.now c.args.hart.now.id c.args.seats c.requires.seats

pub returns-then-not-woken-clause-once : goal.returns-then-not-woken-clause-once
returns-then-not-woken-clause-once g c =
    let e = c.end_doze-woken in
    idle_once c.id.result (bus_in c.args.bus.now) (bus_in e.new.self) e.result.0 c.args.doze c.args.hart.now (known c.args.seats) c.args.part e.result.1 c.id.ensures e.ensures.woken c.if-not-woken.true e.ensures.memory e.ensures.left e.ensures.noted

pub returns-clause-stands : goal.returns-clause-stands
returns-clause-stands g c = let a = c.resume-seats.ensures.acts in (inr (inl a.0), a.1)

pub returns-clause-id : goal.returns-clause-id
returns-clause-id g c = ap (λ (s : ArchState). s.id) c.resume-seats.ensures.hart

pub returns-clause-once : goal.returns-clause-once
returns-clause-once g c =
    let e = c.end_doze-woken in
    woken_once c.id.result (bus_in c.args.bus.now) (bus_in e.new.self) e.result.0 c.args.doze c.args.hart.now c.resume-seats.new.hart (known c.args.seats) (known c.resume-seats.result) c.args.part e.result.1 c.id.ensures e.ensures.woken c.if-not-woken.false e.ensures.memory e.ensures.left e.ensures.noted
    c.resume-seats.ensures.hart c.resume-seats.ensures.own
