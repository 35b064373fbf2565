use Rattle.std.proofs.Common.{ℕ, refl, subst}
use Rattle.sbi_calls.specs.{Both.known, declared.tables.Seats.Seats}
use Rattle.turns.specs.Own.{ResumesOwn}
use Rattle.turns.proofs.resumes.resume.Goals as goal

pub returns-clause-own : goal.returns-clause-own
returns-clause-own c =
    let after : Seats = record { harts = c.unquiet-harts.result; pending = c.take-seats.result.pending } in
    let step = c.unquiet-harts.ensures.steps in
    subst (λ (h : ℕ). ResumesOwn h (known c.args.seats) (known after)) c.id-by.ensures (known c.take-seats.result, c.take-seats.ensures.own, step.0, (step.1, refl))

pub take-seats-requires-clause-seats : goal.take-seats-requires-clause-seats
take-seats-requires-clause-seats c = c.requires.seats

pub unquiet-harts-requires-clause-seat : goal.unquiet-harts-requires-clause-seat
unquiet-harts-requires-clause-seat c = c.take-seats.ensures.gives.seats.0
