use Rattle.std.proofs.Common.{ℕ, refl, sym, ap, subst, inl, inr}
use Rattle.ipi.specs.Pairs.{Sits}
use Rattle.sbi_calls.specs.Both.{known, pair_crew, IsTable}
use Rattle.turns.{specs.{Own.TakesOwn, Turns.after_take}, proofs.OneTurn.{is_low, gives_as}}
use Rattle.turns.proofs.finishes.finish.Goals as goal

pub returns-in-Next-clause-alone : goal.returns-in-Next-clause-alone
returns-in-Next-clause-alone c = λ x are. rw c.in-Next.is (x, (refl, refl, refl), are)

pub returns-in-TakePending-clause-alone : goal.returns-in-TakePending-clause-alone
returns-in-TakePending-clause-alone c = λ x are.
    let e = c.requires.tables in
    let before = subst (λ (k : ℕ). IsTable k c.args.seats x) (sym e) are in
    let a = c.take.ensures.alone x before in
    let after = subst (λ (k : ℕ). IsTable k c.take.result (after_take x c.id.result)) e a in
    rw c.in-TakePending.is (after_take x c.id.result, (ap (after_take x) c.id.ensures, refl, refl), after)

pub returns-in-Ecall-clause-alone : goal.returns-in-Ecall-clause-alone
returns-in-Ecall-clause-alone c = λ x are. let a = c.dispatch.ensures.alone x are in rw c.in-Ecall.is (_, (a.0, refl), a.1)

pub returns-in-Next-clause-own : goal.returns-in-Next-clause-own
returns-in-Next-clause-own c = rw c.in-Next.is (refl, refl, refl)

pub returns-in-TakePending-clause-own : goal.returns-in-TakePending-clause-own
returns-in-TakePending-clause-own c =
    let own = subst (λ (h : ℕ). TakesOwn h (known c.args.seats) (known c.take.result)) c.id.ensures c.take.ensures.own in
    rw c.in-TakePending.is (own, refl, refl)

pub returns-in-Ecall-clause-own : goal.returns-in-Ecall-clause-own
returns-in-Ecall-clause-own c = rw c.in-Ecall.is c.dispatch.ensures.calls

pub take-requires-clause-seats : goal.take-requires-clause-seats
take-requires-clause-seats c = c.requires.seats

pub take-requires-clause-sits : goal.take-requires-clause-sits
take-requires-clause-sits c = subst (λ (h : ℕ). Sits h (pair_crew c.args.seats)) (sym c.id.ensures) c.requires.acts.1

pub dispatch-requires-clause-tables : goal.dispatch-requires-clause-tables
dispatch-requires-clause-tables c = c.requires.tables

pub dispatch-requires-clause-seats : goal.dispatch-requires-clause-seats
dispatch-requires-clause-seats c = c.requires.seats

pub dispatch-requires-clause-acts : goal.dispatch-requires-clause-acts
dispatch-requires-clause-acts c = c.requires.acts

pub dispatch-requires-clause-hart : goal.dispatch-requires-clause-hart
dispatch-requires-clause-hart c = c.requires.hart

pub returns-in-Next-clause-rests : goal.returns-in-Next-clause-rests
returns-in-Next-clause-rests c = (inr (inl c.requires.acts.0), c.requires.acts.1)

pub returns-in-Next-clause-id : goal.returns-in-Next-clause-id
returns-in-Next-clause-id c = refl

pub returns-in-TakePending-clause-id : goal.returns-in-TakePending-clause-id
returns-in-TakePending-clause-id c = refl

pub returns-in-Ecall-clause-gives : goal.returns-in-Ecall-clause-gives
returns-in-Ecall-clause-gives c = c.dispatch.ensures.gives

pub returns-in-Ecall-clause-id : goal.returns-in-Ecall-clause-id
returns-in-Ecall-clause-id c = c.dispatch.ensures.id

pub take-requires-clause-by : goal.take-requires-clause-by
take-requires-clause-by c = is_low c.id.result c.args.hart.now.id _ _ c.id.ensures c.requires.tables c.requires.hart

pub returns-in-TakePending-clause-gives : goal.returns-in-TakePending-clause-gives
returns-in-TakePending-clause-gives c = gives_as c.args.tables.now c.id.result c.args.hart.now.id c.args.seats c.take.result c.id.ensures c.take.ensures.gives
