use Rattle.hsm.specs.Views.{listed}
use Rattle.machine.proofs.Calling.{as_was}
use Rattle.machine.proofs.states.see.Goals as goal

pub returns-clause-gives : goal.returns-clause-gives
returns-clause-gives c = as_was c.args.by c.args.seats c.status-harts.result.0 (c.status-harts.ensures.seat, c.requires.seats.1) c.status-harts.ensures.stays

pub returns-clause-alone : goal.returns-clause-alone
returns-clause-alone c = λ t is.
    let a = c.status-harts.ensures.alone (listed t.states) is.0.1 in
    (a.0, ((is.0.0, a.1), is.1))
