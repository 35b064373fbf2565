use Rattle.ipi.specs.{Seating.{pending_view_of_seat, harts_of as pair_harts}}
use Rattle.sbi_calls.specs.Both.{harts_of_both}
use Rattle.turns.proofs.Begun.{looked}
use Rattle.std.proofs.Common.{refl}
use Rattle.turns.proofs.begins.look.Goals as goal

pub returns-clause-alone : goal.returns-clause-alone
returns-clause-alone c = λ t are.
    let l = looked (pair_harts c.args.tables.now.pending) (harts_of_both c.args.tables.now) c.args.by (pending_view_of_seat c.args.seats.pending) (pending_view_of_seat c.pending-pending.result.0) c.pending-pending.result.1 c.args.tables.now.same c.pending-pending.ensures.alone t.pairs are.1 in
    (l.0, (are.0, l.1))

pub returns-clause-own : goal.returns-clause-own
returns-clause-own c = let step = c.pending-pending.ensures.steps in (refl, step.0, step.1, step.2)

pub pending-pending-requires-clause-seat : goal.pending-pending-requires-clause-seat
pending-pending-requires-clause-seat c = c.requires.seats.1

pub pending-pending-requires-clause-acts : goal.pending-pending-requires-clause-acts
pending-pending-requires-clause-acts c = c.requires.sits

pub returns-clause-harts : goal.returns-clause-harts
returns-clause-harts c = refl
