use Rattle.std.proofs.Common.{sym, ap, subst, ◌∙◌}
use Rattle.tallies.specs.Notes.{numbers}
use Rattle.ipi.specs.{Ledger.{HasSteps, PendingSeatView}, Pairs.Shows, Seating.harts_of, Views.pair_in}
use Rattle.ipi.proofs.Computed.{shows_seen, whole_of}
use Rattle.ipi.proofs.table.PendingTable.join.Goals as goal

pub returns-clause-harts : goal.returns-clause-harts
returns-clause-harts c = ap (λ (d : PendingSeatView). d.harts) c.see.ensures.same ∙ c.join-whole.ensures.harts

pub returns-clause-all : goal.returns-clause-all
returns-clause-all c = λ order count. ap (λ (d : PendingSeatView). numbers d.harts) c.see.ensures.same ∙ c.join-whole.ensures.all order count

pub returns-clause-shows : goal.returns-clause-shows
returns-clause-shows c = λ order count.
    let n = harts_of c.args.self.now in
    let before = c.join-whole.result.me.0 in
    subst (λ (d : PendingSeatView). Shows n d (pair_in d)) (sym c.see.ensures.same) (shows_seen n before (whole_of n before (c.join-whole.ensures.all order count)))

pub returns-clause-steps : goal.returns-clause-steps
returns-clause-steps c =
    subst (λ (d : PendingSeatView). HasSteps (harts_of c.args.self.now) d.harts) (sym c.see.ensures.same) c.see.ensures.steps
