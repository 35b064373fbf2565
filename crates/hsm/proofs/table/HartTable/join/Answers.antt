use Rattle.std.proofs.Common.{List, sym, ap, subst, ◌∙◌}
use Rattle.tallies.specs.Notes.{numbers}
use Rattle.hsm.specs.{Words.{HartView, HartSeatView}, Seating.{harts_of, started_in}, Rule.{HasSteps, stands}}
use Rattle.hsm.{specs.States.{IsBetweenCalls, Shows}, proofs.Lists.stand_together}
use Rattle.hsm.proofs.table.HartTable.join.Goals as goal

pub returns-clause-all : goal.returns-clause-all
returns-clause-all c = λ order count. ap (λ (d : HartSeatView). numbers d.harts) c.see.ensures.same ∙ c.join-whole.ensures.all order count

pub returns-clause-harts : goal.returns-clause-harts
returns-clause-harts c = ap (λ (d : HartSeatView). d.harts) c.see.ensures.same ∙ c.join-whole.ensures.harts

pub returns-clause-stands : goal.returns-clause-stands
returns-clause-stands c = λ order i s st at stood.
    subst (λ (vs : List HartView). stands i st vs) (sym (ap (λ (d : HartSeatView). d.harts) c.see.ensures.same ∙ c.join-whole.ensures.harts)) (stand_together c.args.seats.items order i s st at stood)

pub returns-clause-shows : goal.returns-clause-shows
returns-clause-shows c = λ settled.
    let same = c.see.ensures.same in
    let r = c.see.ensures.shows (λ h lt. subst (λ (d : HartSeatView). IsBetweenCalls h d.harts) same (settled h lt)) in
    (r.0, subst (λ (d : HartSeatView). Shows (harts_of c.args.self.now) d r.0) (sym same) r.1)

pub returns-clause-steps : goal.returns-clause-steps
returns-clause-steps c =
    subst (λ (d : HartSeatView). HasSteps (harts_of c.args.self.now) (started_in c.args.self.now) d.harts) (sym c.see.ensures.same) c.see.ensures.steps
