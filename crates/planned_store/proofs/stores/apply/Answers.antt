use Rattle.std.proofs.{Common.{◌∙◌, [], ap}, lemmas.Result.err_from_is_err_and}
use Rattle.board_model.specs.Views.{change_of}
use Rattle.planned_store.{specs.{Plans.task_of, Stores.{Asked, receipt_of, store_after}}, proofs.stores.apply.Given.Over}
use Rattle.planned_store.proofs.{stores.apply.Goals.After-ended, Applying.{refused, answered_by}}
use Rattle.planned_store.proofs.stores.apply.Goals as goal

pub returns-in_err-plan-clause-asked : goal.returns-in_err-plan-clause-asked
returns-in_err-plan-clause-asked g c =
    let p = err_from_is_err_and c.from_residual.result c.from_residual.ensures.1 in
    rw (p.1, p.2)
    (refused g.D.Disk.facts g.D.Disk.fault_state (λ d. g.met.D.Disk.may_keep d) (λ d. g.met.D.Disk.only_now d) c.args.disk.now c.args.store.now c.requires.holds (change_of c.args.command) _
    (λ up. c.in_err-plan.ensures.refused up (g.D.Disk.facts c.args.disk.now).content) c.in_err-plan.ensures.others (λ is. let same = c.in_err-plan.ensures.down is in cc))

asked_so : (g : Over) (c : After-ended g) → Asked g.D.Disk.facts g.D.Disk.fault_state c.args.disk.now c.args.store.now (change_of c.args.command) (receipt_of c.args.store.now c.run.new.plan) c.run.new.disk (store_after c.args.store.now c.ends_life.result c.run.new.plan)
asked_so g c =
    let plans = c.in_ok-plan.ensures.ok in
    let s = c.args.store.now in
    let content = (g.D.Disk.facts c.args.disk.now).content in
    let follows = plans.follows s.selected.shape in
    let was = (c.requires.holds.up c.in_ok-plan.ensures.up content (g.met.D.Disk.may_keep c.args.disk.now)).selects.is.0 in
    answered_by g.D.Disk.facts g.D.Disk.fault_state (λ d. g.met.D.Disk.may_keep d) (λ d. g.met.D.Disk.only_now d) c.args.disk.now s c.requires.holds c.in_ok-plan.ensures.up (change_of c.args.command) c.ends_life.result (c.ends_life.ensures []) plans.next plans.going plans.room
    (plans.allowed s.selected.shape content) (follows.in_range was) (follows.state content) follows.version c.run.new.disk (g.met.D.Disk.bounded _) c.run.new.plan c.run.ensures.reached c.run.ensures.ended (c.run.ensures.task ∙ ap task_of plans.is)

pub returns-clause-asked : goal.returns-clause-asked
returns-clause-asked g c = rw (c.ended.ensures.receipt, c.ended.ensures.store) (asked_so g (goal.at.returns-clause-asked g c).After-ended)

pub returns-clause-holds : goal.returns-clause-holds
returns-clause-holds g c = rw c.ended.ensures.store ((asked_so g (goal.at.returns-clause-holds g c).After-ended).holds)
