use Rattle.std.{proofs.Common.{◌≡◌, ◌∙◌, Result, Ok, Err}, specs.Prelude.IfOk}
use Rattle.board_model.specs.declared.refusal.Refusal.{Refusal}
use Rattle.planned_store.specs.{Opens.{opened_by, OpensTo}, Stores.{begun, Holds}, declared.stores.OpenStore.OpenStore}
use Rattle.planned_store.proofs.{opens.open.{Given.Over, Goals.After-opened}, Begins.open_task, Opening.opens_to}
use Rattle.planned_store.proofs.opens.open.Goals as goal

opens_so : (g : Over) (c : After-opened g) → OpensTo g.D.Disk.facts g.D.Disk.fault_state c.args.disk.now (opened_by c.run.new.plan) c.run.new.disk
opens_so g c =
    opens_to g.D.Disk.facts g.D.Disk.fault_state (λ d. g.met.D.Disk.may_keep d) (λ d. g.met.D.Disk.only_now d) (λ d. g.met.D.Disk.bounded d) c.args.disk.now c.requires.none_out c.run.new.disk c.run.new.plan c.run.ensures.reached c.run.ensures.ended
    (c.run.ensures.task ∙ open_task c.sectors.result c.open-plan.result c.open-plan.ensures)

of_ok : (P : OpenStore → Type 0) (Q : OpenStore → Type 0) (r : Result OpenStore Refusal) → IfOk r (λ s. P s × Q s) → IfOk r Q
of_ok P Q (Ok s) both = both.1
of_ok P Q (Err e) both = tt

pub returns-clause-opens : goal.returns-clause-opens
returns-clause-opens g c = rw c.opened.ensures (opens_so g (goal.at.returns-clause-opens g c).After-opened)

pub returns-clause-holds : goal.returns-clause-holds
returns-clause-holds g c =
    rw c.opened.ensures
    (of_ok (λ s. s ≡ begun s.selected) (Holds (g.D.Disk.facts c.run.new.disk)) (opened_by c.run.new.plan) (opens_so g (goal.at.returns-clause-holds g c).After-opened).begins)
