use Rattle.std.proofs.{Common.{◌≡◌, ◌∙◌, ◌^◌, ◌<◌, true, Some, None, refl, sym, ap, subst, arith, rules}, lemmas.Result.err_from_is_err_and}
use Rattle.board_model.specs.Shapes.{ram_bytes_of}
use Rattle.store.specs.Follows.{durable_after, suspended}
use Rattle.planned_store.specs.{Plans.{Commits, task_of}, Reached.Reached, Stores.{receipt_of, store_after}, declared.commits.Commit.Commit}
use Rattle.planned_store.{specs.declared.{commits.Selected.Selected, plans.Plan.TheVariants.Committing}, proofs.Applying.answered_by}
use Rattle.planned_store.specs.{Saves.{free_side, counts_of, saved_record, commit_of}, Suspends.suspension, declared.saves.Saving.Saving}
use Rattle.planned_store.proofs.{SaveSteps.begins, save_runs.suspend.{Given.Over, Goals.After-run_saving}}
use Rattle.planned_store.proofs.SaveEnds.{refused, not_written, next_is, makes, holds_then, allowed, range, begins_commit, suspends, failed, saved_so, receipt_few}
use Rattle.planned_store.proofs.save_runs.suspend.Goals as goal

pub returns-in_err-saving : goal.returns-in_err-saving
returns-in_err-saving g c =
    let p = err_from_is_err_and c.from_residual.result c.from_residual.ensures.1 in
    record {
      asked = rw (p.1, p.2) (refused g.D.Disk.facts g.D.Disk.fault_state (λ d. g.met.D.Disk.may_keep d) (λ d. g.met.D.Disk.only_now d) (λ d. g.met.D.Disk.bounded d) c.args.disk.now c.args.store.now c.args.ram.now c.args.at c.requires.holds c.pages.result _ c.pages.ensures.value c.in_err-saving.ensures.refused);
    }

pub run_saving-requires-clause-begins : goal.run_saving-requires-clause-begins
run_saving-requires-clause-begins g c κs within =
    let plans = c.in_ok-saving.ensures.ok in
    let a = g.D.Disk.facts c.args.disk.now in
    let chosen = (c.requires.holds.up plans.up a.content (g.met.D.Disk.may_keep c.args.disk.now)).selects in
    let from : c.in_ok-saving.saving.from ≡ c.args.store.now.selected = ap (λ (s : Saving). s.from) plans.is in
    begins g.D.Disk.facts g.D.Disk.fault_state c.in_ok-saving.saving c.args.disk.now c.args.ram.now (rw from chosen.board.0) (rw from chosen.enough)
    (omega (arith, c.pages.ensures.value, plans.fits.0, ap (λ (x : Selected). ram_bytes_of x.shape) from)) c.requires.holds.none_out (g.met.D.Disk.bounded_calls c.args.disk.now) (ap (λ (s : Saving). s.page) plans.is) (ap (λ (s : Saving). s.step) plans.is)

-- what the first part of the suspension has left
same_from : (g : Over) (c : After-run_saving g) → c.run_saving.new.plan.from ≡ c.args.store.now.selected
same_from g c = c.run_saving.ensures.same.0 ∙ ap (λ (s : Saving). s.from) c.in_ok-saving.ensures.ok.is

same_at : (g : Over) (c : After-run_saving g) → c.run_saving.new.plan.at ≡ c.args.at
same_at g c = c.run_saving.ensures.same.1 ∙ ap (λ (s : Saving). s.at) c.in_ok-saving.ensures.ok.is

pub commit-requires : goal.commit-requires
commit-requires g c = record { next = rw (same_from g (goal.at.commit-requires g c).After-run_saving) c.in_ok-saving.ensures.ok.serial }

pub run-requires-clause-begins : goal.run-requires-clause-begins
run-requires-clause-begins g c κs within =
    let at = (goal.at.run-requires-clause-begins g c).After-run_saving in
    let f = g.D.Disk.facts in
    let m = g.D.Disk.fault_state in
    let s = c.run_saving.new.plan in
    let mid = c.run_saving.new.disk in
    let is : commit_of s ≡ Some c.in-Some.commit = sym c.commit.ensures.value ∙ c.in-Some.is in
    let so = saved_so f m s c.args.disk.now mid c.args.ram.now c.in-Some.commit c.run_saving.ensures.reached is in
    subst (λ (k : Commit). Reached f m (Committing k) mid mid) (sym so.1)
    (begins_commit f m (λ d. g.met.D.Disk.may_keep d) (λ d. g.met.D.Disk.only_now d) (λ d. g.met.D.Disk.bounded d) c.args.disk.now c.args.store.now c.args.ram.now c.args.at c.requires.holds c.pages.result c.in_ok-saving.saving c.pages.ensures.value c.in_ok-saving.ensures.ok mid s (same_from g at) (same_at g at) so.0)

pub returns-in_default : goal.returns-in_default
returns-in_default g c =
    let at = (goal.at.returns-in_default g c).After-run_saving in
    let none : commit_of c.run_saving.new.plan ≡ None = sym c.commit.ensures.value ∙ c.in_default.is in
    record {
      asked = not_written g.D.Disk.facts g.D.Disk.fault_state (λ d. g.met.D.Disk.may_keep d) (λ d. g.met.D.Disk.only_now d) (λ d. g.met.D.Disk.bounded d) c.args.disk.now c.args.store.now c.args.ram.now c.args.at c.requires.holds
          c.pages.result c.in_ok-saving.saving c.pages.ensures.value c.in_ok-saving.ensures.ok c.run_saving.new.disk c.run_saving.new.plan (same_from g at) (same_at g at)
          (failed g.D.Disk.facts g.D.Disk.fault_state c.run_saving.new.plan c.args.disk.now c.run_saving.new.disk c.args.ram.now c.run_saving.ensures.reached c.run_saving.ensures.ended none);
    }

pub returns : goal.returns
returns g c =
    let at = (goal.at.returns g c).After-run_saving in
    let f = g.D.Disk.facts in
    let m = g.D.Disk.fault_state in
    let s = c.run_saving.new.plan in
    let old = c.args.store.now in
    let mid = c.run_saving.new.disk in
    let plans = c.in_ok-saving.ensures.ok in
    let is : commit_of s ≡ Some c.in-Some.commit = sym c.commit.ensures.value ∙ c.in-Some.is in
    let so = saved_so f m s c.args.disk.now mid c.args.ram.now c.in-Some.commit c.run_saving.ensures.reached is in
    let wide : c.args.at.opaque < 2 ^ 64 = search rules in
    let next = suspended (durable_after old.selected.live c.args.at) (free_side old.selected.live.image) (counts_of old.selected.shape) in
    let task : task_of c.run.new.plan ≡ Commits old.selected next =
    c.run.ensures.task
    ∙ ap (λ (k : Commit). Commits k.from k.next) so.1
    ∙ ap (λ (x : Selected). Commits x (saved_record s)) (same_from g at)
    ∙ ap (Commits old.selected) (next_is f m (λ d. g.met.D.Disk.may_keep d) (λ d. g.met.D.Disk.only_now d) (λ d. g.met.D.Disk.bounded d) c.args.disk.now old c.args.ram.now c.args.at c.requires.holds c.pages.result c.in_ok-saving.saving c.pages.ensures.value plans mid s (same_from g at) (same_at g at) so.0) in
    let held = holds_then f m (λ d. g.met.D.Disk.may_keep d) (λ d. g.met.D.Disk.only_now d) (λ d. g.met.D.Disk.bounded d) c.args.disk.now old c.args.ram.now c.args.at c.requires.holds c.pages.result c.in_ok-saving.saving c.pages.ensures.value plans mid s (same_from g at) (same_at g at) so.0 in
    let asked =
    answered_by f m (λ d. g.met.D.Disk.may_keep d) (λ d. g.met.D.Disk.only_now d) mid old held plans.up (suspension c.args.ram.now c.args.at) true refl next plans.going plans.room
    (allowed f m (λ d. g.met.D.Disk.may_keep d) (λ d. g.met.D.Disk.only_now d) (λ d. g.met.D.Disk.bounded d) c.args.disk.now old c.args.ram.now c.args.at c.requires.holds c.pages.result c.in_ok-saving.saving c.pages.ensures.value plans mid s (same_from g at) (same_at g at) so.0)
    (range f m (λ d. g.met.D.Disk.may_keep d) (λ d. g.met.D.Disk.only_now d) (λ d. g.met.D.Disk.bounded d) c.args.disk.now old c.args.ram.now c.args.at c.requires.holds c.pages.result c.in_ok-saving.saving c.pages.ensures.value plans mid s (same_from g at) (same_at g at) so.0 wide)
    (makes f m (λ d. g.met.D.Disk.may_keep d) (λ d. g.met.D.Disk.only_now d) (λ d. g.met.D.Disk.bounded d) c.args.disk.now old c.args.ram.now c.args.at c.requires.holds c.pages.result c.in_ok-saving.saving c.pages.ensures.value plans mid s (same_from g at) (same_at g at) so.0)
    refl c.run.new.disk (g.met.D.Disk.bounded _) c.run.new.plan c.run.ensures.reached c.run.ensures.ended task in
    record {
      asked = rw (c.ended.ensures.receipt, c.ended.ensures.store)
          (suspends f m (λ d. g.met.D.Disk.may_keep d) (λ d. g.met.D.Disk.only_now d) (λ d. g.met.D.Disk.bounded d) c.args.disk.now old c.args.ram.now c.args.at c.requires.holds c.pages.result c.in_ok-saving.saving c.pages.ensures.value plans mid s (same_from g at) (same_at g at) so.0
          (receipt_of old c.run.new.plan) c.run.new.disk (store_after old true c.run.new.plan) asked (receipt_few old c.run.new.plan));
    }
