use Rattle.std.{proofs.{Common.{subst, sym}, lemmas.Result.IfOk-weaker}, specs.Prelude.IfOk}
use Rattle.script_lang.specs.Views.{view}
use Rattle.sbigdb.{specs.{declared.given.Begin.Begin, Begins.BeginsAt}, proofs.Founds.{begins_cut, begins_end, begins_failure}}
use Rattle.sbigdb.proofs.begins.begun.Goals as goal

pub returns-in-End-clause-begins : goal.returns-in-End-clause-begins
returns-in-End-clause-begins g c =
    subst (λ (b : Begin). BeginsAt b c.args.script.now c.args.payloads.now (view c.args.own)) (sym c.in-End.is)
    (begins_end c.args.script.now c.args.payloads.now (view c.args.own) c.requires.read)

pub returns-in-Schedule-clause-begins : goal.returns-in-Schedule-clause-begins
returns-in-Schedule-clause-begins g c =
    subst (λ (b : Begin). IfOk c.schedule_to.result (λ s. BeginsAt b c.args.script.now c.args.payloads.now (view s))) (sym c.in-Schedule.is) c.schedule_to.ensures.begins

pub returns-in-Cut-clause-begins : goal.returns-in-Cut-clause-begins
returns-in-Cut-clause-begins g c =
    subst (λ (b : Begin). IfOk c.row_to.result (λ s. BeginsAt b c.args.script.now c.args.payloads.now (view s))) (sym c.in-Cut.is)
    (IfOk-weaker c.row_to.result _ _ (λ s did. begins_cut c.in-Cut.number c.args.script.now c.args.payloads.now (view s) did) c.row_to.ensures.stops)

pub returns-in-Failure-clause-begins : goal.returns-in-Failure-clause-begins
returns-in-Failure-clause-begins g c =
    subst (λ (b : Begin). IfOk c.row_to-in-Failure.result (λ s. BeginsAt b c.args.script.now c.args.payloads.now (view s))) (sym c.in-Failure.is)
    (IfOk-weaker c.row_to-in-Failure.result _ _ (λ s did. begins_failure c.in-Failure.number c.args.script.now c.args.payloads.now (view s) did) c.row_to-in-Failure.ensures.stops)
