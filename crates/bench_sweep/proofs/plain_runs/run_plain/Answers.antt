use Rattle.std.proofs.{Common.{◌∙◌, List, arith, subst, sym}, lemmas.{List.take_all, Result.IfOk-from_err}}
use Rattle.script_lang.specs.declared.line.Line.{Line}
use Rattle.bench_report.specs.Happens.{unpowered}
use Rattle.bench_sweep.{specs.Took.RunTook, proofs.Made.{none_yet, sits_at, went_more, rest_is, ends_at, took_on}}
use Rattle.bench_sweep.proofs.Reported.{swept_take, swept_drop, stays_within}
use Rattle.bench_sweep.proofs.plain_runs.run_plain.Goals as goal

pub loop-from-init : goal.loop-from-init
loop-from-init g c =
    let size = c.args.runner.now.setting.shape.now in
    let copy = c.in_ok-site.ensures in
    let sits = c.requires.sits in record {
      within = omega arith;
      sits = (unpowered sits.0, copy.runs size sits.0 sits.1);
      took = copy.calls;
      lives = λ b r. none_yet _ (unpowered b) _ _ (copy.runs size b r);
    }

pub stretch_of-lived-requires-clause-lines : goal.stretch_of-lived-requires-clause-lines
stretch_of-lived-requires-clause-lines g c κs within =
    let shape = c.args.runner.now.setting.shape.now in
    swept_take shape _ _ (swept_drop shape c.loop-from.from c.args.runner.now.lines.now c.requires.lines)

pub loop-from-preserved : goal.loop-from-preserved
loop-from-preserved g c =
    let size = c.args.runner.now.setting.shape.now in
    let lines = c.args.runner.now.lines.now in
    let did = c.in_ok-count in
    let from = c.loop-from.from in
    let i = c.loop-from.invariant in record {
      within = stays_within from did.field-0.count _ lines i.within did.ensures.few;
      sits = did.ensures.sits;
      took = took_on c.args.runner.now.setting.shape.now lines _ from did.field-0.count _ _ _ (rest_is from lines) i.took did.ensures.took;
      lives = λ b r.
          (let f = sits_at size (unpowered b) lines from _ c.loop-from-test.true (i.lives b r) in
          went_more size (unpowered b) lines _ from did.field-0.count c.loop-from.site did.field-0.next (rest_is from lines) i.within f (did.ensures.lives f.bench f.site));
    }

pub returns-clause-ends : goal.returns-clause-ends
returns-clause-ends g c = λ b r.
    ends_at c.args.runner.now.setting.shape.now (unpowered b) c.args.runner.now.lines.now c.loop-from.from c.loop-from.site (omega arith) (sym c.refused.ensures ∙ c.if-refused-ne0.false) (c.loop-from.invariant.lives b r)

pub returns-clause-took : goal.returns-clause-took
returns-clause-took g c =
    let lines = c.args.runner.now.lines.now in
    let L : List Line → Type 0 = λ ls. RunTook c.args.runner.now.setting.shape.now ls c.args.begin.now.off.disk c.loop-from.site.off.disk in
    subst L (take_all c.loop-from.from lines (omega arith)) c.loop-from.invariant.took

pub returns-in_err-count-clause-ends : goal.returns-in_err-count-clause-ends
returns-in_err-count-clause-ends g c = IfOk-from_err c.from_residual-in_err-count.result _ c.from_residual-in_err-count.ensures.0

pub returns-in_err-count-clause-took : goal.returns-in_err-count-clause-took
returns-in_err-count-clause-took g c = IfOk-from_err c.from_residual-in_err-count.result _ c.from_residual-in_err-count.ensures.0

pub returns-in_err-site-clause-ends : goal.returns-in_err-site-clause-ends
returns-in_err-site-clause-ends g c = IfOk-from_err c.from_residual.result _ c.from_residual.ensures.0

pub returns-in_err-site-clause-took : goal.returns-in_err-site-clause-took
returns-in_err-site-clause-took g c = IfOk-from_err c.from_residual.result _ c.from_residual.ensures.0

pub returns-then-refused-ne0-clause-ends : goal.returns-then-refused-ne0-clause-ends
returns-then-refused-ne0-clause-ends g c = tt

pub returns-then-refused-ne0-clause-took : goal.returns-then-refused-ne0-clause-took
returns-then-refused-ne0-clause-took g c = tt
