use Rattle.std.proofs.{Common.{arith, sym}, lemmas.Result.IfOk-from_err}
use Rattle.bench_report.specs.Happens.{unpowered}
use Rattle.bench_sweep.proofs.{Made.{none_yet, sits_at, went_more, rest_is, row_of, took_on}, Written.next_window}
use Rattle.bench_sweep.proofs.Reported.{reports_none, reports_more, reports_as, reports_weaker, swept_take, swept_drop, stays_within}
use Rattle.crew.proofs.Pieces.{window_none}
use Rattle.bench_sweep.proofs.sweeps.sweep_caller.Goals as goal

pub loop-from-init : goal.loop-from-init
loop-from-init g c =
    let size = c.args.runner.now.setting.shape.now in
    let copy = c.in_ok-site.ensures in
    let sits = c.requires.sits in record {
      within = omega arith;
      sits = (unpowered sits.0, copy.runs size sits.0 sits.1);
      took = copy.calls;
      counts = omega (arith, copy.calls c.args.caller);
      lives = λ b r. none_yet _ (unpowered b) _ _ (copy.runs size b r);
      wrote = λ b r. reports_as _ _ _ _ _ _ _ (sym (window_none c.args.within.from c.args.within.to)) (reports_none _ _ _ _);
      from = omega arith;
      to = omega arith;
    }

pub sweep_stretch-requires-clause-lines : goal.sweep_stretch-requires-clause-lines
sweep_stretch-requires-clause-lines g c κs within =
    let shape = c.args.runner.now.setting.shape.now in
    swept_take shape _ _ (swept_drop shape c.loop-from.from c.args.runner.now.lines.now c.requires.lines)

pub sweep_stretch-requires-clause-made : goal.sweep_stretch-requires-clause-made
sweep_stretch-requires-clause-made g c κs within = omega (arith, c.loop-from.invariant.counts)

pub loop-from-preserved : goal.loop-from-preserved
loop-from-preserved g c =
    let size = c.args.runner.now.setting.shape.now in
    let kind = c.args.runner.now.bench in
    let lines = c.args.runner.now.lines.now in
    let did = c.in-Ok in
    let calls = did.calls in
    let count = did.count in
    let from = c.loop-from.from in
    let made = c.loop-from.made in
    let i = c.loop-from.invariant in
    let rest = rest_is from lines in record {
      within = stays_within from count _ lines i.within did.ensures.few;
      sits = did.ensures.sits;
      took = took_on size lines _ from count _ _ _ rest i.took did.ensures.took;
      counts = omega (arith, i.counts, did.ensures.calls);
      lives = λ b r.
          (let f = sits_at size (unpowered b) lines from _ c.loop-from-test.true (i.lives b r) in
          went_more size (unpowered b) lines _ from count c.loop-from.site c.sweep_stretch.new.site rest i.within f (did.ensures.lives f.bench f.site));
      wrote = λ b r.
          (let f = sits_at size (unpowered b) lines from _ c.loop-from-test.true (i.lives b r) in
          reports_as _ _ _ _ _ _ _ (next_window c.args.caller c.args.within.from c.args.within.to made calls _ _ c.args.within.order i.from i.to (omega (arith, i.counts, did.ensures.calls, did.ensures.below)))
          (reports_more _ _ _ _ _ _ _ _ (i.wrote b r) (reports_weaker _ _ _ _ _ _ _ (row_of size kind c.args.caller made c.args.begin.now.off.disk (unpowered b) lines _ from c.loop-from.site rest f i.took i.counts) (did.ensures.wrote f.bench f.site))));
      from = omega (arith, i.from, c.behind-left.ensures.from);
      to = omega (arith, i.to, c.behind-left.ensures.to);
    }

pub returns-in-Err : goal.returns-in-Err
returns-in-Err g c = record { wrote = (tt) }

pub returns-in_err-site : goal.returns-in_err-site
returns-in_err-site g c = record { wrote = (IfOk-from_err c.from_residual.result _ c.from_residual.ensures.0) }
