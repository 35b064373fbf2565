use Rattle.std.proofs.{Common.{◌≡◌, ◌+◌, ℕ, rules, refl, ◌∙◌, [], take, subst, arith}, lemmas.Result.IfOk-from_err}
use Rattle.bench_sweep.{specs.Runs.IsFormattedAt, proofs.Begun.{begun_by, begins_more}}
use Rattle.bench_report.specs.Bench.{bench_with}
use Rattle.bench_sweep.proofs.begins.run_to_format.Goals as goal

pub loop-line-init : goal.loop-line-init
loop-line-init g c = record {
  begins = record { bench = bench_with c.args.payloads.now; answers = []; run = refl; shows = c.in_ok-bench.ensures.shows; enough = refl };
  count = refl;
  sound = c.in_ok-bench.ensures.sound;
}

pub loop-line-preserved : goal.loop-line-preserved
loop-line-preserved g c =
    let size = c.args.setting.now.shape.now in
    let i = c.loop-line.invariant in
    let t = c.in-Ok.ensures.moved i.begins.bench i.begins.shows in record {
      begins = begins_more size c.args.payloads.now c.args.lines.now c.loop-line.line-index c.line-item.result c.line-item.result _ i.begins.bench t.1 i.begins.answers t.0 c.loop-line-test.true c.line-item.is i.begins.run t.2 t.3 (t.4 ∙ i.begins.enough);
      count = search rules;
      sound = c.run_before_format.ensures.sound;
    }

pub returns-then-formatted-clause-runs : goal.returns-then-formatted-clause-runs
returns-then-formatted-clause-runs g c =
    let size = c.args.setting.now.shape.now in
    let i = c.loop-line.invariant in
    let t = c.in-Ok.ensures.moved i.begins.bench i.begins.shows in
    let count : c.loop-line.line-index + 1 ≡ c.loop-line.count + 1 = omega (arith, i.count) in
    let P : ℕ → Type 0 = λ n. IsFormattedAt size c.args.payloads.now (take n c.args.lines.now) c.in_ok-site.site in
    subst P count (
    c.in_ok-site.ensures.runs _ _
    (begun_by size c.args.payloads.now c.args.lines.now c.loop-line.line-index c.line-item.result c.line-item.result _ i.begins.bench t.1 i.begins.answers t.0 c.loop-line-test.true c.line-item.is i.begins.run (t.5 c.if-formatted.true) t.2 t.3 (t.4 ∙ i.begins.enough))
    )

pub returns-then-formatted-clause-few : goal.returns-then-formatted-clause-few
returns-then-formatted-clause-few g c = let i = c.loop-line.invariant in omega (arith, i.count, c.loop-line-test.true)

pub returns-in_err-bench-clause-few : goal.returns-in_err-bench-clause-few
returns-in_err-bench-clause-few g c = IfOk-from_err c.from_residual.result _ c.from_residual.ensures.0

pub returns-in_err-bench-clause-runs : goal.returns-in_err-bench-clause-runs
returns-in_err-bench-clause-runs g c = IfOk-from_err c.from_residual.result _ c.from_residual.ensures.0

pub returns-in_err-site-clause-few : goal.returns-in_err-site-clause-few
returns-in_err-site-clause-few g c = IfOk-from_err c.from_residual-in_err-site.result _ c.from_residual-in_err-site.ensures.0

pub returns-in_err-site-clause-runs : goal.returns-in_err-site-clause-runs
returns-in_err-site-clause-runs g c = IfOk-from_err c.from_residual-in_err-site.result _ c.from_residual-in_err-site.ensures.0
