use Rattle.std.proofs.{Common.refl, lemmas.Result.{IfOk-from_err, on_ok_weaker}}
use Rattle.bench_report.specs.{Happens.unpowered, declared.power.Power.TheVariants.Off}
use Rattle.bench_sweep.proofs.{KeptRows.left_row, Left.left_by}
use Rattle.bench_sweep.proofs.judging.judge_run.Goals as goal

pub judge_left-requires-clause-left : goal.judge_left-requires-clause-left
judge_left-requires-clause-left g c κs within =
    let size = c.args.runner.now.setting.shape.now in
    let sits = c.requires.sits in
    (c.args.site.now.payloads, unpowered sits.0, left_by size sits.0 c.args.site.now c.in_ok-off.off _ _ sits.1 (c.in_ok-off.ensures.left size sits.0 sits.1.agrees) refl (λ k t. t))

pub returns : goal.returns
returns g c = record {
  kept = (on_ok_weaker c.judge_left.result (λ found b r.
      let size = c.args.runner.now.setting.shape.now in
      left_row size b c.args.site.now.off.disk c.in_ok-off.off.disk c.args.point.caller c.args.point.number c.args.fill c.cut_fill.result _ _ (Off c.args.site.now.off, r.agrees, refl) c.cut_fill.ensures c.in_ok-off.ensures.exact (found (unpowered b) (c.in_ok-off.ensures.left size b r.agrees)))
      c.judge_left.ensures.kept);
}

pub returns-in_err-off : goal.returns-in_err-off
returns-in_err-off g c = record { kept = (IfOk-from_err c.from_residual.result _ c.from_residual.ensures.0) }
