use Rattle.std.proofs.{Common.refl, lemmas.Result.on_ok_weaker}
use Rattle.bench_report.specs.{Happens.unpowered, declared.power.Power.TheVariants.Off}
use Rattle.bench_sweep.proofs.{KeptRows.left_row, Left.left_by}
use Rattle.bench_sweep.proofs.judging.judge_last.Goals as goal

pub judge_left-requires-clause-left : goal.judge_left-requires-clause-left
judge_left-requires-clause-left g c κs within =
    let size = c.args.runner.now.setting.shape.now in
    let sits = c.requires.sits in
    (c.args.site.payloads, unpowered sits.0, left_by size sits.0 c.args.site c.cut_off-off.result _ _ sits.1 (c.cut_off-off.ensures.left size sits.0 sits.1.agrees) refl (λ k t. t))

pub returns : goal.returns
returns g c = record {
  kept = (on_ok_weaker c.judge_left.result (λ found b r.
      let size = c.args.runner.now.setting.shape.now in
      left_row size b c.args.site.off.disk c.cut_off-off.result.disk c.args.point.caller c.args.point.number c.args.fill c.cut_fill.result _ _ (Off c.args.site.off, r.agrees, refl) c.cut_fill.ensures c.cut_off-off.ensures.exact (found (unpowered b) (c.cut_off-off.ensures.left size b r.agrees)))
      c.judge_left.ensures.kept);
}
