use Rattle.std.proofs.{Common.{List, refl, subst}, lemmas.Result.IfOk-weaker}
use Rattle.bench_report.specs.{Happens.{off, unpowered}, declared.power.Power.TheVariants.Off}
use Rattle.script_lang.specs.declared.line.Line.{Line}
use Rattle.bench_sweep.{specs.Reports.ReportsAll, proofs.{Made.rest_is, Reported.{swept_take, swept_drop}}}
use Rattle.bench_sweep.proofs.sweeps.sweep_lines.Goals as goal

pub sweep_site-requires-clause-lines : goal.sweep_site-requires-clause-lines
sweep_site-requires-clause-lines g c κs within =
    let size = c.args.setting.now.shape.now in
    swept_take size _ _ (swept_drop size _ c.args.lines.now c.requires.lines)

pub sweep_site-requires-clause-sits : goal.sweep_site-requires-clause-sits
sweep_site-requires-clause-sits g c κs within = let begun = c.in_ok-count.ensures.runs in (off begun.0, begun.2)

pub returns : goal.returns
returns g c = record {
  wrote = (IfOk-weaker c.sweep_site.result _ _ (λ all did.
      (let begun = c.in_ok-count.ensures.runs in
      let count = c.in_ok-count.count in
      let site = c.in_ok-count.site in
      let lines = c.args.lines.now in
      let All : List Line → Type 0 = λ ls. ReportsAll g.W.Write.contents c.args.setting.now.shape.now c.args.plan.bench c.args.plan.part site.off.disk (unpowered begun.0) ls all c.args.report.now c.sweep_site.new.report in
      record { begin = count; first = begun.0; origin = site.off.disk; begins = record { format = begun.1; stands = (Off site.off, begun.2.agrees, refl) }; rows = subst All (rest_is count lines) (did (off begun.0) begun.2) }))
      c.sweep_site.ensures.wrote);
}
