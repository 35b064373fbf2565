use Rattle.std.proofs.Common.{◌∙◌, sym}
use Rattle.bench_sweep.{specs.declared.site.Going.Going, proofs.{Left.said_runs, Told.no_row}}
use Rattle.bench_sweep.proofs.site.Going.run_line.Goals as goal

pub alone-requires-clause-other : goal.alone-requires-clause-other
alone-requires-clause-other g c κs within = no_row c.args.line.now (sym c.is_of_harts.ensures ∙ c.if-is_of_harts.false)

pub returns : goal.returns
returns g c = record {
  runs =
      (let old = c.args.self.now in
      let new : Going = record { bench = c.alone.new.self; ledger = c.record_line.new.ledger } in
      said_runs c.record_line.result c.args.setting.now.shape.now c.args.line.now old new c.in_ok-answer.answer c.in_ok-answer.now c.requires.plain (sym c.is_of_harts.ensures ∙ c.if-is_of_harts.false)
      (c.in_ok-answer.ensures.well c.if-self.false) c.record_line.ensures.kept c.record_line.ensures.serial);
}
