use Rattle.std.proofs.lemmas.Result.{IfOk-weaker}
use Rattle.bench_sweep.proofs.Begun.{begun_runs, formatted_by}
use Rattle.bench_sweep.proofs.begins.formatted_site.Goals as goal

pub returns : goal.returns
returns c = record {
  runs = IfOk-weaker c.turn_off.result _ _
      (λ site turned start lines g. (g.bench, formatted_by c.args.shape.now start lines c.args.bench g, (turned c.args.shape.now g.bench (begun_runs c.args.shape.now start lines c.args.bench c.formatted.result g c.formatted.ensures)).2))
      c.turn_off.ensures.runs;
}
