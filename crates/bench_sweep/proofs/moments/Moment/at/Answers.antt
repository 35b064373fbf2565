use Rattle.std.proofs.{Common.{[], ◌∙◌, refl, sym, arith}, lemmas.List.append-nil}
use Rattle.bench_report.specs.Happens.{unpowered}
use Rattle.bench_sweep.proofs.moments.Moment.at.Goals as goal

pub returns-clause-came : goal.returns-clause-came
returns-clause-came c = λ size b lines r. record {
  came = record {
    few = omega arith;
    answers = [];
    at = unpowered b;
    run = refl;
    runs = c.in_ok-going.ensures.runs size b r;
  };
  took = c.in_ok-going.ensures.calls;
  resumed = c.in_ok-going.ensures.resumed ∙ sym (append-nil c.args.site.now.ledger.resumed.items);
}
