use Rattle.std.proofs.lemmas.Result.{IfOk-weaker, IfOk-from_err}
use Rattle.bench_report.specs.Happens.{unpowered}
use Rattle.bench_sweep.proofs.Made.{plain_run}
use Rattle.bench_sweep.proofs.sweeps.sweep_site.Goals as goal

pub returns : goal.returns
returns g c = record {
  wrote = (IfOk-weaker c.sweep_all_callers.result _ _ (λ all did b r.
      (let wrote = did b r in
      let size = c.args.runner.now.setting.shape.now in
      record {
        counts = wrote.0;
        calls = record { plain = plain_run size (unpowered b) c.args.runner.now.lines.now _ (c.in_ok-end.ensures.ends b r); ended = c.in_ok-end.end.off.disk; took = c.in_ok-end.ensures.took; made = wrote.1 };
        total = wrote.2;
        runs = wrote.3;
      }))
      c.sweep_all_callers.ensures.wrote);
}

pub returns-in_err-end : goal.returns-in_err-end
returns-in_err-end g c = record { wrote = (IfOk-from_err c.from_residual.result _ c.from_residual.ensures.0) }

pub run_plain-requires-clause-lines : goal.run_plain-requires-clause-lines
run_plain-requires-clause-lines g c κs within = c.requires.lines

pub run_plain-requires-clause-sits : goal.run_plain-requires-clause-sits
run_plain-requires-clause-sits g c κs within = c.requires.sits

pub sweep_all_callers-requires-clause-lines : goal.sweep_all_callers-requires-clause-lines
sweep_all_callers-requires-clause-lines g c κs within = c.requires.lines

pub sweep_all_callers-requires-clause-sits : goal.sweep_all_callers-requires-clause-sits
sweep_all_callers-requires-clause-sits g c κs within = c.requires.sits
