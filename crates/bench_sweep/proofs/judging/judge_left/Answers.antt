use Rattle.std.proofs.{Common.refl, lemmas.Result.IfOk-from_err}
use Rattle.board_model.specs.{Plains.state_in, Views.durable_of}
use Rattle.bench_sweep.proofs.judging.judge_left.Goals as goal

pub count_run-requires : goal.count_run-requires
count_run-requires g c = c.requires.left

pub returns : goal.returns
returns g c = record {
  kept = (λ b is.
      let did = c.in_ok-left.ensures in
      let looked = did.says b is in record {
        row = record { caller = c.args.point.caller; number = c.args.point.number; fill = c.args.fill; left = c.in_ok-left.left };
        is = record { after = looked.0; says = looked.1; finds = (durable_of (state_in did.judged.plain), did.judged.says); opens = did.exact };
        cell = refl;
        rows = c.in_ok-push.ensures.items;
        runs = did.runs;
        right = did.right;
      });
}

pub returns-in_err-left : goal.returns-in_err-left
returns-in_err-left g c = record { kept = (IfOk-from_err c.from_residual.result _ c.from_residual.ensures.0) }

pub returns-in_err-push : goal.returns-in_err-push
returns-in_err-push g c = record { kept = (IfOk-from_err c.from_residual-in_err-push.result _ c.from_residual-in_err-push.ensures.0) }
