use Rattle.std.proofs.Common.{ℕ, ap, arith}
use Rattle.planned_store.specs.declared.saves.{Saving.Saving, SaveStep.TheVariants.WriteHead}
use Rattle.planned_store.proofs.saves.plan_suspend.Goals as goal

pub returns-clause-ok : goal.returns-clause-ok
returns-clause-ok c =
    let s = c.args.store.now in
    let begin : ℕ → Saving = λ page. record { from = s.selected; at = c.args.at; page = page; step = WriteHead } in
    record {
      up = c.in_ok-takes.ensures.ok.0;
      going = c.in_ok-takes.ensures.ok.1;
      room = c.in_ok-takes.ensures.ok.2;
      fits = c.fits_board.ensures.0 c.if-not-fits_board.false;
      serial = omega arith;
      is = ap begin c.in-Some.ensures.some.0;
    }
