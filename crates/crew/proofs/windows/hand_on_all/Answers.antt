use Rattle.std.proofs.{Common.{◌≡◌, ◌+◌, subst, arith}, lemmas.Result.IfOk-from_err}
use Rattle.crew.proofs.HandedOn.{handed_both}
use Rattle.crew.proofs.windows.hand_on_all.Goals as goal

pub run_window-requires-clause-has : goal.run_window-requires-clause-has
run_window-requires-clause-has g c κs within = λ i lt.
    let first = c.args.first in
    let done = c.loop-done.done in
    let same : first + (done + i) ≡ first + done + i = omega arith in
    subst (g.T.Task.has c.args.task.now) same (c.requires.has (done + i) (omega (arith, lt, c.min-size.ensures, c.loop-done-test.true)))

pub loop-done-preserved : goal.loop-done-preserved
loop-done-preserved g c =
    let i = c.loop-done.invariant in record {
      few = omega (arith, c.min-size.ensures);
      handed = handed_both (g.T.Task.is_row c.args.task.now) g.S.Sink.takes c.args.first c.loop-done.done c.min-size.result _ _ _ i.handed c.in_ok-run_window.ensures.handed;
    }

pub returns-in_err-run_window : goal.returns-in_err-run_window
returns-in_err-run_window g c = record { handed = (IfOk-from_err c.from_residual.result _ c.from_residual.ensures.0) }
