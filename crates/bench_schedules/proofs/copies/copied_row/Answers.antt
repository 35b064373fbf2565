use Rattle.std.proofs.{lemmas.{Result.IfOk-from_err, List.take_all}, Common.{◌∙◌}}
use Rattle.bench_schedules.proofs.CopiedLines.{row_more}
use Rattle.bench_schedules.proofs.copies.copied_row.Goals as goal

pub returns-in_err-line : goal.returns-in_err-line
returns-in_err-line c = IfOk-from_err c.from_residual.result _ c.from_residual.ensures.0

pub returns-in_err-push : goal.returns-in_err-push
returns-in_err-push c = IfOk-from_err c.from_residual-in_err-push.result _ c.from_residual-in_err-push.ensures.0

pub loop-line-preserved : goal.loop-line-preserved
loop-line-preserved c =
    row_more c.args.row.now c.loop-line.copy.items c.push.new.self.items c.loop-line.line-index c.line-item.result c.in_ok-line.line c.loop-line-test.true c.line-item.is c.in_ok-line.ensures c.loop-line.invariant c.in_ok-push.ensures.items

pub returns : goal.returns
returns c = c.loop-line.invariant ∙ take_all c.loop-line.line-index c.args.row.now c.loop-line-test.false
