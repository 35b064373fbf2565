use Rattle.std.proofs.{Common.{◌+◌, refl}, lemmas.Result.{IfOk-weaker, IfOk-from_err}}
use Rattle.bench_sweep.proofs.{Along.{along, came_again}, Made.rest_is, Reported.{swept_take, swept_drop}, Rowed.judged_at}
use Rattle.bench_sweep.proofs.chunks.RunsAtCalls.rows_at.Goals as goal

pub run_at_point-requires-clause-lines : goal.run_at_point-requires-clause-lines
run_at_point-requires-clause-lines g c κs within =
    let runner = c.args.self.now.runner.now in
    let shape = runner.setting.shape.now in
    swept_take shape _ _ (swept_drop shape c.args.moment.now.count runner.lines.now c.requires.lines)

pub run_at_point-requires-clause-sits : goal.run_at_point-requires-clause-sits
run_at_point-requires-clause-sits g c κs within =
    let came = c.requires.sits.1.came in
    (came.at, c.in_ok-going.ensures.runs c.args.self.now.runner.now.setting.shape.now came.at came.runs)

pub returns-clause-stays : goal.returns-clause-stays
returns-clause-stays g c = λ b told.
    let runner = c.args.self.now.runner.now in
    came_again runner.setting.shape.now b runner.lines.now c.args.self.now.site.now c.args.moment.now _ told refl c.copy.ensures.ledger (c.copy.ensures.stays runner.setting.shape.now told.came.at told.came.runs) c.copy.ensures.same

pub returns-clause-judged : goal.returns-clause-judged
returns-clause-judged g c = IfOk-weaker c.run_at_point.result _ _ (λ rows did b told.
    (let self = c.args.self.now in
    let runner = self.runner.now in
    let size = runner.setting.shape.now in
    let lines = runner.lines.now in
    let since = c.in_ok-made.ensures.calls in
    judged_at runner.bench self.caller (self.before + c.args.done + 1) _ _ rows
    (λ row who number is. along size runner.bench self.site.now self.before b lines _ c.args.moment.now told since.0 self.caller c.in_ok-made.made since.1 since.2 (rest_is c.args.moment.now.count lines) row who is)
    (did told.came.at (c.in_ok-going.ensures.runs size told.came.at told.came.runs))))
    c.run_at_point.ensures.judged

pub returns-in_err-going-clause-stays : goal.returns-in_err-going-clause-stays
returns-in_err-going-clause-stays g c = λ b told.
    let runner = c.args.self.now.runner.now in
    came_again runner.setting.shape.now b runner.lines.now c.args.self.now.site.now c.args.moment.now _ told refl c.copy.ensures.ledger (c.copy.ensures.stays runner.setting.shape.now told.came.at told.came.runs) c.copy.ensures.same

pub returns-clause-count : goal.returns-clause-count
returns-clause-count g c = refl

pub returns-in_err-going-clause-count : goal.returns-in_err-going-clause-count
returns-in_err-going-clause-count g c = refl

pub returns-in_err-going-clause-judged : goal.returns-in_err-going-clause-judged
returns-in_err-going-clause-judged g c = IfOk-from_err c.from_residual-in_err-going.result _ c.from_residual-in_err-going.ensures.0

pub returns-in_err-made-clause-count : goal.returns-in_err-made-clause-count
returns-in_err-made-clause-count g c = refl

pub returns-in_err-made-clause-judged : goal.returns-in_err-made-clause-judged
returns-in_err-made-clause-judged g c = IfOk-from_err c.from_residual.result _ c.from_residual.ensures.0

pub returns-then-done-made-clause-count : goal.returns-then-done-made-clause-count
returns-then-done-made-clause-count g c = refl

pub returns-then-done-made-clause-judged : goal.returns-then-done-made-clause-judged
returns-then-done-made-clause-judged g c = tt
