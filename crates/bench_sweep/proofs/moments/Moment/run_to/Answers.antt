use Rattle.std.proofs.Common.{refl, sym, ◌∙◌}
use Rattle.bench_sweep.proofs.{Along.came_on, Left.unstruck, Reported.{swept_take, swept_drop}}
use Rattle.bench_sweep.proofs.moments.Moment.run_to.Goals as goal

pub run_lines-requires-clause-calm : goal.run_lines-requires-clause-calm
run_lines-requires-clause-calm g c κs within = let came = c.requires.sits.2.came in unstruck c.args.setting.now.shape.now came.at _ came.runs.agrees came.runs.calm

pub run_lines-requires-clause-ranges : goal.run_lines-requires-clause-ranges
run_lines-requires-clause-ranges g c κs within = (swept_take c.args.setting.now.shape.now _ _ (swept_drop c.args.setting.now.shape.now c.args.self.now.count c.args.lines.now c.requires.lines)).ranges

pub run_lines-requires-clause-plain : goal.run_lines-requires-clause-plain
run_lines-requires-clause-plain g c κs within = (swept_take c.args.setting.now.shape.now _ _ (swept_drop c.args.setting.now.shape.now c.args.self.now.count c.args.lines.now c.requires.lines)).plain

pub returns-clause-came : goal.returns-clause-came
returns-clause-came g c = λ b first told.
    let size = c.args.setting.now.shape.now in
    let ran = c.in_ok-more.ensures.ran told.came.at told.came.runs in
    let calm = sym (c.is_struck.ensures.exact size ran.bench ran.runs.agrees) ∙ c.if-is_struck.false in
    came_on size b c.args.lines.now first c.args.self.now _ c.args.to c.in_ok-more.more told ran (c.in_ok-more.ensures.took told.came.at told.came.runs) calm c.in_ok-more.ensures.few refl
