use Rattle.std.proofs.{Common.{inl, inr, ⊎_elim}, lemmas.List.Elements.All-take}
use Rattle.std.proofs.lemmas.Result.{err_from_is_err_and, on_ok_weaker, IfOk-from_err}
use Rattle.bench_report.specs.Happens.{unpowered}
use Rattle.script_lang.specs.Lines.{IsLineInRange}
use Rattle.bench_sweep.{specs.Shown.run_cell, proofs.ShownRows.{refused_so, shows_from, shows_none}}
use Rattle.board_model.proofs.Exits.{err_said}
use Rattle.bench_sweep.proofs.shown.show_from.Goals as goal

pub write_shown-requires-clause-back : goal.write_shown-requires-clause-back
write_shown-requires-clause-back g c = All-take (IsLineInRange c.args.runner.now.setting.shape.now) c.in_ok-count.count c.args.runner.now.lines.now c.requires.lines.ranges

pub returns-clause-shown : goal.returns-clause-shown
returns-clause-shown g c = on_ok_weaker c.write_shown.result (λ wrote b r.
    shows_from c.args.runner.now.setting.shape.now c.args.site.now.off.disk (unpowered b) c.args.front.now c.args.runner.now.lines.now c.args.number c.in_ok-count.count (run_cell c.in_ok-run.run') c.in_ok-arming.arming _ _
    (c.in_ok-run.ensures.found b r) (c.in_ok-count.ensures.armed b r) c.in_ok-arming.ensures.arms.0 wrote)
    c.write_shown.ensures.wrote

pub returns-clause-refused : goal.returns-clause-refused
returns-clause-refused g c = refused_so c.write_shown.result (λ long b r.
    shows_none c.args.runner.now.setting.shape.now c.args.site.now.off.disk (unpowered b) c.args.front.now c.args.runner.now.lines.now c.args.number c.in_ok-count.count (run_cell c.in_ok-run.run') c.in_ok-arming.arming
    (c.in_ok-run.ensures.found b r) (c.in_ok-count.ensures.armed b r) c.in_ok-arming.ensures.arms.0 long)
    c.write_shown.ensures.refused

pub returns-in_err-run-clause-refused : goal.returns-in_err-run-clause-refused
returns-in_err-run-clause-refused g c =
    let p = err_from_is_err_and c.from_residual.result c.from_residual.ensures.1 in
    rw (p.1, p.2) (⊎_elim (λ memory. inl memory) (λ none. inr (inr (none.0, (λ b r. inl (none.1 b r))))) c.in_err-run.ensures.refused)

pub returns-in_err-arming-clause-refused : goal.returns-in_err-arming-clause-refused
returns-in_err-arming-clause-refused g c =
    let p = err_from_is_err_and c.from_residual-in_err-arming.result c.from_residual-in_err-arming.ensures.1 in
    let why = c.in_err-arming.ensures.refused in
    rw (p.1, p.2) (inr (inr (why.0, (λ b r. inr (record { run = run_cell c.in_ok-run.run'; has = c.in_ok-run.ensures.found b r; why = inl why.1 })))))

pub count_armed-requires-clause-lines : goal.count_armed-requires-clause-lines
count_armed-requires-clause-lines g c κs within = c.requires.lines

pub count_armed-requires-clause-sits : goal.count_armed-requires-clause-sits
count_armed-requires-clause-sits g c κs within = c.requires.sits

pub find_run-requires-clause-lines : goal.find_run-requires-clause-lines
find_run-requires-clause-lines g c κs within = c.requires.lines

pub find_run-requires-clause-sits : goal.find_run-requires-clause-sits
find_run-requires-clause-sits g c κs within = c.requires.sits

pub returns-in_err-arming-clause-shown : goal.returns-in_err-arming-clause-shown
returns-in_err-arming-clause-shown g c = IfOk-from_err c.from_residual-in_err-arming.result _ c.from_residual-in_err-arming.ensures.0

pub returns-in_err-count-clause-refused : goal.returns-in_err-count-clause-refused
returns-in_err-count-clause-refused g c = err_said _ _ c.from_residual-in_err-count.result c.from_residual-in_err-count.ensures.1 (λ y is. inl is)

pub returns-in_err-count-clause-shown : goal.returns-in_err-count-clause-shown
returns-in_err-count-clause-shown g c = IfOk-from_err c.from_residual-in_err-count.result _ c.from_residual-in_err-count.ensures.0

pub returns-in_err-run-clause-shown : goal.returns-in_err-run-clause-shown
returns-in_err-run-clause-shown g c = IfOk-from_err c.from_residual.result _ c.from_residual.ensures.0
