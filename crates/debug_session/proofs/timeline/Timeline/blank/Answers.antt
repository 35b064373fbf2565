use Rattle.std.proofs.{Common.{false, List, [], refl, sym, subst}, lemmas.{List.Elements.All-nil, Result.IfOk-from_err}}
use Rattle.bench_report.specs.Bench.{bench_with}
use Rattle.script_lang.specs.{Lines.IsLineInRange, declared.line.Line.Line}
use Rattle.debug_session.specs.Ats.{IsAt}
use Rattle.debug_session.proofs.timeline.Timeline.blank.Goals as goal

pub returns-clause-at : goal.returns-clause-at
returns-clause-at c =
    let size = c.args.shape.now in
    let made = c.in_ok-bench in
    let P : List Line → Type 0 = λ past. IsAt size (record { begins = c.args.begins; history = past; joins = false; bench = made.bench }) in
    subst P (sym c.new.ensures) (record { left = (bench_with c.args.begins, (([], refl), tt, made.ensures.shows)); sound = made.ensures.sound; fill = made.ensures.fill; ranges = All-nil (IsLineInRange size) })

pub returns-clause-begins : goal.returns-clause-begins
returns-clause-begins c = refl

pub returns-in_err-bench-clause-at : goal.returns-in_err-bench-clause-at
returns-in_err-bench-clause-at c = IfOk-from_err c.from_residual.result _ c.from_residual.ensures.0

pub returns-in_err-bench-clause-history : goal.returns-in_err-bench-clause-history
returns-in_err-bench-clause-history c = IfOk-from_err c.from_residual.result _ c.from_residual.ensures.0

pub returns-in_err-bench-clause-begins : goal.returns-in_err-bench-clause-begins
returns-in_err-bench-clause-begins c = IfOk-from_err c.from_residual.result _ c.from_residual.ensures.0
