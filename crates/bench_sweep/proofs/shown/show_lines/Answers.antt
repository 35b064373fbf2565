use Rattle.std.proofs.{Common.{List, refl, subst, take, inl}, lemmas.{List.Elements.All-take, Result.{on_ok_weaker, IfOk-from_err}}}
use Rattle.script_lang.specs.{Lines.IsLineInRange, declared.line.Line.Line}
use Rattle.bench_report.specs.{Happens.{off, unpowered}, declared.power.Power.TheVariants.Off}
use Rattle.bench_sweep.{specs.Shown.{ShowsFrom, ShowsNone}, proofs.{Made.rest_is, Reported.{swept_take, swept_drop}, ShownRows.refused_so}}
use Rattle.board_model.proofs.Exits.{err_said}
use Rattle.bench_sweep.proofs.shown.show_lines.Goals as goal

pub show_from-requires-clause-lines : goal.show_from-requires-clause-lines
show_from-requires-clause-lines g c κs within =
    let size = c.args.setting.now.shape.now in
    swept_take size _ _ (swept_drop size _ c.args.lines.now c.requires.lines)

pub show_from-requires-clause-sits : goal.show_from-requires-clause-sits
show_from-requires-clause-sits g c κs within = let begun = c.in_ok-begin.ensures.runs in (off begun.0, begun.2)

pub show_from-requires-clause-front : goal.show_from-requires-clause-front
show_from-requires-clause-front g c κs within = All-take (IsLineInRange c.args.setting.now.shape.now) c.in_ok-begin.begin c.args.lines.now c.requires.lines.ranges

pub returns-clause-shown : goal.returns-clause-shown
returns-clause-shown g c = on_ok_weaker c.show_from.result (λ did.
    (let begun = c.in_ok-begin.ensures.runs in
    let begin = c.in_ok-begin.begin in
    let site = c.in_ok-begin.site in
    let lines = c.args.lines.now in
    let S : List Line → Type 0 = λ ls. ShowsFrom c.args.wanted.bench c.args.setting.now.shape.now site.off.disk (unpowered begun.0) (take begin lines) ls c.args.wanted.number (g.W.Write.contents c.args.out.now) (g.W.Write.contents c.show_from.new.out) in
    record { begin = begin; first = begun.0; origin = site.off.disk; begins = record { format = begun.1; stands = (Off site.off, begun.2.agrees, refl) }; shows = subst S (rest_is begin lines) (did (off begun.0) begun.2) }))
    c.show_from.ensures.shown

pub returns-clause-refused : goal.returns-clause-refused
returns-clause-refused g c = refused_so c.show_from.result (λ did.
    (let begun = c.in_ok-begin.ensures.runs in
    let begin = c.in_ok-begin.begin in
    let site = c.in_ok-begin.site in
    let lines = c.args.lines.now in
    let S : List Line → Type 0 = λ ls. ShowsNone c.args.wanted.bench c.args.setting.now.shape.now site.off.disk (unpowered begun.0) (take begin lines) ls c.args.wanted.number in
    record { begin = begin; first = begun.0; origin = site.off.disk; begins = record { format = begun.1; stands = (Off site.off, begun.2.agrees, refl) }; none = subst S (rest_is begin lines) (did (off begun.0) begun.2) }))
    c.show_from.ensures.refused

pub returns-in_err-begin-clause-refused : goal.returns-in_err-begin-clause-refused
returns-in_err-begin-clause-refused g c = err_said _ _ c.from_residual.result c.from_residual.ensures.1 (λ y is. inl is)

pub returns-in_err-begin-clause-shown : goal.returns-in_err-begin-clause-shown
returns-in_err-begin-clause-shown g c = IfOk-from_err c.from_residual.result _ c.from_residual.ensures.0
