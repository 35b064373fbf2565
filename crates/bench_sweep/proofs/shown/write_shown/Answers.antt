use Rattle.std.proofs.{Common.{◌≡◌, ◌∙◌, ◌≤◌, List, All, length, ap, arith, subst, sym, inl}, lemmas.Bool.Decides.nat_tests}
use Rattle.std.proofs.lemmas.Result.{on_ok_weaker, IfOk-from_err}
use Rattle.script_lang.specs.{Lines.FitsLine, declared.line.Line.Line}
use Rattle.bench_sweep.proofs.ShownRows.{row_in_range, wrote_script}
use Rattle.board_model.proofs.Exits.{err_said}
use Rattle.bench_sweep.proofs.shown.write_shown.Goals as goal

pub returns-clause-wrote : goal.returns-clause-wrote
returns-clause-wrote g c =
    let size = c.args.shape.now in
    let row = c.args.row.now in
    let xs = c.deref-2.result.now in
    let is = c.deref-2.ensures.value ∙ c.in_ok-lines.ensures in
    let F : List Line → Type 0 = λ ls. All FitsLine ls in
    let same : length xs ≡ length c.in_ok-lines.lines.items = ap length c.deref-2.ensures.value in
    let few : length xs ≤ 65535 = first_of (grind (arith, nat_tests, same, c.len.ensures, c.if-len-gt-MOST_LINES.false), omega (arith, same, c.len.ensures, c.if-len-gt-MOST_LINES.false)) in
    on_ok_weaker c.write_script.result
    (wrote_script size xs _ (g.W.Write.contents c.args.out.now) (g.W.Write.contents c.write_script.new.out) c.shape_in_range.ensures is few
    (row_in_range size row.bench row.front.now row.back.now row.arming c.requires.front c.requires.arming c.requires.back)
    (subst F (c.deref.ensures.value ∙ sym c.deref-2.ensures.value) c.fits.ensures) c.scripts_read_as_written.ensures)
    c.write_script.ensures.ok

pub returns-in_err-lines-clause-refused : goal.returns-in_err-lines-clause-refused
returns-in_err-lines-clause-refused g c = err_said _ _ c.from_residual.result c.from_residual.ensures.1 (λ y is. inl is)

pub returns-in_err-lines-clause-wrote : goal.returns-in_err-lines-clause-wrote
returns-in_err-lines-clause-wrote g c = IfOk-from_err c.from_residual.result _ c.from_residual.ensures.0

pub returns-then-len-gt-MOST_LINES-clause-wrote : goal.returns-then-len-gt-MOST_LINES-clause-wrote
returns-then-len-gt-MOST_LINES-clause-wrote g c = tt
