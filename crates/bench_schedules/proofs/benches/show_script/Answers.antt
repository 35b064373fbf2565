use Rattle.std.proofs.{Common.{List, All, OnOk, subst, sym}, lemmas.Result.on_ok_weaker}
use Rattle.script_lang.specs.{Lines.IsLineInRange, declared.line.Line.Line}
use Rattle.bench_schedules.{specs.Schedules.Shown, proofs.Texts.shown_of}
use Rattle.bench_schedules.proofs.benches.show_script.Goals as goal

pub returns-clause-shown : goal.returns-clause-shown
returns-clause-shown g c =
    let size = c.args.script.now.shape in
    let old = g.W.Write.contents c.args.out.now in
    let new = g.W.Write.contents c.write_script.new.out in
    let drawn = c.in_ok-drawn.ensures in
    let lines = c.as_slice-lines in
    let S : List Line → Type 0 = λ ls. OnOk c.write_script.result (Shown (record { size = size; lines = ls }) old new) in
    let R : List Line → Type 0 = λ ls. All (IsLineInRange size) ls in
    subst S lines.ensures.value
    (on_ok_weaker c.write_script.result
    (λ text. shown_of size lines.result.now c.in_ok-drawn.drawn.items c.deref.result.now old new
    c.shape_in_range.ensures drawn.order drawn.few (subst R (sym lines.ensures.value) c.requires.ranges) c.fits.ensures c.deref.ensures.value c.scripts_read_as_written.ensures text)
    c.write_script.ensures.ok)
