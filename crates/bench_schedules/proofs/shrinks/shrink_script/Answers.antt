use Rattle.std.proofs.{Common.{List, All, OnOk, subst, sym}, lemmas.Result.on_ok_weaker}
use Rattle.script_lang.specs.{Lines.IsLineInRange, declared.line.Line.Line}
use Rattle.report_lines.specs.declared.printed.Answer.{Answer}
use Rattle.bench_schedules.{specs.Shrunk.{IsShortened, Shrunk}, proofs.Shortened.shrunk_of}
use Rattle.bench_schedules.proofs.shrinks.shrink_script.Goals as goal

pub returns-clause-shrunk : goal.returns-clause-shrunk
returns-clause-shrunk g c =
    let size = c.args.script.now.shape in
    let start = c.args.payloads.now in
    let old = g.W.Write.contents c.args.out.now in
    let now = g.W.Write.contents c.write_script.new.out in
    let lines = c.as_slice-lines in
    let own = c.in_ok-own.own.answers.items in
    let drawn = c.in_ok-drawn.drawn.items in
    let new = c.in_ok-new.new.items in
    let S : List Line → Type 0 = λ ls. OnOk c.write_script.result (Shrunk (record { size = size; lines = ls }) start old now) in
    let R : List Line → Type 0 = λ ls. All (IsLineInRange size) ls in
    let N : List Answer → Type 0 = λ o. IsShortened size start lines.result.now o drawn new in
    subst S lines.ensures.value
    (on_ok_weaker c.write_script.result
    (λ text. shrunk_of size start lines.result.now own drawn new c.deref-2.result.now old now
    c.shape_in_range.ensures c.in_ok-own.ensures.ran c.in_ok-drawn.ensures.order (subst N c.deref.ensures.value c.in_ok-new.ensures.shortened)
    (subst R (sym lines.ensures.value) c.requires.ranges) c.fits.ensures c.deref-2.ensures.value c.scripts_read_as_written.ensures text)
    c.write_script.ensures.ok)
