use Rattle.std.proofs.Common.{◌≡◌, ◌∙◌, [], ◌∷◌, refl, subst, arith}
use Rattle.board_model.proofs.Written.{unwritten}
use Rattle.report_lines.specs.{Counts.Reported, declared.printed.Answer.Answer}
use Rattle.bench_report.{specs.Reports.board_answer, proofs.{RunLines.few_found, Told.reported_more}}
use Rattle.bench_report.proofs.runs.begin.Goals as goal

pub returns-clause-ok : goal.returns-clause-ok
returns-clause-ok g c =
    let start = g.W.Write.contents c.args.out.now in
    let now = g.W.Write.contents c.add.new.out in
    let is_board : c.says.result ≡ board_answer c.args.shape.now = c.says.ensures ∙ rw (c.harts.ensures.value, c.pages.ensures.value, c.lanes.ensures.value, c.sectors.ensures.value) refl in
    let P : Answer → Type 0 = λ a. Reported start now c.add.new.report (a ∷ []) in
    subst P is_board (reported_more start start _ _ _ [] c.says.result (record { text = unwritten start; lines = refl; found = c.new.ensures.items }) c.in_ok-add.ensures.ok)

pub returns-clause-lines : goal.returns-clause-lines
returns-clause-lines g c =
    let counted = few_found c.says.result.found in
    omega (arith, c.in_ok-add.ensures.ok.lines, counted)
