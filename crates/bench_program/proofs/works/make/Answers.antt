use Rattle.bench_program.specs.declared.usage.Work.TheVariants as works
use Rattle.bench_report.specs.declared.runs.StoppedRun.{StoppedRun}
use Rattle.board_model.specs.declared.refusal.Refusal.{Refusal}
use Rattle.bench_program.proofs.ByWork.{made_as, made_by, refused_as, refused_by, well_made}
use Rattle.bench_program.proofs.works.make.Goals as goal

pub returns-in-Report-Threads-clause-made : goal.returns-in-Report-Threads-clause-made
returns-in-Report-Threads-clause-made g c =
    made_as c.args.options.now.work (works.Report c.in-Report-Threads.field-0) c.args.payloads c.args.script.now c.reported.result (g.W.Write.contents c.args.out.now) (g.W.Write.contents c.run_left_with.new.out) c.in-Report-Threads.is
    (made_by c.run_left_with.result c.reported.result (λ (s : StoppedRun). s.refusal) _ _ c.reported.ensures (λ left was. (was.0, was.1, was.2, was.3, was.4, was.5.text, was.7.prefix)) c.run_left_with.ensures.report)

pub returns-in-Report-Threads-clause-refused : goal.returns-in-Report-Threads-clause-refused
returns-in-Report-Threads-clause-refused g c =
    refused_as c.args.options.now.work (works.Report c.in-Report-Threads.field-0) c.args.payloads c.args.script.now c.reported.result c.in-Report-Threads.is
    (refused_by c.run_left_with.result c.reported.result (λ (s : StoppedRun). s.refusal) _ _ c.reported.ensures (λ s h. h) c.run_left_with.ensures.refused)

pub returns-in-Report-Turns-clause-made : goal.returns-in-Report-Turns-clause-made
returns-in-Report-Turns-clause-made g c =
    made_as c.args.options.now.work (works.Report c.in-Report-Turns.field-0) c.args.payloads c.args.script.now c.reported-in-Report-Turns.result (g.W.Write.contents c.args.out.now) (g.W.Write.contents c.run_left_with-in-Report-Turns.new.out) c.in-Report-Turns.is
    (made_by c.run_left_with-in-Report-Turns.result c.reported-in-Report-Turns.result (λ (s : StoppedRun). s.refusal) _ _ c.reported-in-Report-Turns.ensures (λ left was. (was.0, was.1, was.2, was.3, was.4, was.5.text, was.7.prefix)) c.run_left_with-in-Report-Turns.ensures.report)

pub returns-in-Report-Turns-clause-refused : goal.returns-in-Report-Turns-clause-refused
returns-in-Report-Turns-clause-refused g c =
    refused_as c.args.options.now.work (works.Report c.in-Report-Turns.field-0) c.args.payloads c.args.script.now c.reported-in-Report-Turns.result c.in-Report-Turns.is
    (refused_by c.run_left_with-in-Report-Turns.result c.reported-in-Report-Turns.result (λ (s : StoppedRun). s.refusal) _ _ c.reported-in-Report-Turns.ensures (λ s h. h) c.run_left_with-in-Report-Turns.ensures.refused)

pub returns-in-Judge-clause-made : goal.returns-in-Judge-clause-made
returns-in-Judge-clause-made g c =
    made_as c.args.options.now.work (works.Judge c.in-Judge.plan) c.args.payloads c.args.script.now c.judge.result (g.W.Write.contents c.args.out.now) (g.W.Write.contents c.judge.new.out) c.in-Judge.is c.judge.ensures.made

pub returns-in-Judge-clause-refused : goal.returns-in-Judge-clause-refused
returns-in-Judge-clause-refused g c = refused_as c.args.options.now.work (works.Judge c.in-Judge.plan) c.args.payloads c.args.script.now c.judge.result c.in-Judge.is c.judge.ensures.refused

pub returns-in-ShowRow-clause-made : goal.returns-in-ShowRow-clause-made
returns-in-ShowRow-clause-made g c =
    made_as c.args.options.now.work (works.ShowRow c.in-ShowRow.row) c.args.payloads c.args.script.now c.all_well.result (g.W.Write.contents c.args.out.now) (g.W.Write.contents c.show_row.new.out) c.in-ShowRow.is (well_made c.show_row.result c.all_well.result _ c.all_well.ensures c.show_row.ensures.shown)

pub returns-in-ShowRow-clause-refused : goal.returns-in-ShowRow-clause-refused
returns-in-ShowRow-clause-refused g c = refused_as c.args.options.now.work (works.ShowRow c.in-ShowRow.row) c.args.payloads c.args.script.now c.all_well.result c.in-ShowRow.is (refused_by c.show_row.result c.all_well.result (λ (e : Refusal). e) _ _ c.all_well.ensures (λ e h. h) c.show_row.ensures.refused)

pub returns-in-Compare-clause-made : goal.returns-in-Compare-clause-made
returns-in-Compare-clause-made g c =
    made_as c.args.options.now.work (works.Compare c.in-Compare.plan) c.args.payloads c.args.script.now c.compare.result (g.W.Write.contents c.args.out.now) (g.W.Write.contents c.compare.new.out) c.in-Compare.is c.compare.ensures.made

pub returns-in-Compare-clause-refused : goal.returns-in-Compare-clause-refused
returns-in-Compare-clause-refused g c = refused_as c.args.options.now.work (works.Compare c.in-Compare.plan) c.args.payloads c.args.script.now c.compare.result c.in-Compare.is c.compare.ensures.refused

pub returns-in-Show-clause-made : goal.returns-in-Show-clause-made
returns-in-Show-clause-made g c =
    made_as c.args.options.now.work (works.Show c.in-Show.drawn) c.args.payloads c.args.script.now c.all_well-in-Show.result (g.W.Write.contents c.args.out.now) (g.W.Write.contents c.show.new.out) c.in-Show.is (well_made c.show.result c.all_well-in-Show.result _ c.all_well-in-Show.ensures c.show.ensures.shown)

pub returns-in-Show-clause-refused : goal.returns-in-Show-clause-refused
returns-in-Show-clause-refused g c = refused_as c.args.options.now.work (works.Show c.in-Show.drawn) c.args.payloads c.args.script.now c.all_well-in-Show.result c.in-Show.is (refused_by c.show.result c.all_well-in-Show.result (λ (e : Refusal). e) _ _ c.all_well-in-Show.ensures (λ e h. h) c.show.ensures.refused)

pub returns-clause-made : goal.returns-clause-made
returns-clause-made g c =
    made_as c.args.options.now.work (works.Shrink c.in-Shrink.drawn) c.args.payloads c.args.script.now c.all_well-in-Shrink.result (g.W.Write.contents c.args.out.now) (g.W.Write.contents c.shrink.new.out) c.in-Shrink.is (well_made c.shrink.result c.all_well-in-Shrink.result _ c.all_well-in-Shrink.ensures c.shrink.ensures.shrunk)

pub returns-clause-refused : goal.returns-clause-refused
returns-clause-refused g c = refused_as c.args.options.now.work (works.Shrink c.in-Shrink.drawn) c.args.payloads c.args.script.now c.all_well-in-Shrink.result c.in-Shrink.is (refused_by c.shrink.result c.all_well-in-Shrink.result (λ (e : Refusal). e) _ _ c.all_well-in-Shrink.ensures (λ e h. h) c.shrink.ensures.refused)
