use Rattle.std.proofs.{Common.{List, [], get_or, refl, sym, ap, ◌∙◌, subst, arith}, lemmas.{List.take_all, Result.IfOk-from_err}}
use Rattle.report_lines.specs.declared.printed.Answer.{Answer}
use Rattle.bench_report.{specs.{Agree.fill_after, Bench.{Bench, bench_with}, Steps.Moves, Lives.Shows}, proofs.RunLines.fills_more}
use Rattle.script_lang.specs.declared.line.Line.{Line}
use Rattle.debug_session.{specs.Ats.GoesOnBy, proofs.Timelines.{Left, again_more}}
use Rattle.debug_session.proofs.replays.replay_all.Goals as goal

pub loop-line-init : goal.loop-line-init
loop-line-init g c = record { left = λ begins shows. (bench_with begins, (([], refl), tt, shows)); sound = c.requires.sound; fill = refl }

pub loop-line-preserved : goal.loop-line-preserved
loop-line-preserved g c =
    let size = c.args.setting.now.shape.now in
    let lines = c.args.lines.now in
    let i = c.loop-line.line-index in
    let d = c.line-item.result in
    let did = c.in_ok-joins in
    let begin = c.args.bench.now.fill in
    let P : Line → Type 0 = λ line. (b : Bench) → Shows size b c.loop-line.bench → (x : Answer) × (x' : Bench) × Moves size line b x x' × Shows size x' c.replay.new.bench × GoesOnBy size did.joins line b x' in
    record {
      left = λ begins shows. again_more size begins lines i d c.loop-line.joins did.joins c.loop-line.bench c.replay.new.bench c.loop-line-test.true (subst P c.line-item.is did.ensures.moves) (c.loop-line.invariant.left begins shows);
      sound = did.ensures.sound;
      fill = did.ensures.fill ∙ ap (λ (line : Line). fill_after line c.loop-line.bench.fill) c.line-item.is ∙ ap (fill_after (get_or lines i d)) c.loop-line.invariant.fill ∙ sym (fills_more lines i d begin c.loop-line-test.true);
    }

pub returns-clause-left : goal.returns-clause-left
returns-clause-left g c = λ begins shows.
    let P : List Line → Type 0 = λ xs. (b : Bench) × Left c.args.setting.now.shape.now begins xs c.loop-line.joins c.loop-line.bench b in
    let left = subst P (take_all c.loop-line.line-index c.args.lines.now (omega (arith, c.loop-line-test.false))) (c.loop-line.invariant.left begins shows) in
    (left.0, left.1.0, left.1.1, left.1.2)

pub replay-requires-clause-sound : goal.replay-requires-clause-sound
replay-requires-clause-sound g c κs within = c.loop-line.invariant.sound

pub returns-clause-sound : goal.returns-clause-sound
returns-clause-sound g c = c.loop-line.invariant.sound

pub returns-in_err-joins-clause-left : goal.returns-in_err-joins-clause-left
returns-in_err-joins-clause-left g c = IfOk-from_err c.from_residual.result _ c.from_residual.ensures.0

pub returns-in_err-joins-clause-sound : goal.returns-in_err-joins-clause-sound
returns-in_err-joins-clause-sound g c = IfOk-from_err c.from_residual.result _ c.from_residual.ensures.0

pub returns-in_err-joins-clause-fill : goal.returns-in_err-joins-clause-fill
returns-in_err-joins-clause-fill g c = IfOk-from_err c.from_residual.result _ c.from_residual.ensures.0
