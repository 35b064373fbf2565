use Rattle.std.proofs.{Common.{refl, sym, ◌∙◌}, lemmas.Result.IfOk-from_err}
use Rattle.bench_report.specs.{Bench.Bench, Steps.Moves, Rows.row_answer}
use Rattle.script_lang.specs.declared.line.Line.TheVariants as lines
use Rattle.simdisk.specs.declared.fill.Fill.TheVariants as fills
use Rattle.debug_session.proofs.Timelines.{row_left}
use Rattle.debug_session.proofs.timeline.Timeline.turns.Goals as goal

pub returns-clause-at : goal.returns-clause-at
returns-clause-at g c =
    let size = c.args.setting.now.shape.now in
    let at = c.requires.at in
    let row = c.turns-row in
    let note = c.in_ok-self.ensures in
    let old = c.args.self.now in
    let Also : Bench → Bench → Type 0 = λ b x. Moves size (lines.Turn c.args.hart c.args.count) b (row_answer c.args.hart row.result) x in
    let did = row_left size c.args.hart row.result old.begins old.history c.note.new.history old.joins _ old.bench row.new.self Also (note.left size) (λ b shows. row.ensures.reported size b shows) at.left.0 at.left.1 in
    record {
      left = (did.0, did.3);
      sound = row.ensures.sound;
      fill = row.ensures.fill ∙ at.fill ∙ sym (note.fill fills.Old);
      ranges = note.ranges size c.requires.hart at.ranges;
    }

pub returns-clause-ran : goal.returns-clause-ran
returns-clause-ran g c =
    let size = c.args.setting.now.shape.now in
    let row = c.turns-row in
    let note = c.in_ok-self.ensures in
    let old = c.args.self.now in
    let Also : Bench → Bench → Type 0 = λ b x. Moves size (lines.Turn c.args.hart c.args.count) b (row_answer c.args.hart row.result) x in
    let did = row_left size c.args.hart row.result old.begins old.history c.note.new.history old.joins _ old.bench row.new.self Also (note.left size) (λ b shows. row.ensures.reported size b shows) in
    record {
      moves = λ b left. (let one = did b left in (one.0, one.2, one.3));
      noted = (row.result, row.ensures.range, refl, note.moments);
    }

pub turns-row-requires-clause-sound : goal.turns-row-requires-clause-sound
turns-row-requires-clause-sound g c κs within = c.requires.at.sound

pub returns-in_err-self-clause-begins : goal.returns-in_err-self-clause-begins
returns-in_err-self-clause-begins g c = refl

pub returns-clause-begins : goal.returns-clause-begins
returns-clause-begins g c = refl

pub returns-in_err-self-clause-at : goal.returns-in_err-self-clause-at
returns-in_err-self-clause-at g c = IfOk-from_err c.from_residual.result _ c.from_residual.ensures.0

pub returns-in_err-self-clause-ran : goal.returns-in_err-self-clause-ran
returns-in_err-self-clause-ran g c = IfOk-from_err c.from_residual.result _ c.from_residual.ensures.0
