use Rattle.std.proofs.{Common.{sym, ◌∙◌, refl}, lemmas.Result.IfOk-from_err}
use Rattle.bench_report.specs.Bench.{Bench}
use Rattle.simdisk.specs.declared.fill.Fill.TheVariants as fills
use Rattle.debug_session.{specs.{Lives.Rests, Passes.GoesTo}, proofs.Timelines.row_left}
use Rattle.debug_session.proofs.timeline.Timeline.turns_to.Goals as goal

pub returns-clause-at : goal.returns-clause-at
returns-clause-at g c =
    let size = c.args.setting.now.shape.now in
    let at = c.requires.at in
    let row = c.turns_to-row in
    let note = c.in_ok-self.ensures in
    let old = c.args.self.now in
    let Also : Bench → Bench → Type 0 = λ b x. Rests size c.args.hart row.result.1 x × GoesTo size c.args.hart c.args.points.now row.result.0 b x in
    let did = row_left size c.args.hart row.result.0 old.begins old.history c.note.new.history old.joins _ old.bench row.new.bench Also (note.left size) (λ b shows. (let d = row.ensures.reported size b shows in (d.0, d.1, (d.3, d.4), d.2))) at.left.0 at.left.1 in
    record {
      left = (did.0, did.3);
      sound = row.ensures.sound;
      fill = row.ensures.fill ∙ at.fill ∙ sym (note.fill fills.Old);
      ranges = note.ranges size c.requires.hart at.ranges;
    }

pub returns-clause-made : goal.returns-clause-made
returns-clause-made g c =
    let size = c.args.setting.now.shape.now in
    let row = c.turns_to-row in
    let note = c.in_ok-self.ensures in
    let old = c.args.self.now in
    let Also : Bench → Bench → Type 0 = λ b x. Rests size c.args.hart row.result.1 x × GoesTo size c.args.hart c.args.points.now row.result.0 b x in
    let did = row_left size c.args.hart row.result.0 old.begins old.history c.note.new.history old.joins _ old.bench row.new.bench Also (note.left size) (λ b shows. (let d = row.ensures.reported size b shows in (d.0, d.1, (d.3, d.4), d.2))) in
    record {
      moves = λ b left. (let one = did b left in (one.0, one.1, one.3, one.2.0, one.2.1));
      grew = note.moments;
      busy = row.ensures.busy;
    }

pub turns_to-row-requires-clause-most : goal.turns_to-row-requires-clause-most
turns_to-row-requires-clause-most g c κs within = c.requires.most

pub turns_to-row-requires-clause-sound : goal.turns_to-row-requires-clause-sound
turns_to-row-requires-clause-sound g c κs within = c.requires.at.sound

pub returns-in_err-self-clause-begins : goal.returns-in_err-self-clause-begins
returns-in_err-self-clause-begins g c = refl

pub returns-clause-begins : goal.returns-clause-begins
returns-clause-begins g c = refl

pub returns-clause-within : goal.returns-clause-within
returns-clause-within g c = c.turns_to-row.ensures.range

pub returns-clause-why : goal.returns-clause-why
returns-clause-why g c = λ e. c.turns_to-row.ensures.why e c.args.setting.now.shape.now c.requires.at.left.0 c.requires.at.left.1.2

pub returns-in_err-self-clause-at : goal.returns-in_err-self-clause-at
returns-in_err-self-clause-at g c = IfOk-from_err c.from_residual.result _ c.from_residual.ensures.0

pub returns-in_err-self-clause-made : goal.returns-in_err-self-clause-made
returns-in_err-self-clause-made g c = IfOk-from_err c.from_residual.result _ c.from_residual.ensures.0

pub returns-in_err-self-clause-within : goal.returns-in_err-self-clause-within
returns-in_err-self-clause-within g c = IfOk-from_err c.from_residual.result _ c.from_residual.ensures.0

pub returns-in_err-self-clause-why : goal.returns-in_err-self-clause-why
returns-in_err-self-clause-why g c = IfOk-from_err c.from_residual.result _ c.from_residual.ensures.0
