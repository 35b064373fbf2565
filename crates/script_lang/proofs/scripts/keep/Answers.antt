use Rattle.std.proofs.Common.{inl, inr, refl, length, ap, List}
use Rattle.board_model.specs.declared.refusal.Refusal.TheVariants.{Memory}
use Rattle.script_lang.specs.{Lines.IsLineInRange, declared.line.Line.Line}
use Rattle.script_lang.proofs.Reading.{gives_fault, not_ok, sound_few, one_more, all_more, no_more, read_unsound, read_passed, read_fault, read_line}
use Rattle.script_lang.proofs.scripts.keep.Goals as goal

pub returns-then-not-is_sound-clause-value : goal.returns-then-not-is_sound-clause-value
returns-then-not-is_sound-clause-value c = inr (read_unsound c.args.shape.now c.args.n c.args.bytes.now c.args.found.now.items c.if-not-is_sound.ensures)

pub returns-then-not-is_sound-clause-few : goal.returns-then-not-is_sound-clause-few
returns-then-not-is_sound-clause-few c = no_more (length c.args.found.now.items) (length c.args.found.now.items) refl

pub returns-then-not-is_sound-clause-sound : goal.returns-then-not-is_sound-clause-sound
returns-then-not-is_sound-clause-sound c = tt

pub returns-then-not-is_sound-clause-ranges : goal.returns-then-not-is_sound-clause-ranges
returns-then-not-is_sound-clause-ranges c = λ _. tt

pub returns-then-is_passed-clause-value : goal.returns-then-is_passed-clause-value
returns-then-is_passed-clause-value c = read_passed c.args.shape.now c.args.n c.args.bytes.now c.args.found.now.items c.if-not-is_sound.ensures c.if-is_passed.ensures

pub returns-then-is_passed-clause-few : goal.returns-then-is_passed-clause-few
returns-then-is_passed-clause-few c = no_more (length c.args.found.now.items) (length c.args.found.now.items) refl

pub returns-then-is_passed-clause-sound : goal.returns-then-is_passed-clause-sound
returns-then-is_passed-clause-sound c = sound_few c.args.n c.args.bytes.now c.if-not-is_sound.ensures

pub returns-then-is_passed-clause-ranges : goal.returns-then-is_passed-clause-ranges
returns-then-is_passed-clause-ranges c = λ each. each

pub returns-in_err-line-clause-value : goal.returns-in_err-line-clause-value
returns-in_err-line-clause-value c =
    gives_fault (λ (u : Unit {0}). c.args.found.now.items) c.from_residual.result _ c.in_err-line.field-0.0 c.from_residual.ensures.1
    (read_fault c.args.shape.now c.args.n c.args.bytes.now c.args.found.now.items c.if-not-is_sound.ensures c.if-is_passed.ensures c.in_err-line.field-0.0 c.in_err-line.ensures.value)

pub returns-in_err-line-clause-few : goal.returns-in_err-line-clause-few
returns-in_err-line-clause-few c = no_more (length c.args.found.now.items) (length c.args.found.now.items) refl

pub returns-in_err-line-clause-sound : goal.returns-in_err-line-clause-sound
returns-in_err-line-clause-sound c = not_ok c.from_residual.result _ c.from_residual.ensures.0

pub returns-in_err-line-clause-ranges : goal.returns-in_err-line-clause-ranges
returns-in_err-line-clause-ranges c = λ _. not_ok c.from_residual.result _ c.from_residual.ensures.0

pub returns-in_err-push-clause-value : goal.returns-in_err-push-clause-value
returns-in_err-push-clause-value c = gives_fault (λ (u : Unit {0}). c.push.new.self.items) c.from_residual-in_err-push.result _ Memory c.from_residual-in_err-push.ensures.1 (inl refl)

pub returns-in_err-push-clause-few : goal.returns-in_err-push-clause-few
returns-in_err-push-clause-few c = no_more (length c.push.new.self.items) (length c.args.found.now.items) (ap (λ (l : List Line). length l) c.in_err-push.ensures.items)

pub returns-in_err-push-clause-sound : goal.returns-in_err-push-clause-sound
returns-in_err-push-clause-sound c = not_ok c.from_residual-in_err-push.result _ c.from_residual-in_err-push.ensures.0

pub returns-in_err-push-clause-ranges : goal.returns-in_err-push-clause-ranges
returns-in_err-push-clause-ranges c = λ _. not_ok c.from_residual-in_err-push.result _ c.from_residual-in_err-push.ensures.0

pub returns-clause-value : goal.returns-clause-value
returns-clause-value c =
    read_line c.args.shape.now c.args.n c.args.bytes.now c.args.found.now.items c.if-not-is_sound.ensures c.if-is_passed.ensures
    c.in_ok-line.line c.push.new.self.items c.in_ok-line.ensures.value c.in_ok-push.ensures.items

pub returns-clause-few : goal.returns-clause-few
returns-clause-few c = one_more c.args.found.now.items c.push.new.self.items c.in_ok-line.line c.in_ok-push.ensures.items

pub returns-clause-sound : goal.returns-clause-sound
returns-clause-sound c = sound_few c.args.n c.args.bytes.now c.if-not-is_sound.ensures

pub returns-clause-ranges : goal.returns-clause-ranges
returns-clause-ranges c = λ each. all_more c.args.found.now.items c.push.new.self.items c.in_ok-line.line c.in_ok-push.ensures.items (IsLineInRange c.args.shape.now) each c.in_ok-line.ensures.range
