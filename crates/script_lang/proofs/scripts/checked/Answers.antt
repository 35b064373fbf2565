use Rattle.std.proofs.Common.{Result, inr, subst}
use Rattle.board_model.specs.declared.refusal.Refusal.{Refusal}
use Rattle.script_lang.{specs.{Scripts.{Gives, Script}, Views.view}, proofs.Reading.{sound_few, one_past}}
use Rattle.script_lang.proofs.Rest.{next_few, no_board_line, unsound_first, passed_first, board_first}
use Rattle.script_lang.proofs.scripts.checked.Goals as goal

pub returns-then-not-is_sound-clause-value : goal.returns-then-not-is_sound-clause-value
returns-then-not-is_sound-clause-value c = inr (unsound_first c.loop-i.n c.loop-i.i c.args.lines.now c.loop-i.invariant.same c.loop-i-test.true c.if-not-is_sound.ensures)

pub after_board-requires-clause-low : goal.after_board-requires-clause-low
after_board-requires-clause-low c = c.loop-i.invariant.some

pub after_board-requires-clause-high : goal.after_board-requires-clause-high
after_board-requires-clause-high c = sound_few c.loop-i.n _ c.if-not-is_sound.ensures

pub returns-then-not-is_passed-clause-value : goal.returns-then-not-is_passed-clause-value
returns-then-not-is_passed-clause-value c =
    subst (λ (r : Result Script Refusal). Gives view c.after_board.result r)
    (board_first c.loop-i.n c.loop-i.i c.args.lines.now c.loop-i.invariant.same c.loop-i-test.true c.if-not-is_sound.ensures c.if-not-is_passed.ensures) c.after_board.ensures.value

pub returns-then-not-is_passed-clause-few : goal.returns-then-not-is_passed-clause-few
returns-then-not-is_passed-clause-few c = c.after_board.ensures.few

pub returns-then-not-is_passed-clause-ranges : goal.returns-then-not-is_passed-clause-ranges
returns-then-not-is_passed-clause-ranges c = c.after_board.ensures.ranges

pub loop-i-preserved : goal.loop-i-preserved
loop-i-preserved c = record {
  some = one_past c.loop-i.n;
  few = next_few c.loop-i.n (sound_few c.loop-i.n _ c.if-not-is_sound.ensures);
  same = passed_first c.loop-i.n c.loop-i.i c.args.lines.now c.loop-i.invariant.same c.loop-i-test.true c.if-not-is_sound.ensures c.if-not-is_passed.ensures;
}

pub returns-clause-value : goal.returns-clause-value
returns-clause-value c = inr (no_board_line c.loop-i.n c.loop-i.i c.args.lines.now c.loop-i.invariant.same c.loop-i-test.false)
