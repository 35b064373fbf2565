use Rattle.std.{proofs.Common.{rules, ◌<◌, ◌^◌, length}, specs.Prelude.slice_index}
use Rattle.board_space.proofs.Putting.{values_none, values_more}
use Rattle.board_space.proofs.board_rows.put_values.Goals as goal

pub loop-place-init : goal.loop-place-init
loop-place-init c = values_none c.args.words.now c.args.values.now c.args.board.now c.requires.shown

pub loop-place-preserved : goal.loop-place-preserved
loop-place-preserved c =
    let low : c.loop-place.place < length c.args.words.now = search rules in
    let small : slice_index c.args.values.now c.loop-place.place < 2 ^ 64 = search rules in
    values_more c.args.words.now c.args.values.now c.args.board.now c.loop-place.board c.put_word.new.self c.loop-place.place c.loop-place.invariant low small c.put_word.ensures.word c.put_word.ensures.others
