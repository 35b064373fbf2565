use Rattle.board_space.proofs.PutOver.{others_none}
use Rattle.board_space.proofs.row_puts.put_other_harts.Goals as goal

pub loop-place-init : goal.loop-place-init
loop-place-init c = others_none c.args.harts.now.records.items c.args.row.now c.args.board.now c.requires.shown
