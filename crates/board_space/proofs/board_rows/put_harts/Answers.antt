use Rattle.board_space.proofs.Putting.{harts_none}
use Rattle.board_space.proofs.board_rows.put_harts.Goals as goal

pub loop-place-init : goal.loop-place-init
loop-place-init c = harts_none c.args.harts.now.records.items c.args.row.now c.args.board.now c.requires.shown
