use Rattle.std.proofs.Common.{◌∙◌, sym}
use Rattle.board_space.proofs.Differing.{both_on, same_doze}
use Rattle.board_space.proofs.board_rows.BoardRows.rest_differs.Goals as goal

pub returns-then-power_differs : goal.returns-then-power_differs
returns-then-power_differs c is n d x first second =
    c.power_differs.ensures c.if-power_differs.true
    (both_on c.args.self.now c.args.row.now c.args.board.now c.args.rest.now c.args.own.now c.requires.rested c.requires.on n d x first second c.requires.own ∙ sym c.requires.on)

pub returns-then-doze_differs : goal.returns-then-doze_differs
returns-then-doze_differs c is n d x first second =
    c.doze_differs.ensures c.if-doze_differs.true
    (same_doze c.args.self.now c.args.row.now c.args.board.now c.args.rest.now c.args.own.now c.requires.rested c.requires.on n d x first second c.requires.own)
