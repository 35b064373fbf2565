use Rattle.std.proofs.Common.{rules, ◌≡◌}
use Rattle.model_board.specs.declared.powers.Power.TheVariants as powers
use Rattle.board_space.proofs.Seen.{awake_by}
use Rattle.board_space.proofs.board_rows.BoardRows.is_awake.Goals as goal

pub returns-in-None : goal.returns-in-None
returns-in-None c is b stands =
    let on : c.get-rest.result.now.power ≡ powers.On = search rules in
    awake_by c.args.self.now c.args.row.now b c.get-rest.result.now c.get-rest.ensures on c.in-None.is stands
