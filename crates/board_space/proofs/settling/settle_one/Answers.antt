use Rattle.std.proofs.Common.{◌∙◌, subst}
use Rattle.board_model.specs.Shapes.{Size}
use Rattle.board_space.{specs.{Mapped.map_in, Space.SettlesSure}, proofs.Chains.settles_on}
use Rattle.board_space.proofs.settling.settle_one.Goals as goal

pub returns-clause-settles : goal.returns-clause-settles
returns-clause-settles c =
    let map = map_in c.args.map.now in
    let a = c.args.board.now.board in
    let b = c.run-turns.new.board.board in
    let d = c.go_round-round.new.board.board in
    let e = c.run_to.new.board.board in
    let one = c.run-turns.ensures.size in
    let two = c.go_round-round.ensures.size ∙ one in
    settles_on c.args.board.now.size map c.args.leaves a d e
    (settles_on c.args.board.now.size map c.args.leaves a b d c.run-turns.ensures.settles (subst (λ (s : Size). SettlesSure s map c.args.leaves b d) one c.go_round-round.ensures.settles))
    (subst (λ (s : Size). SettlesSure s map c.args.leaves d e) two c.run_to.ensures.settles)
