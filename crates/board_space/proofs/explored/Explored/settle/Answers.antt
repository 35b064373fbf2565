use Rattle.std.proofs.Common.{false, subst}
use Rattle.board_model.specs.Shapes.{Size}
use Rattle.board_space.{specs.{Mapped.map_in, Space.SettlesSure}, proofs.Covered.sure_settles}
use Rattle.board_space.proofs.explored.Explored.settle.Goals as goal

pub returns-in-Some-clause-turns : goal.returns-in-Some-clause-turns
returns-in-Some-clause-turns c same =
    c.every_order.ensures.settles c.args.self.now.asked (map_in c.map.result.now) c.args.board.now.board c.settle_one.new.board.board
    (sure_settles c.args.self.now.asked.size (map_in c.map.result.now) c.args.board.now.board c.settle_one.new.board.board (subst (λ (s : Size). SettlesSure s (map_in c.map.result.now) false c.args.board.now.board c.settle_one.new.board.board) same c.settle_one.ensures.settles))
