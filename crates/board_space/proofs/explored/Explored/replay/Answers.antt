use Rattle.std.proofs.Common.{sym, subst}
use Rattle.board_space.specs.{Few.AskedOrders, Space.Happens}
use Rattle.board_space.proofs.explored.Explored.replay.Goals as goal

pub returns-clause-never : goal.returns-clause-never
returns-clause-never c is e d at did = c.replay.ensures.never is e d at (subst (λ (a : AskedOrders). Happens a.asked e c.args.board.now.board d) (sym c.self.view_is) did)
