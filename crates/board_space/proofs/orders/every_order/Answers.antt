use Rattle.board_space.proofs.ByOrders as by
use Rattle.board_space.proofs.Stuck.{settle_leads}
use Rattle.board_space.proofs.orders.every_order.Goals as goal

pub returns-clause-ends : goal.returns-clause-ends
returns-clause-ends g c asked map bound tables graph search all small events last run end =
    by.ends_by c.board_moves.ensures asked map (g.S.StandsFor.stands tables) graph bound search all small events last run end

pub returns-clause-no_dead_end : goal.returns-clause-no_dead_end
returns-clause-no_dead_end g c asked map bound tables graph goals search all small lasts reach events last run =
    by.no_dead_end_by c.board_moves.ensures asked map (g.S.StandsFor.stands tables) graph bound goals search all small lasts reach events last run

pub returns-clause-stuck : goal.returns-clause-stuck
returns-clause-stuck g c asked map bound tables graph goals search small followed k b within lost has can =
    by.lost_by asked map (g.S.StandsFor.stands tables) graph goals small c.board_moves.ensures bound followed search b (k, (within, lost), has) can

pub returns-clause-settles : goal.returns-clause-settles
returns-clause-settles g c asked map b d settles = settle_leads c.board_moves.ensures asked map b d settles

pub returns-clause-ways : goal.returns-clause-ways
returns-clause-ways g c asked map bound tables graph search way row is =
    by.ways_by asked map (g.S.StandsFor.stands tables) graph bound search way row is

pub returns-clause-reached : goal.returns-clause-reached
returns-clause-reached g c asked map bound tables graph search k within =
    by.reached_by c.board_moves.ensures asked map (g.S.StandsFor.stands tables) graph bound search k within
