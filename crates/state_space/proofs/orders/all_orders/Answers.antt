use Rattle.state_space.proofs.AllOrders.{all_orders, can_end}
use Rattle.state_space.proofs.orders.all_orders.Goals as goal

pub returns-clause-meets : goal.returns-clause-meets
returns-clause-meets g c set n start first last events reduction turns_go closed chain has run =
    let s = g.S.Orders in
    all_orders s.does s.turn s.is_end s.keeps s.is_local reduction s.goes turns_go (s.is_in set) closed n start first last events chain has run

pub returns-clause-no_dead_end : goal.returns-clause-no_dead_end
returns-clause-no_dead_end g c set n start first last events reduction turns_go closed each chain has run =
    let s = g.S.Orders in
    can_end s.does s.goes s.is_end s.keeps (s.is_in set) each last
    (all_orders s.does s.turn s.is_end s.keeps s.is_local reduction s.goes turns_go (s.is_in set) closed n start first last events chain has run)
