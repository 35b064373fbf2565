use Rattle.state_space.proofs.Bounded.{bounded_orders, can_end_within}
use Rattle.state_space.proofs.preempted.bounded_orders.Goals as goal

pub returns-clause-meets : goal.returns-clause-meets
returns-clause-meets g c set most n start first last w v r events reduction switching turns_go closed chain has rich run =
    let s = g.S.Preemptions in
    bounded_orders s.does s.turn s.by most s.goes s.is_end s.keeps (s.is_in set) s.is_local reduction s.is_off switching turns_go closed n start first last w v r events chain has rich run

pub returns-clause-no_dead_end : goal.returns-clause-no_dead_end
returns-clause-no_dead_end g c set most n start first last w v r events reduction switching turns_go closed each chain has rich run =
    let s = g.S.Preemptions in
    can_end_within s.does s.turn s.by most s.goes s.is_end s.keeps (s.is_in set) each last r
    (bounded_orders s.does s.turn s.by most s.goes s.is_end s.keeps (s.is_in set) s.is_local reduction s.is_off switching turns_go closed n start first last w v r events chain has rich run)
