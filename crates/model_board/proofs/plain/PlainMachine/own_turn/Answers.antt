use Rattle.model_board.proofs.Kept.{turn_kept, plain_with, own_done}
use Rattle.model_board.proofs.plain.PlainMachine.own_turn.Goals as goal

pub invariant_of-self : goal.invariant_of-self
invariant_of-self c =
    let k = turn_kept c.step_keeps_number.ensures _ _ _ _ c.turn.ensures in
    plain_with _ _ _ _ _ _ _ _ _ _ _ _ c.self.view_is c.self.invariant c.index.ensures.value c.requires c.index_mut.ensures.value k.number k.states k.memory

pub returns-clause-turn : goal.returns-clause-turn
returns-clause-turn c = own_done _ _ _ _ _ _ _ _ _ _ _ _ _ c.self.view_is c.self.invariant c.index.ensures.value c.requires c.index_mut.ensures.value c.turn.ensures
