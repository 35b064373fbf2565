use Rattle.model_board.proofs.Begins.{known_then, turned_up, refused_so}
use Rattle.model_board.proofs.board.Board.refused.Goals as goal

pub invariant_of-self : goal.invariant_of-self
invariant_of-self c = known_then c.self.inside.machine c.turn_refused-settled.new.machine _ _ c.turn_refused-settled.ensures.size c.turn_refused-settled.ensures.sleeper c.settle.ensures.known

pub returns-else-self-clause-refused : goal.returns-else-self-clause-refused
returns-else-self-clause-refused c = λ asked payload.
    let x = c.turn_refused-settled.ensures.asked asked in
    refused_so _ _ _ _ _ _ _ _ _ _ c.self.view_is c.in-On.is c.settle.ensures.board _ _ (c.turn_refused-settled.ensures.fell asked) c.if-self.false x.0 x.1

pub returns-else-self-clause-turns : goal.returns-else-self-clause-turns
returns-else-self-clause-turns c = λ none payload.
    let x = c.turn_refused-settled.ensures.none none in
    turned_up _ _ _ _ _ _ _ _ _ _ c.self.view_is c.in-On.is c.settle.ensures.board _ (c.turn_refused-settled.ensures.up none) c.if-self.false x.1
