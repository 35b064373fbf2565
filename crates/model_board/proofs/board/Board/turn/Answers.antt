use Rattle.std.proofs.Common.{refl}
use Rattle.model_board.proofs.Begins.{known_then, turned}
use Rattle.model_board.proofs.board.Board.turn.Goals as goal

pub invariant_of-self : goal.invariant_of-self
invariant_of-self c = known_then c.self.inside.machine c.turn_by-settled.new.machine _ _ c.turn_by-settled.ensures.size c.turn_by-settled.ensures.sleeper c.settle.ensures.known

pub returns-in-On-clause-turns : goal.returns-in-On-clause-turns
returns-in-On-clause-turns c = λ payload. turned _ _ _ _ _ _ _ _ _ _ c.self.view_is c.in-On.is c.settle.ensures.board _ refl c.turn_by-settled.ensures.settles
