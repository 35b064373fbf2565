use Rattle.model_board.proofs.Outside.{by_doze}
use Rattle.std.proofs.Common.{None}
use Rattle.model_board.proofs.plain.PlainMachine.turn.Goals as goal

pub returns-in-None-clause-outside : goal.returns-in-None-clause-outside
returns-in-None-clause-outside c = λ map keeps.
    by_doze map None c.args.hart c.args.self.now c.own_turn.new.self c.own_turn.result keeps c.own_turn.ensures.turn
