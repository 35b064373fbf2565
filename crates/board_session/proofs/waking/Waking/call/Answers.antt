use Rattle.board_session.proofs.Rousing.{may, wakes}
use Rattle.board_session.proofs.waking.Waking.call.Goals as goal

pub returns-clause-wakes : goal.returns-clause-wakes
returns-clause-wakes g c =
    let w = c.wake-answered in
    wakes w.result c.args.bus.now.bus w.new.self.bus w.ensures.ok w.ensures.memory w.ensures.woken w.ensures.refused

pub returns-clause-may : goal.returns-clause-may
returns-clause-may g c = let w = c.wake-answered in may w.result c.args.bus.now.bus w.new.self.bus w.ensures.refused
