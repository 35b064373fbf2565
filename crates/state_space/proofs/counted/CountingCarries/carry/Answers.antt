use Rattle.state_space.proofs.Spending.{stays_counted}
use Rattle.state_space.proofs.counted.CountingCarries.carry.Goals as goal

pub returns-clause-stays : goal.returns-clause-stays
returns-clause-stays g c = stays_counted (g.S.System.stands c.args.self.now.system) (g.S.System.stands c.carry.new.self) c.carry.ensures.stays

pub returns-in_err-carry-clause-stays : goal.returns-in_err-carry-clause-stays
returns-in_err-carry-clause-stays g c = stays_counted (g.S.System.stands c.args.self.now.system) (g.S.System.stands c.carry.new.self) c.carry.ensures.stays

pub returns-in_err-insert-clause-stays : goal.returns-in_err-insert-clause-stays
returns-in_err-insert-clause-stays g c = stays_counted (g.S.System.stands c.args.self.now.system) (g.S.System.stands c.carry.new.self) c.carry.ensures.stays
