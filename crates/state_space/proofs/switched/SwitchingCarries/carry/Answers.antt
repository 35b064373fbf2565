use Rattle.state_space.proofs.Priced.{stays_within}
use Rattle.state_space.proofs.switched.SwitchingCarries.carry.Goals as goal

pub returns-clause-stays : goal.returns-clause-stays
returns-clause-stays g c = stays_within (g.S.System.stands c.args.self.now.system) (g.S.System.stands c.carry.new.self) c.carry.ensures.stays

pub returns-in_err-carry-clause-stays : goal.returns-in_err-carry-clause-stays
returns-in_err-carry-clause-stays g c = stays_within (g.S.System.stands c.args.self.now.system) (g.S.System.stands c.carry.new.self) c.carry.ensures.stays

pub returns-in_err-put_first-clause-stays : goal.returns-in_err-put_first-clause-stays
returns-in_err-put_first-clause-stays g c = stays_within (g.S.System.stands c.args.self.now.system) (g.S.System.stands c.carry.new.self) c.carry.ensures.stays
