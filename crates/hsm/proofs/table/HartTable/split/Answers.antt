use Rattle.hsm.{specs.Seating.{harts_in, harts_of}, proofs.Lists.in_order_stands}
use Rattle.hsm.proofs.table.HartTable.split.Goals as goal

pub returns-clause-stages : goal.returns-clause-stages
returns-clause-stages c = in_order_stands c.split.result.items (harts_in c.args.seat) (harts_of c.args.self.now) c.split.ensures.apart c.requires.all
