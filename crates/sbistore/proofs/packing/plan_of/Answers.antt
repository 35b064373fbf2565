use Rattle.sbistore.proofs.Packed.{at_gate, at_record}
use Rattle.sbistore.proofs.packing.plan_of.Goals as goal

pub returns-in-3-clause-exact : goal.returns-in-3-clause-exact
returns-in-3-clause-exact c = at_gate c.args.store.now c.reading_gate.result c.in-3.is c.reading_gate.ensures

pub returns-in-4-clause-exact : goal.returns-in-4-clause-exact
returns-in-4-clause-exact c = at_record c.args.store.now c.reading_record.result c.in-4.is c.reading_record.ensures
