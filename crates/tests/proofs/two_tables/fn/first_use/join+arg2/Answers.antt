use Rattle.hsm.specs.declared.view.Stage.TheVariants.{Running}
use Rattle.tests.proofs.two_tables.fn.first_use.join+arg2.Goals as goal

pub status-requires : goal.status-requires
status-requires c = record {
  seat = c.requires.0;
  acts = (Running, rw c.hart.ensures c.requires.1);
  hart = rw c.hart-2.ensures c.requires.2;
}
