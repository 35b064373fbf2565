use Rattle.bench_sweep.proofs.Loaded.{on_found}
use Rattle.bench_sweep.proofs.finds.found_by.Goals as goal

pub returns-in-On : goal.returns-in-On
returns-in-On c = record { told = (on_found c.found_on.result c.args.power c.in-On.board c.args.found c.args.said c.in-On.is c.found_on.ensures.told) }
