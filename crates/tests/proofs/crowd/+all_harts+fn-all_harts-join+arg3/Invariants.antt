use Rattle.std.proofs.Common.{◌-◌, ◌*◌}
use Rattle.tests.proofs.crowd.+all_harts+fn-all_harts-join+arg3.Given as goal

abbrev pub decreases-all_harts : goal.decreases-all_harts
decreases-all_harts g l = 2 * l.harts

abbrev pub decreases-join+arg3 : goal.decreases-join+arg3
decreases-join+arg3 g l = 2 * l.harts - 1
