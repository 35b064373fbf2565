use Rattle.std.proofs.Common.{[]}
use Rattle.hart_threads.proofs.moments.Moments.none.Given as goal

abbrev pub ghost-picked : goal.ghost-picked
ghost-picked a = []
