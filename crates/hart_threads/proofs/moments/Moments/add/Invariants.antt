use Rattle.std.proofs.Common.{◌++◌}
use Rattle.hart_threads.proofs.moments.Moments.add.Given as goal

abbrev pub ghost-picked : goal.ghost-picked
ghost-picked g a = let passed = a._values.now in passed.0.now.at ++ passed.1.now.at
