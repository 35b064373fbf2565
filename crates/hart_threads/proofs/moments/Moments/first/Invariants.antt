use Rattle.std.proofs.Common.{[], ◌∷◌}
use Rattle.store.specs.Views.{disk_of}
use Rattle.hart_threads.proofs.moments.Moments.first.Given as goal

abbrev pub ghost-picked : goal.ghost-picked
ghost-picked g a = (disk_of a._values.now).moment ∷ []
