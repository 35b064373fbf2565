use Rattle.store.proofs.Loading.{whole_loads}
use Rattle.store.proofs.laws.whole_images_load.Goals as goal

pub returns : goal.returns
returns g c old new size s memory e is whole fits why = whole_loads size s memory (g.D.Disk.facts old) (g.D.Disk.fault_state old) e (g.D.Disk.facts new) (g.D.Disk.fault_state new) is whole fits why
