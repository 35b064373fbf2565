use Rattle.store.proofs.States.{up_leaves}
use Rattle.planned_store.proofs.laws.open_stores_stand.Goals as goal

pub returns : goal.returns
returns g c disk store holds is_up = up_leaves (g.D.Disk.facts disk) store.selected.shape store.selected.side store.selected.live (holds.up is_up)
