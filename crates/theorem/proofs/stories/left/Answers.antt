use Rattle.std.proofs.Common.{subst}
use Rattle.simdisk.specs.contracts.device.SimDiskDisk.TheImpl as sim_disk
use Rattle.store.specs.Views.{view_of}
use Rattle.theorem.{specs.{Told.IsAt, declared.power.Power.Power}, proofs.Opens.{as_off, parted}}
use Rattle.theorem.proofs.stories.left.Goals as goal

pub returns-in-Off-clause-off : goal.returns-in-Off-clause-off
returns-in-Off-clause-off c = λ size w at.
    let P : Power → Type 0 = λ p. IsAt size w p in
    as_off size w _ _ (subst P c.in-Off.is at)

pub returns-in-On-clause-off : goal.returns-in-On-clause-off
returns-in-On-clause-off c = λ size w at.
    let P : Power → Type 0 = λ p. IsAt size w p in
    parted size w (view_of c.in-On.store) (sim_disk.ghosts.facts c.into_disk.result) (sim_disk.ghosts.fault_state c.into_disk.result) (subst P c.in-On.is at) c.into_disk.ensures.fault_state c.into_disk.ensures.up c.into_disk.ensures.down
