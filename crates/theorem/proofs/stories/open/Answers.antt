use Rattle.simdisk.specs.contracts.device.SimDiskDisk.TheImpl as sim_disk
use Rattle.store.specs.Views.{view_of}
use Rattle.theorem.proofs.Opens.{opens, refuses}
use Rattle.theorem.proofs.stories.open.Goals as goal

pub returns-in-Ok : goal.returns-in-Ok
returns-in-Ok c = λ size w off. opens size w _ _ (view_of c.in-Ok.store) c.found-found.result off c.in-Ok.ensures.opened c.in-Ok.ensures.cause c.found-found.ensures

pub returns-in-Err : goal.returns-in-Err
returns-in-Err c = λ size w off.
    let goes = c.kept_disks.ensures.goes_on c.args.disk c.in-Err.disk c.in-Err.ensures.settles.any_moment.now in
    refuses size w (sim_disk.ghosts.facts c.args.disk) (sim_disk.ghosts.facts c.in-Err.disk) _ _ c.in-Err.refusal off
    (c.kept_disks.ensures.opens c.args.disk c.in-Err.disk size c.in-Err.refusal off.kept c.in-Err.ensures.refused) c.in-Err.ensures.cause (goes.1 size off.kept) goes.2
