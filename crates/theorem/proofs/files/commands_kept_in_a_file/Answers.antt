use Rattle.simdisk.specs.contracts.device.SimDiskDisk.TheImpl as sim_disk
use Rattle.theorem.proofs.Filed.{keeps}
use Rattle.theorem.proofs.files.commands_kept_in_a_file.Goals as goal

pub returns : goal.returns
returns g c = λ size s stands.
    let row = c.commands_in_a_row-acknowledged.ensures in
    keeps c.content_determines_state.ensures.one (sim_disk.ghosts.facts c.args.memory) _ size s c.requires.fresh c.in_ok-disk.ensures.same stands _ _ _ _ _ _ c.requires.first_moment c.in-Ok.ensures.opened c.in-Ok.ensures.settles
    row.wherever_power_fails row.holds_every_acknowledged_one c.into_disk.ensures.facts _ c.into_file.ensures.now c.into_file.ensures.ever
