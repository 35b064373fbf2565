use denote.Param.Send.{sendable}
use Rattle.simdisk.proofs.Crossing.{sim_disk}
use Rattle.tests.proofs.boards.driven_as.Goals as goal

pub drive-done-requires-send-D : goal.drive-done-requires-send-D
drive-done-requires-send-D g c κs within = search (sim_disk, sendable) depth 16
