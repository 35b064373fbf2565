-- The disk in memory may cross threads: what its write log remembers for contracts alone is no data.
use denote.Param.Send.{IsSend, recorded_send, sendable, struct_send}
use denote.Struct.Declared.{shape}
use Rattle.std.proofs.Crossing.{crosses}
use Rattle.disk.specs.contracts.log.Log as Log
use Rattle.simdisk.specs.contracts.remembered.Remembered as Remembered
use Rattle.simdisk.specs.contracts.history.History as History
use Rattle.simdisk.specs.contracts.patch.Patch as Patch
use Rattle.simdisk.specs.contracts.latest.Latest as Latest
use Rattle.simdisk.specs.contracts.loan.Loan as Loan
use Rattle.simdisk.specs.contracts.faults.Faults as Faults
use Rattle.simdisk.specs.contracts.sim.SimDisk as SimDisk

log : IsSend (Log.the_field).row
log = record { owned = λ d vs. ((λ vss. (tt, ((λ uss. (tt, tt)), tt))), tt); leaving = λ k f vs. tt }

remembered : IsSend (Remembered.the_field).row
remembered = search (log, crosses, sendable) depth 20

patch : IsSend (Patch.the_field).row
patch = search (remembered, crosses, sendable) depth 20

latest : IsSend (Latest.the_field).row
latest = search (crosses, sendable) depth 20

history : IsSend (History.the_field).row
history = search (remembered, patch, latest, crosses, sendable) depth 20

loan : IsSend (Loan.the_field).row
loan = search (crosses, sendable) depth 20

faults : IsSend (Faults.the_field).row
faults = search (crosses, sendable) depth 20

disk_fields : IsSend (SimDisk.the_field).row
disk_fields =
    struct_send (shape SimDisk.the_type)
    (search (crosses, sendable), (search (crosses, sendable) depth 20, (history, (latest, (search sendable, (search sendable, (search (crosses, sendable) depth 20, (search sendable, (loan, (faults, (remembered, tt)))))))))))

pub sim_disk : IsSend SimDisk.the_row
sim_disk = recorded_send _ _ _ SimDisk.the_type.to_one disk_fields
