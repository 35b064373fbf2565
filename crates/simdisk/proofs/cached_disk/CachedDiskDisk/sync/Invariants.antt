use Rattle.std.proofs.Common.{◌∷◌, []}
use Rattle.disk.specs.WriteLog.{more_synced, lent_piece}
use Rattle.simdisk.proofs.cached_disk.CachedDiskDisk.sync.Given as goal

abbrev pub ghost-picked : goal.ghost-picked
ghost-picked g a =
    let passed = a._values.now in
    let device = g.D.Disk.facts passed.1.now in
    more_synced device.content (lent_piece device.lent device.content ∷ []) passed.0.now.log
