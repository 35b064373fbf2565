use Rattle.disk.specs.WriteLog.{new_log}
use Rattle.simdisk.proofs.logged_disk.LoggedDisk.new.Given as goal

abbrev pub ghost-picked : goal.ghost-picked
ghost-picked g a = new_log (g.D.Disk.facts a._values.now).content
