use Rattle.std.proofs.Common.{refl}
use Rattle.simdisk.proofs.Kept.{fresh_over}
use Rattle.simdisk.proofs.logged_disk.LoggedDisk.new.Goals as goal

pub returns-clause-fresh : goal.returns-clause-fresh
returns-clause-fresh g c = fresh_over _ (g.D.Disk.facts c.args.device) _ _ refl c.requires c.picked-log.ensures
