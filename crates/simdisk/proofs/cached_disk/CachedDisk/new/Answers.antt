use Rattle.simdisk.proofs.Calls.{fresh_at_first}
use Rattle.simdisk.proofs.cached_disk.CachedDisk.new.Goals as goal

pub returns-clause-fresh : goal.returns-clause-fresh
returns-clause-fresh g c = fresh_at_first _ (g.D.Disk.facts c.args.device) _ _ c.in_ok-waiting.ensures.items c.requires c.picked-log.ensures
