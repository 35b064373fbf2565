use Rattle.simdisk.proofs.Calls.{join_cached, join_shown}
use Rattle.simdisk.proofs.cached_disk.CachedDiskDisk.join.Goals as goal

pub returns-clause-content : goal.returns-clause-content
returns-clause-content g c =
    join_shown c.args.self.now.queue.waiting.items (g.D.Disk.facts c.args.self.now.queue.device) (g.D.Disk.facts c.join.new.self) _ c.args.self.now.alone c.join.ensures.content

pub invariant_of-self-2-clause-cached : goal.invariant_of-self-2-clause-cached
invariant_of-self-2-clause-cached g c =
    join_cached _ _ (g.D.Disk.facts c.args.self.now.queue.device) (g.D.Disk.facts c.join.new.self) _ c.args.self.now.cached c.join.ensures.content c.join.ensures.back c.join.ensures.crash
