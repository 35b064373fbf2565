use Rattle.std.proofs.Common.{◌∙◌, sym}
use Rattle.simdisk.specs.CacheLaws.{length_shown}
use Rattle.simdisk.proofs.cached_disk.CachedDiskDisk.sectors.Goals as goal

pub returns : goal.returns
returns g c = c.sectors.ensures ∙ sym (length_shown _ _ _ c.args.self.now.cached)
