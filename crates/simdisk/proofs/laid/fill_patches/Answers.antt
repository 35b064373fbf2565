use Rattle.std.proofs.Common.{◌∙◌, length}
use Rattle.disk.specs.WriteLog.{filled}
use Rattle.simdisk.proofs.Walks.{laid_more, fits_read}
use Rattle.simdisk.proofs.laid.fill_patches.Goals as goal

pub fill-requires : goal.fill-requires
fill-requires c =
    rw c.loop-patch.invariant.as_long (fits_read (length c.args.content.now.items) c.args.patches.now c.loop-patch.patch-index c.patch-item.result c.loop-patch-test.true c.patch-item.is c.requires)

pub loop-patch-preserved : goal.loop-patch-preserved
loop-patch-preserved c =
    record {
      rest = laid_more (filled c.args.bytes.now) c.args.patches.now c.loop-patch.patch-index c.patch-item.result c.loop-patch.content.items c.fill.new.content.items _ c.loop-patch-test.true c.patch-item.is c.loop-patch.invariant.rest c.fill.ensures.put;
      as_long = c.fill.ensures.as_long ∙ c.loop-patch.invariant.as_long;
    }
