use Rattle.std.proofs.Common.{◌∙◌, length, sym}
use Rattle.disk.specs.WriteLog.{piece_in}
use Rattle.simdisk.proofs.Walks.{laid_more, fits_read}
use Rattle.simdisk.proofs.laid.copy_patches.Goals as goal

pub copy-requires-clause-as_long : goal.copy-requires-clause-as_long
copy-requires-clause-as_long c =
    c.requires.as_long ∙ sym c.loop-patch.invariant.as_long

pub copy-requires-clause-within : goal.copy-requires-clause-within
copy-requires-clause-within c =
    rw c.requires.as_long (fits_read (length c.args.stood.now.items) c.args.patches.now c.loop-patch.patch-index c.patch-item.result c.loop-patch-test.true c.patch-item.is c.requires.fits)

pub loop-patch-preserved : goal.loop-patch-preserved
loop-patch-preserved c =
    record {
      rest = laid_more (piece_in c.args.content.now) c.args.patches.now c.loop-patch.patch-index c.patch-item.result c.loop-patch.stood.items c.copy.new.stood.items _ c.loop-patch-test.true c.patch-item.is c.loop-patch.invariant.rest c.copy.ensures.put;
      as_long = c.copy.ensures.as_long ∙ c.loop-patch.invariant.as_long;
    }
