use Rattle.std.proofs.Common.{refl}
use Rattle.simdisk.{specs.{Views.pieces, History.log_of}, proofs.{Epochs.fits_synced, Notes.left_agrees}}
use Rattle.disk.specs.WriteLog.{synced}
use Rattle.simdisk.proofs.sim.SimDisk.left.Goals as goal

pub returns-clause-left : goal.returns-clause-left
returns-clause-left c =
    let s = c.args.self.now.history in
    let fresh = c.in_ok-disk.ensures.fresh in
    record {
      left = rw (fresh.reads, c.in_ok-content.ensures) (left_agrees c.args.fill (synced (log_of s)) (pieces s.written.items) (fits_synced s));
      fresh = record { reads = refl; durable = rw fresh.reads fresh.durable; none_out = fresh.none_out };
      failures = refl;
      calls = refl;
    }
