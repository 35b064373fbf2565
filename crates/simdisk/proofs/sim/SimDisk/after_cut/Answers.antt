use Rattle.std.proofs.Common.{◌≡◌, refl, ap}
use Rattle.simdisk.{specs.{Views.{left_by_fill, pieces}, History.log_of}, proofs.{Epochs.fits_synced, Notes.{fresh_of, left_agrees}}}
use Rattle.disk.specs.WriteLog.{new_log, synced}
use Rattle.simdisk.proofs.sim.SimDisk.after_cut.Goals as goal

pub returns-clause-left : goal.returns-clause-left
returns-clause-left c =
    let s = c.args.self.history in
    let now = c.cut.new.content.items in
    let history = c.begun_anew-history.result in
    let is : now ≡ left_by_fill c.args.fill (synced (log_of s)) (pieces s.written.items) = c.cut.ensures.left in
    let begun : log_of history ≡ new_log now = rw (← c.deref.ensures.value) c.begun_anew-history.ensures.log in
    record {
      left = rw is (left_agrees c.args.fill (synced (log_of s)) (pieces s.written.items) (fits_synced s));
      fresh = fresh_of now (synced (log_of history)) (log_of history) _ _ _ begun (ap synced begun) c.nothing.ensures;
      failures = refl;
      calls = refl;
    }
