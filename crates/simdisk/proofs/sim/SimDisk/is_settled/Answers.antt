use Rattle.std.proofs.Common.{◌≡◌, All, rules}
use Rattle.simdisk.{specs.{History.log_of, declared.patch.Patch.Patch}, proofs.{Comparing.left_settled, Epochs.fits_synced}}
use Rattle.disk.specs.WriteLog.{synced}
use Rattle.simdisk.proofs.sim.SimDisk.is_settled.Goals as goal

pub returns : goal.returns
returns c = λ is fill. (
    let h = c.args.self.now.history in
    let none : All (λ (p : Patch). p.count ≡ 0) h.written.items = search rules in
    left_settled fill (synced (log_of h)) h.written.items none (fits_synced h))
