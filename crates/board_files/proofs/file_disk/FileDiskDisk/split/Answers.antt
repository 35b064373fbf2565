use Rattle.std.proofs.Common.{ap, length, subst}
use Rattle.disk.specs.{Facts.Stays, WriteLog.{WriteLog, Untouched, ranges}}
use Rattle.simdisk.specs.contracts.device.SimDiskDisk.TheImpl as sim_disk
use Rattle.board_files.proofs.Kept.{marks_stay, marks_lent, kept_on, spares_all, more_free}
use Rattle.board_files.proofs.file_disk.FileDiskDisk.split.Goals as goal

pub invariant_of-self-2-clause-marked : goal.invariant_of-self-2-clause-marked
invariant_of-self-2-clause-marked g c =
    marks_lent _ _ _ _ _ _ (sim_disk.ghosts.facts c.args.self.now.memory) (sim_disk.ghosts.facts c.split.new.self) _ _ c.args.self.now.marked
    c.in-Ok.ensures.content c.in-Ok.ensures.out c.requires.within
    (λ k free. (more_free _ _ _ k c.in-Ok.ensures.lends.noted free).0)

pub invariant_of-self-2-clause-kept : goal.invariant_of-self-2-clause-kept
invariant_of-self-2-clause-kept g c =
    kept_on _ _ _ (sim_disk.ghosts.facts c.args.self.now.memory) (sim_disk.ghosts.facts c.split.new.self) _ c.args.self.now.kept
    c.in-Ok.ensures.crash (ap (λ (r : WriteLog). length r.past) c.in-Ok.ensures.lends.noted) (ap length c.in-Ok.ensures.content) (spares_all _ _ _ c.in-Ok.ensures.content)

pub invariant_of-self-clause-marked : goal.invariant_of-self-clause-marked
invariant_of-self-clause-marked g c =
    marks_stay _ _ _ (sim_disk.ghosts.facts c.args.self.now.memory) (sim_disk.ghosts.facts c.split.new.self) _ _ c.args.self.now.marked
    c.in_default.ensures.content c.in_default.ensures.refused
    (λ k free. subst (λ (log : WriteLog). Untouched (ranges log.written) k) c.in_default.ensures.lends.refused free)

pub invariant_of-self-clause-kept : goal.invariant_of-self-clause-kept
invariant_of-self-clause-kept g c =
    kept_on _ _ _ (sim_disk.ghosts.facts c.args.self.now.memory) (sim_disk.ghosts.facts c.split.new.self) Stays c.args.self.now.kept
    c.in_default.ensures.crash_refused (ap (λ (r : WriteLog). length r.past) c.in_default.ensures.lends.refused) (ap length c.in_default.ensures.content) (spares_all _ _ _ c.in_default.ensures.content)
