use Rattle.std.proofs.Common.{ap, length, subst}
use Rattle.disk.specs.{Facts.Stays, WriteLog.{WriteLog, Untouched, ranges}}
use Rattle.simdisk.specs.contracts.device.SimDiskDisk.TheImpl as sim_disk
use Rattle.board_files.proofs.{Beside.call_beside, Kept.{marks_stay, kept_on, spares_all}}
use Rattle.board_files.proofs.file_disk.FileDiskDisk.read.Goals as goal

pub returns-clause-called : goal.returns-clause-called
returns-clause-called g c = call_beside _ _ _ _ _ _ _ c.read.ensures.called

pub invariant_of-self-clause-marked : goal.invariant_of-self-clause-marked
invariant_of-self-clause-marked g c =
    marks_stay _ _ _ (sim_disk.ghosts.facts c.args.self.now.memory) (sim_disk.ghosts.facts c.read.new.self) _ _ c.args.self.now.marked
    c.read.ensures.called.content c.read.ensures.called.lent
    (λ k free. subst (λ (log : WriteLog). Untouched (ranges log.written) k) c.read.ensures.log free)

pub invariant_of-self-clause-kept : goal.invariant_of-self-clause-kept
invariant_of-self-clause-kept g c =
    kept_on _ _ _ (sim_disk.ghosts.facts c.args.self.now.memory) (sim_disk.ghosts.facts c.read.new.self) Stays c.args.self.now.kept
    c.read.ensures.called.crash c.read.ensures.unsynced (ap length c.read.ensures.called.content) (spares_all _ _ _ c.read.ensures.called.content)
