use Rattle.std.proofs.{Common.{rules, ap, length}, lemmas.List.{with_items_is, places}}
use Rattle.disk.specs.WriteLog.{WriteLog}
use Rattle.simdisk.specs.contracts.device.SimDiskDisk.TheImpl as sim_disk
use Rattle.board_files.proofs.Beside.{call_beside}
use Rattle.board_files.proofs.Kept.{marks_stay, marks_written, marks_moved, marks_from, kept_on, kept_moved, spares_all, spares_written, noted_free, noted_moment, more_free}
use Rattle.board_files.proofs.file_disk.FileDiskDisk.write.Goals as goal

pub returns-clause-called : goal.returns-clause-called
returns-clause-called g c = call_beside _ _ _ _ _ _ _ c.in-Ok.ensures.called

pub returns-in_default-clause-called : goal.returns-in_default-clause-called
returns-in_default-clause-called g c = call_beside _ _ _ _ _ _ _ c.in_default.ensures.called

pub invariant_of-self-clause-marked : goal.invariant_of-self-clause-marked
invariant_of-self-clause-marked g c =
    marks_stay _ _ _ (sim_disk.ghosts.facts c.args.self.now.memory) (sim_disk.ghosts.facts c.write.new.self) _ _ c.args.self.now.marked
    c.in_default.ensures.stays c.in_default.ensures.called.lent
    (λ k free. noted_free _ _ _ _ _ k c.in_default.ensures.log_failed free)

pub invariant_of-self-clause-kept : goal.invariant_of-self-clause-kept
invariant_of-self-clause-kept g c =
    kept_on _ _ _ (sim_disk.ghosts.facts c.args.self.now.memory) (sim_disk.ghosts.facts c.write.new.self) _ c.args.self.now.kept
    c.in_default.ensures.called.crash (noted_moment _ _ _ _ _ c.in_default.ensures.log_failed) (ap length c.in_default.ensures.stays) (spares_all _ _ _ c.in_default.ensures.stays)

pub invariant_of-self-2-clause-marked : goal.invariant_of-self-2-clause-marked
invariant_of-self-2-clause-marked g c =
    marks_moved _ _ _ _ _ _ (with_items_is c.args.self.now.marks c.mark.new.marks (search (rules, places)))
    (marks_written _ _ _ _ _ _ (sim_disk.ghosts.facts c.args.self.now.memory) (sim_disk.ghosts.facts c.write.new.self) _ _
    c.args.self.now.marked (marks_from _ _ _ _ _ c.deref_mut.ensures.value c.mark.ensures) c.in-Ok.ensures.called.content.as_long
    c.in-Ok.ensures.called.lent (λ k free. more_free _ _ _ k c.in-Ok.ensures.log free))

pub invariant_of-self-2-clause-kept : goal.invariant_of-self-2-clause-kept
invariant_of-self-2-clause-kept g c =
    kept_moved _ _ _ (sim_disk.ghosts.facts c.write.new.self) (with_items_is c.args.self.now.marks c.mark.new.marks (search (rules, places)))
    (kept_on _ _ _ (sim_disk.ghosts.facts c.args.self.now.memory) (sim_disk.ghosts.facts c.write.new.self) _ c.args.self.now.kept
    c.in-Ok.ensures.called.crash (ap (λ (r : WriteLog). length r.past) c.in-Ok.ensures.log) c.in-Ok.ensures.called.content.as_long
    (spares_written _ _ _ _ _ _ (marks_from _ _ _ _ _ c.deref_mut.ensures.value c.mark.ensures) c.in-Ok.ensures.called.content))
