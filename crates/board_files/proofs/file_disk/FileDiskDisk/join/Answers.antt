use Rattle.std.proofs.{Common.{rules, ap, length}, lemmas.List.{with_items_is, places}}
use Rattle.disk.specs.Facts.{Stays}
use Rattle.simdisk.specs.contracts.device.SimDiskDisk.TheImpl as sim_disk
use Rattle.board_files.proofs.Kept.{marks_joined, marks_moved, marks_from, kept_on, kept_moved, spares_joined}
use Rattle.board_files.proofs.file_disk.FileDiskDisk.join.Goals as goal

pub invariant_of-self-clause-marked : goal.invariant_of-self-clause-marked
invariant_of-self-clause-marked g c =
    marks_moved _ _ _ _ _ _ (with_items_is c.args.self.now.marks c.mark.new.marks (search (rules, places)))
    (marks_joined _ _ _ _ (sim_disk.ghosts.facts c.args.self.now.memory) (sim_disk.ghosts.facts c.join.new.self) _ _
    c.args.self.now.marked (marks_from _ _ _ _ _ c.deref_mut.ensures.value c.mark.ensures) c.join.ensures.content.elsewhere.as_long
    c.join.ensures.back c.join.ensures.takes_back.ranges.written c.exactly_the_model.ensures.lent)

pub invariant_of-self-clause-kept : goal.invariant_of-self-clause-kept
invariant_of-self-clause-kept g c =
    kept_moved _ _ _ (sim_disk.ghosts.facts c.join.new.self) (with_items_is c.args.self.now.marks c.mark.new.marks (search (rules, places)))
    (kept_on _ _ _ (sim_disk.ghosts.facts c.args.self.now.memory) (sim_disk.ghosts.facts c.join.new.self) Stays c.args.self.now.kept
    c.join.ensures.crash (ap length c.join.ensures.takes_back.ranges.past) c.join.ensures.content.elsewhere.as_long
    (spares_joined _ _ _ _ (sim_disk.ghosts.facts c.args.self.now.memory) _ _ c.args.self.now.marked
    (marks_from _ _ _ _ _ c.deref_mut.ensures.value c.mark.ensures) c.join.ensures.content.elsewhere))
