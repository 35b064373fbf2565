use Rattle.std.proofs.{Common.{◌∙◌, rules, arith, ap, length}, lemmas.List.{with_items_is, places}}
use Rattle.disk.specs.Facts.{Stays}
use Rattle.simdisk.specs.contracts.device.SimDiskDisk.TheImpl as sim_disk
use Rattle.simdisk.specs.contracts.device.SimDiskDisk.TheImpl.Laws.{may_keep-law, counts_now-law}
use Rattle.board_files.proofs.Beside.{call_beside}
use Rattle.board_files.proofs.Kept.{marks_moved, marks_cleared, kept_moved, kept_pushed, kept_synced, pushes_as, off_is_left, one_moment, only_left, on_ok}
use Rattle.board_files.proofs.file_disk.FileDiskDisk.sync.Goals as goal

pub returns-clause-called : goal.returns-clause-called
returns-clause-called g c = call_beside _ _ _ _ _ _ _ c.sync.ensures.called

pub invariant_of-self-clause-marked : goal.invariant_of-self-clause-marked
invariant_of-self-clause-marked g c =
    marks_moved _ _ _ _ _ _ (with_items_is c.args.self.now.marks c.push.new.marks (search (rules, places))
    ∙ c.in_default.ensures.all ∙ c.deref_mut.ensures.value) c.args.self.now.marked

pub invariant_of-self-clause-kept : goal.invariant_of-self-clause-kept
invariant_of-self-clause-kept g c =
    let disk = sim_disk.ghosts.facts c.args.self.now.memory in
    kept_moved _ _ _ disk (with_items_is c.args.self.now.marks c.push.new.marks (search (rules, places))
    ∙ c.in_default.ensures.all ∙ c.deref_mut.ensures.value)
    (kept_pushed _ _ _ disk _ _ _ c.args.self.now.kept
    (pushes_as _ _ _ _ _ _ _ c.deref_mut.ensures.value c.content.ensures c.in_default.ensures.pushed)
    (λ t x le agrees. counts_now-law c.args.self.now.memory t x le ((c.exactly_the_model.ensures.now x).1
    (off_is_left _ _ _ disk _ _ c.args.self.now.marked ((c.exactly_the_model.ensures.now _).0 (may_keep-law c.args.self.now.memory)) x agrees)))
    (g.met.F.SectorFile.earlier _))

pub invariant_of-self-2-clause-marked : goal.invariant_of-self-2-clause-marked
invariant_of-self-2-clause-marked g c =
    marks_moved _ _ _ _ _ _ (with_items_is c.args.self.now.marks c.push.new.marks (search (rules, places)))
    (marks_cleared _ _ _ _ _ (sim_disk.ghosts.facts c.args.self.now.memory) (sim_disk.ghosts.facts c.sync.new.self) _ _
    c.in-Ok.ensures.none (ap length c.deref_mut.ensures.value) c.args.self.now.marked c.sync.ensures.called.content c.sync.ensures.called.lent)

pub invariant_of-self-2-clause-kept : goal.invariant_of-self-2-clause-kept
invariant_of-self-2-clause-kept g c =
    let disk = sim_disk.ghosts.facts c.args.self.now.memory in
    kept_synced _ _ _ _ disk (sim_disk.ghosts.facts c.sync.new.self) Stays _ _ _ c.args.self.now.kept
    (pushes_as _ _ _ _ _ _ _ c.deref_mut.ensures.value c.content.ensures c.in-Ok.ensures.pushed)
    (λ t x le agrees. counts_now-law c.args.self.now.memory t x le ((c.exactly_the_model.ensures.now x).1
    (off_is_left _ _ _ disk _ _ c.args.self.now.marked ((c.exactly_the_model.ensures.now _).0 (may_keep-law c.args.self.now.memory)) x agrees)))
    (g.met.F.SectorFile.earlier _) (counts_now-law c.sync.new.self (sim_disk.ghosts.facts c.sync.new.self).moment (sim_disk.ghosts.facts c.sync.new.self).content (omega arith) (may_keep-law c.sync.new.self)) (one_moment c.sync.result _ _ _ _ c.sync.ensures.log c.sync.ensures.log_failed)
    c.sync.ensures.called.crash c.sync.ensures.called.content

pub returns-clause-file : goal.returns-clause-file
returns-clause-file g c = on_ok c.sync.result _
    (only_left _ _ _ _ _ _ _ _ (pushes_as _ _ _ _ _ _ _ c.deref_mut.ensures.value c.content.ensures c.in-Ok.ensures.pushed)
    c.sync.ensures.called.content)
