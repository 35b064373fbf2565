use Rattle.simdisk.proofs.Kept.{called_over, kept_written, tears_over}
use Rattle.simdisk.proofs.logged_disk.LoggedDiskDisk.write.Goals as goal

pub invariant_of-self : goal.invariant_of-self
invariant_of-self g c =
    record { kept = kept_written _ _ (c.args.first, c.args.sectors.now) (g.D.Disk.facts c.args.self.now.device) _ _ _ c.write.result c.args.self.now.kept c.note.ensures c.requires.within c.write.ensures.called }

pub returns-clause-called : goal.returns-clause-called
returns-clause-called g c =
    let a = g.D.Disk.facts c.args.self.now.device in
    let b = g.D.Disk.facts c.write.new.self in
    called_over _ _ a b _ _ _ _ c.write.ensures.called
    (tears_over a.content b.content _ _ a.calls b.calls a b (c.args.first, c.args.sectors.now) c.args.self.now.kept c.note.ensures c.requires.within)
