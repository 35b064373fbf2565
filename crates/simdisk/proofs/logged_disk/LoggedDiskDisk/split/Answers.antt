use Rattle.simdisk.proofs.Lanes.{split_kept, split_passes}
use Rattle.simdisk.proofs.logged_disk.LoggedDiskDisk.split.Goals as goal

pub invariant_of-self-2 : goal.invariant_of-self-2
invariant_of-self-2 g c =
    let a = g.D.Disk.facts c.args.self.now.device in
    let b = g.D.Disk.facts c.split.new.self in
    let out = c.in_ok-out.ensures in
    record { kept = split_kept _ _ a b _ c.args.self.now.kept out.out c.requires.within out.content c.picked-self.ensures out.crash }

pub returns-clause-crash : goal.returns-clause-crash
returns-clause-crash g c =
    let a = g.D.Disk.facts c.args.self.now.device in
    let b = g.D.Disk.facts c.split.new.self in
    let out = c.in_ok-out.ensures in
    split_passes _ _ a b _ c.args.self.now.kept out.out c.requires.within out.content c.picked-self.ensures a.content b.content a.calls b.calls
