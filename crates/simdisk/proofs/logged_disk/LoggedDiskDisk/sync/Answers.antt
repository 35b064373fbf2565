use Rattle.std.proofs.Common.{◌∙◌, ap, subst, sym}
use Rattle.disk.specs.Facts.{Lent, Torn, lent_sectors}
use Rattle.simdisk.proofs.Kept.{called_over, kept_called, sync_durable, sync_kept, sync_passes}
use Rattle.simdisk.proofs.logged_disk.LoggedDiskDisk.sync.Goals as goal

pub invariant_of-self-2 : goal.invariant_of-self-2
invariant_of-self-2 g c =
    let a = g.D.Disk.facts c.args.self.now.device in
    let b = g.D.Disk.facts c.sync.new.self in
    let kept = kept_called _ a b _ _ c.sync.result c.args.self.now.kept c.sync.ensures.called in
    record {
      kept = sync_kept _ _ b kept c.picked-self.ensures
          (λ x may. subst (λ (l : Lent). Torn l.first (lent_sectors l) b.content x) (sym c.sync.ensures.called.lent) (c.in_ok-sync.ensures.but_lent x may));
    }

pub returns-clause-durable : goal.returns-clause-durable
returns-clause-durable g c =
    let a = g.D.Disk.facts c.args.self.now.device in
    let b = g.D.Disk.facts c.sync.new.self in
    let kept = kept_called _ a b _ _ c.sync.result c.args.self.now.kept c.sync.ensures.called in
    λ none. sync_durable _ _ b kept c.picked-self.ensures (ap (λ (l : Lent). l.lanes) c.sync.ensures.called.lent ∙ none)

pub returns-clause-called : goal.returns-clause-called
returns-clause-called g c =
    let a = g.D.Disk.facts c.args.self.now.device in
    let b = g.D.Disk.facts c.sync.new.self in
    let kept = kept_called _ a b _ _ c.sync.result c.args.self.now.kept c.sync.ensures.called in
    called_over _ _ a b _ _ _ _ c.in_ok-sync.ensures.called (sync_passes _ _ b kept c.picked-self.ensures a.content b.content a.calls b.calls a)
