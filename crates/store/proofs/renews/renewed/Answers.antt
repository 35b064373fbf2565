use Rattle.std.proofs.Common.{◌∙◌, ◌-◌, ℕ, None, refl, sym, ap, subst, arith}
use Rattle.disk.specs.{Facts.Lent, Moments.called_fewer}
use Rattle.store.{specs.Commits.IsUp, proofs.{Called.called_with, Found.keeps_up, Renewing.{renewed_moment, four_sectors}}}
use Rattle.store.proofs.renews.renewed.Goals as goal

pub returns-in-Err-clause-any_moment : goal.returns-in-Err-clause-any_moment
returns-in-Err-clause-any_moment g c =
    let f = c.args.found in
    renewed_moment f.shape f.side f.record c.args.next.now c.requires.same (g.D.Disk.facts c.args.disk.now) (g.D.Disk.facts c.commit.new.disk)
    (c.commit.ensures.commits.any_moment f.shape f.record (c.requires.keeps.up refl) c.requires.in_range)

pub returns-in-Ok-clause-keeps : goal.returns-in-Ok-clause-keeps
returns-in-Ok-clause-keeps g c =
    let f = c.args.found in
    let b = g.D.Disk.facts c.commit.new.disk in
    let up = c.requires.keeps.up refl in
    let done : IsUp b f.shape (1 - f.side) c.args.next.now = c.in-Ok.ensures.commits.done f.shape f.record up c.requires.in_range in (
      keeps_up b f.shape c.other.result c.args.next.now None (ap (λ (l : Lent). l.lanes) c.commit.ensures.called.lent ∙ c.requires.keeps.none_out) c.other.ensures.range refl
          (subst (λ (k : ℕ). IsUp b f.shape k c.args.next.now) (sym c.other.ensures.value) done),
      refl,
      refl,
    )

pub returns-in-Ok-clause-any_moment : goal.returns-in-Ok-clause-any_moment
returns-in-Ok-clause-any_moment g c =
    let f = c.args.found in
    renewed_moment f.shape f.side f.record c.args.next.now c.requires.same (g.D.Disk.facts c.args.disk.now) (g.D.Disk.facts c.commit.new.disk)
    (c.commit.ensures.commits.any_moment f.shape f.record (c.requires.keeps.up refl) c.requires.in_range)

pub commit-requires-clause-enough : goal.commit-requires-clause-enough
commit-requires-clause-enough g c κs within =
    let f = c.args.found in
    four_sectors (g.D.Disk.facts c.args.disk.now) f.shape f.side f.record (c.requires.keeps.up refl) (g.met.D.Disk.may_keep _)

pub returns-in-Err-clause-called : goal.returns-in-Err-clause-called
returns-in-Err-clause-called g c = called_fewer _ _ _ _ _ _ _ _ _ (omega arith) c.in-Err.ensures.called

pub returns-in-Ok-clause-called : goal.returns-in-Ok-clause-called
returns-in-Ok-clause-called g c = called_with _ _ _ _ _ _ _ _ c.in-Ok.ensures.called
