use Rattle.std.proofs.Common.{◌≡◌, ◌∙◌, Option, Some, refl, sym, ap, subst}
use Rattle.layout.specs.Records.{IsInRange}
use Rattle.planned_store.specs.{declared.{commits.Commit.Commit, plans.Plan.TheVariants.Committing}, Saves.commit_of}
use Rattle.sbistore.{specs.{Images.CommitsOrEnds, Packed.{IsSelectedSound, IsSound}}, proofs.Saves.{commit_is, commit_asks}}
use Rattle.sbistore.proofs.images.commit_save.Goals as goal

pub returns-in-Some : goal.returns-in-Some
returns-in-Some c life kept ends from =
    let s = c.args.plan.now in
    let k = c.in-Some.commit in
    let is : commit_of s ≡ Some k = sym c.commit.ensures.value ∙ c.in-Some.is in
    let sound = c.requires.sound in
    let same : k.from ≡ s.from = ap (λ (x : Commit). x.from) (commit_is s k is) in
    let range : IsInRange k.from.shape k.next = c.in-Some.ensures.range sound.from.0 sound.from.2 (refl, sound.hart, sound.address) in
    let ok : IsSound (Committing k) = (subst IsSelectedSound (sym same) sound.from, range) in
    let keeps = c.ask.ensures.keeps (commit_asks s k is) life kept (same ∙ from) in (
      subst (λ (o : Option Commit). CommitsOrEnds o c.ask.result c.ask.new.store c.ask.new.sector) (sym is) (c.ask.ensures.asks ok, c.ask.ensures.bytes, keeps.1 ∙ ends),
      keeps.0,
    )
