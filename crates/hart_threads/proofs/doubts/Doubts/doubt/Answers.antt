use Rattle.std.proofs.Common.{◌≡◌, ◌∙◌, ℕ, suc, List, [], ◌∷◌, length, sym, ap, subst}
use Rattle.board_model.specs.declared.durable.Entry.{Entry}
use Rattle.board_model.specs.declared.durable.Entry.TheVariants as entries
use Rattle.tallies.specs.{Books.entries_of, Closed.AreStanding, declared.book_views.{BookView.BookView, PartView.PartView}}
use Rattle.tallies.proofs.Closing.{length_journal}
use Rattle.hart_threads.proofs.Doubting.{none_told}
use Rattle.hart_threads.proofs.doubts.Doubts.doubt.Goals as goal

-- nothing was noted before, so the part was told nothing, and this is the first place
pub invariant_of-heard : goal.invariant_of-heard
invariant_of-heard g c =
    let log = c.self.inside.keeper.log in
    let none : entries_of log ≡ [] = c.self.view_is ∙ c.requires.none in
    let recall = c.recall-part.ensures in
    let told : c.in-Some.part.told ≡ [] = none_told c.in-Some.part.told (subst (λ (es : List Entry). AreStanding es c.in-Some.part.told) none recall.stands) in
    let log' = c.recall-part.new.keeper.log in
    let empty : length log' ≡ 0 = ap (λ (v : BookView Entry). length v.log) recall.keeper ∙ sym (length_journal log) ∙ ap (λ (es : List Entry). length es) none in
    let x : Entry = entries.Command c.args.command in (
      ap (λ (d : PartView Entry). d.told) c.note-part.ensures.part
          ∙ ap (λ (n : ℕ). (suc n, x) ∷ c.recall-part.result.told) empty
          ∙ ap (λ (ts : List (ℕ × Entry)). (1, x) ∷ ts) (ap (λ (d : PartView Entry). d.told) recall.part ∙ told),
      c.heard.invariant.1,
    )
