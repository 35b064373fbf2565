use Rattle.std.{specs.{Prelude.{IfSome, is_some}}, proofs.{Common.{◌∙◌, Option, List, ℕ, ap, refl, sym, subst}, Math.Logic.∥∥₁_map}}
use Rattle.board_model.specs.declared.durable.Entry.{Entry}
use Rattle.store.specs.Views.{journal_of}
use Rattle.tallies.specs.Books.{Each}
use Rattle.hart_threads.specs.{Called.IsLastOf, Ends.HasGone, Over.IsLastEnd, Threads.seated, Views.inside}
use Rattle.hart_threads.proofs.Told.{over_last, told_over}
use Rattle.hart_threads.proofs.ends.Rested.end.Goals as goal

pub returns-clause-store : goal.returns-clause-store
returns-clause-store g c = c.closed_by-closed.ensures.store ∙ c.gather_told.ensures.store

pub returns-clause-moments : goal.returns-clause-moments
returns-clause-moments g c = c.closed_by-closed.ensures.moments ∙ c.gather_told.ensures.moments

pub returns-clause-parts : goal.returns-clause-parts
returns-clause-parts g c = c.closed_by-closed.ensures.parts ∙ c.gather_told.ensures.parts

pub returns-clause-told : goal.returns-clause-told
returns-clause-told g c =
    let e = c.args.self.ended in
    (told_over g.J.Threaded.turns g.J.Threaded.gated _ e.made (is_some e.shut) e.told _ _ e.why c.over_by-over.ensures e.ended e.ends c.closed_by-closed.ensures.closed).1

pub returns-clause-theirs : goal.returns-clause-theirs
returns-clause-theirs g c = c.args.self.theirs

pub returns-clause-alone : goal.returns-clause-alone
returns-clause-alone g c = c.args.self.alone

pub returns-clause-well : goal.returns-clause-well
returns-clause-well g c =
    let r = c.args.self in
    let e = r.ended in
    let l = e.local in
    let so = told_over g.J.Threaded.turns g.J.Threaded.gated _ e.made (is_some e.shut) e.told _ _ e.why c.over_by-over.ensures e.ended e.ends c.closed_by-closed.ensures.closed in (
      so.0,
      ∥∥₁_map r.gone (λ gone.
          let b = seated e.hart gone.0 l.doze l.run in
          let told = subst (λ (o : Option (ℕ × Entry)). HasGone g.J.Threaded.machine g.J.Threaded.turns e.made b e.why o) (sym so.1) gone.1 in
          (b, told, refl, gone.2, refl, refl)),
    )

pub returns-clause-last : goal.returns-clause-last
returns-clause-last g c =
    let e = c.args.self.ended in
    let j = journal_of (inside c.closed_by-closed.new.whole) in
    let same = ap (λ x. journal_of x) c.closed_by-closed.ensures.store in
    let own = subst (λ (ts : List (ℕ × Entry)). Each (IsLastEnd j) ts) e.noted (subst (λ cs. Each (IsLastEnd cs) e.local.part.told) (sym same) c.gather_told.ensures.last) in
    subst (λ (o : Option (ℕ × Entry)). IfSome o (λ t. IsLastOf j t.0 t.1)) (sym c.over_by-over.ensures) (over_last j e.told _ e.why own e.ends c.closed_by-closed.ensures.last)
