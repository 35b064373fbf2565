use Rattle.std.proofs.Common.{◌∙◌, List, length, sym, ap, subst, arith}
use Rattle.board_model.specs.declared.durable.Entry.{Entry}
use Rattle.tallies.specs.declared.book_views.PartView.{PartView}
use Rattle.hart_threads.specs.Views.{parts_with}
use Rattle.board_session.{specs.Backs.AreBack, proofs.Backing.one_back}
use Rattle.board_session.proofs.life_end.gather_loops.Goals as goal

pub loop-rested-preserved-in-Some : goal.loop-rested-preserved-in-Some
loop-rested-preserved-in-Some g c =
    let i = c.loop-rested.invariant in
    let e = c.in-Some.rested.ended in
    let parts = c.gather.ensures.parts in
    let long = ap (λ (ps : List (PartView Entry)). length ps) parts in
    let was = i.many in
    let fewer = c.in-Some.ensures.cases in
    record {
      store = c.gather.ensures.store ∙ i.store;
      moments = c.gather.ensures.moments ∙ i.moments;
      back = subst (λ (ps : List (PartView Entry)). AreBack ps) (sym parts) (one_back e.local.part (parts_with c.loop-rested.whole) e.told e.ends e.noted i.back);
      many = omega (arith, long, was, fewer);
    }

pub loop-rested-preserved : goal.loop-rested-preserved
loop-rested-preserved g c =
    let i = c.loop-rested.invariant in
    let e = c.in-Some.rested.ended in
    let parts = c.gather.ensures.parts in
    let long = ap (λ (ps : List (PartView Entry)). length ps) parts in
    let was = i.many in
    let fewer = c.in-Some.ensures.cases in
    record {
      store = c.gather.ensures.store ∙ i.store;
      moments = c.gather.ensures.moments ∙ i.moments;
      back = subst (λ (ps : List (PartView Entry)). AreBack ps) (sym parts) (one_back e.local.part (parts_with c.loop-rested.whole) e.told e.ends e.noted i.back);
      many = omega (arith, long, was, fewer);
    }
