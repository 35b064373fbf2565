use Rattle.std.proofs.{Common.{◌≡◌, ◌∙◌, List, [], Some, length, sym, ap, subst, arith}, lemmas.List.Elements.All-pop}
use Rattle.board_model.specs.declared.durable.Entry.{Entry}
use Rattle.tallies.specs.declared.book_views.PartView.{PartView}
use Rattle.hart_threads.specs.{Views.parts_with, declared.shared.HartParts.HartParts}
use Rattle.board_session.{specs.Backs.AreBack, proofs.Backing.fresh_back}
use Rattle.board_session.proofs.life_end.gather_parts.Goals as goal

pub loop-part-preserved : goal.loop-part-preserved
loop-part-preserved g c =
    let i = c.loop-part.invariant in
    let parts = c.gather.ensures.parts in
    let long = ap (λ (ps : List (PartView Entry)). length ps) parts in
    let was = i.many in
    let fewer = c.in-Some.ensures.cases in
    let popped = All-pop (λ (p : HartParts _). p.receipts.told ≡ []) c.loop-part.parts.items c.pop.new.self.items (Some c.in-Some.part) c.in-Some.ensures.items i.fresh in
    record {
      store = c.gather.ensures.store ∙ i.store;
      moments = c.gather.ensures.moments ∙ i.moments;
      back = subst (λ (ps : List (PartView Entry)). AreBack ps) (sym parts) (fresh_back c.in-Some.part.receipts (parts_with c.loop-part.whole) popped.1 i.back);
      fresh = popped.0;
      many = omega (arith, long, was, fewer);
    }
