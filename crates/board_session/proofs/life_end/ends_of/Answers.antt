use Rattle.std.proofs.{Common.{◌≡◌, ◌∙◌, ℕ, List, length, map, vec_len, arith, refl, sym, ap, subst, All}, lemmas.List.Elements.All-push}
use Rattle.board_model.specs.declared.durable.Entry.{Entry}
use Rattle.hart.specs.State.{ArchState}
use Rattle.hsm.specs.Seating.{all_harts}
use Rattle.ipi.specs.Seating.{all_pending_views}
use Rattle.tallies.specs.declared.book_views.PartView.{PartView}
use Rattle.hart_threads.specs.{declared.ends.HartEnd.HartEnd, Begun.AreFromLast, Ends.{AreNumberedFrom, own_receipt}}
use Rattle.store.specs.Views.{journal_of}
use Rattle.hart_threads.specs.Views.{bus_parts, inside, parts_with}
use Rattle.board_session.{specs.{Backs.AreBack, Histories.EndsWith, Sessions.IsOver}, proofs.Historied.all_with}
use Rattle.board_session.proofs.{Backing.{none_there, none_told, told_back, told_more}, Numbering.{from_last_taken, numbered_next}}
use Rattle.board_session.proofs.life_end.ends_of.Goals as goal

pub loop-rested-init : goal.loop-rested-init
loop-rested-init g c =
    let t = g.J.Threaded in
    let none = none_there c.args.room.items (sym c.args.room.ok.0 ∙ c.requires.empty) in
    let back = none_told (parts_with c.args.whole.now) c.requires.none in
    let empty = c.requires.empty in
    record {
      store = refl;
      moments = refl;
      back = (back.0, back.1 ∙ sym (ap (λ (es : List HartEnd). map own_receipt es) none));
      parts = c.requires.none ∙ sym empty;
      made = omega (arith, empty);
      room = refl;
      numbered = subst (λ (es : List HartEnd). AreNumberedFrom 0 es) (sym none) tt;
      left = subst (λ (k : ℕ). AreFromLast k (λ r. r.ended.hart.id) c.args.loops.items) (sym empty) c.requires.numbered;
      well = subst (λ (es : List HartEnd). All (EndsWith t.machine t.turns t.gated c.args.parted.now.token.value (bus_parts c.args.bus.now) (all_harts c.new-back.result.starts.items) (all_pending_views c.new-back.result.raises.items)) es) (sym none) (λ k e lt. absurd (omega (arith, lt)));
      seats = c.new-back.ensures.none ∙ sym empty;
      over = subst (λ (es : List HartEnd). All (IsOver (journal_of (inside c.args.whole.now))) es) (sym none) (λ k e lt. absurd (omega (arith, lt)));
    }

pub loop-rested-preserved : goal.loop-rested-preserved
loop-rested-preserved g c =
    let i = c.loop-rested.invariant in
    let t = g.J.Threaded in
    let parting = c.args.parted.now.token.value in
    let e = c.in-Some.rested.ended in
    let gathered = c.end-end.ensures.parts in
    let long = ap (λ (ps : List (PartView Entry)). length ps) gathered in
    let were = i.parts in
    let made = i.made in
    let fewer = c.in-Some.ensures.cases in
    let pushed = c.push_reserved.ensures.len in
    let grown = c.push_reserved.ensures.items in
    let left = from_last_taken (vec_len c.loop-rested.ends) (λ r. r.ended.hart.id) c.pop.new.self.items c.loop-rested.loops.items c.in-Some.rested c.in-Some.ensures.items i.left in
    let before = bus_parts c.loop-rested.bus in
    let back = told_back e.local.part (parts_with c.loop-rested.whole) e.told e.ends e.noted i.back.0 in
    let told = told_more c.loop-rested.ends.items c.push_reserved.new.self.items _ i.back.0.harts e.told grown c.end-end.ensures.told i.back.1 in
    record {
      store = c.end-end.ensures.store ∙ i.store;
      moments = c.end-end.ensures.moments ∙ i.moments;
      back = subst (λ (ps : List (PartView Entry)). (now : AreBack ps) × (now.harts ≡ map own_receipt c.push_reserved.new.self.items)) (sym gathered) (back.0, back.1 ∙ told);
      parts = omega (arith, long, were, pushed);
      made = omega (arith, made, fewer, pushed);
      room = c.push_reserved.ensures.capacity ∙ i.room;
      numbered = numbered_next c.loop-rested.ends.items _ _ _ i.numbered (sym c.loop-rested.ends.ok.0) (ap (λ (s : ArchState). s.id) c.end-end.ensures.hart ∙ left.0) grown;
      left = subst (λ (k : ℕ). AreFromLast k (λ r. r.ended.hart.id) c.pop.new.self.items) (sym (omega (arith, pushed))) left.1;
      well = all_with t.machine t.turns t.gated parting c.end-end.result.2 before _ _ _ _ _ c.end-end.result.1 c.end-end.result.0.hart c.loop-rested.ends.items c.push_reserved.new.self.items _ c.gather.ensures.parts c.push.ensures.starts c.push.ensures.raises grown refl c.end-end.ensures.alone c.end-end.ensures.well i.well;
      seats = (let more = c.push.ensures.many in let were' = i.seats in omega (arith, more, were', pushed));
      over = subst (λ es. All (IsOver (journal_of (inside c.end-end.new.whole))) es) (sym grown)
          (All-push (IsOver (journal_of (inside c.end-end.new.whole))) c.loop-rested.ends.items _ (subst (λ x. All (IsOver (journal_of x)) c.loop-rested.ends.items) (sym c.end-end.ensures.store) i.over) c.end-end.ensures.last);
    }

pub push-requires-clause-theirs : goal.push-requires-clause-theirs
push-requires-clause-theirs g c = c.end-end.ensures.theirs

pub push-requires-clause-room : goal.push-requires-clause-room
push-requires-clause-room g c =
    let were = c.loop-rested.invariant.seats in
    let made = c.loop-rested.invariant.made in
    let fewer = c.in-Some.ensures.cases in
    let few = c.requires.few in
    omega (arith, were, made, fewer, few)
