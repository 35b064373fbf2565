use Rattle.std.{proofs.Common.{◌≡◌, ◌∙◌, List, [], sym, subst, vec_len, vec_capacity}, specs.List.AllZip}
use Rattle.std.specs.Vec.Iter.{into_iter_items, into_iter_len}
use Rattle.hart_threads.specs.{Begun.AreFromLast, Seated.IsSeated, declared.seated.ActingHart.ActingHart}
use Rattle.hart_threads.proofs.Ending.{all_pushed, one_begun, one_given, one_left, has_room, all_begun, same_number}
use Rattle.hart_threads.proofs.Promising.{all_taken, one_taken, same_numbers}
use Rattle.hart_threads.proofs.drives.works_of.Goals as goal

pub loop-acting-preserved : goal.loop-acting-preserved
loop-acting-preserved g c =
    let i = c.loop-acting.invariant in
    let number = c.index.ensures.value ∙ c.id.ensures in (
      one_begun (vec_len c.loop-acting.works) (into_iter_len c.loop-acting.acting-iterator) (vec_len c.args.all) (vec_len c.push_reserved.new.self) (into_iter_len c.next.new.self) i.0 c.push_reserved.ensures.len c.in-Some.ensures.steps.1,
      same_number (vec_capacity c.push_reserved.new.self) (vec_capacity c.loop-acting.works) (vec_len c.args.all) c.push_reserved.ensures.capacity i.1,
      one_given (vec_len c.loop-acting.parts) (into_iter_len c.loop-acting.acting-iterator) (vec_len c.next_parts-parts_of_one.new.parts) (into_iter_len c.next.new.self) i.2 c.next_parts-parts_of_one.ensures.rest c.in-Some.ensures.steps.1,
      c.next_parts-parts_of_one.ensures.fresh,
      all_pushed (λ w. IsSeated w.work.board.tables.now w.work.acting.hart.id w.work.acting.seats w.work.acting.doze) c.loop-acting.works.items c.push_reserved.new.self.items _ c.push_reserved.ensures.items i.4 c.known_begun.ensures.seated,
      (subst (λ (l : List ActingHart). AreFromLast 0 (λ (a : ActingHart). a.hart.id) l) c.in-Some.ensures.steps.0 i.5).1,
      c.next_parts-parts_of_one.ensures.runs,
      all_pushed (λ w. w.work.acting.hart.id ≡ w.promise.0) c.loop-acting.works.items c.push_reserved.new.self.items _ c.push_reserved.ensures.items i.7 (sym number),
      one_taken _ c.args.all.items _ _ [] c.loop-acting.works.items _ _ _ c.in-Some.ensures.steps.0 c.push_reserved.ensures.items number i.8,
    )

pub next_parts-parts_of_one-requires-clause-some : goal.next_parts-parts_of_one-requires-clause-some
next_parts-parts_of_one-requires-clause-some g c = one_left (vec_len c.loop-acting.parts) (into_iter_len c.loop-acting.acting-iterator) (into_iter_len c.next.new.self) c.loop-acting.invariant.2 c.in-Some.ensures.steps.1

pub next_parts-parts_of_one-requires-clause-fresh : goal.next_parts-parts_of_one-requires-clause-fresh
next_parts-parts_of_one-requires-clause-fresh g c = c.loop-acting.invariant.3

pub push_reserved-requires : goal.push_reserved-requires
push_reserved-requires g c = has_room (vec_len c.loop-acting.works) (into_iter_len c.loop-acting.acting-iterator) (vec_len c.args.all) (vec_capacity c.loop-acting.works) (into_iter_len c.next.new.self) c.loop-acting.invariant.0 c.loop-acting.invariant.1 c.in-Some.ensures.steps.1

pub returns-clause-all : goal.returns-clause-all
returns-clause-all g c = all_begun (vec_len c.loop-acting.works) (into_iter_len c.loop-acting.acting-iterator) (vec_len c.args.all) c.loop-acting.invariant.0 c.in-None.ensures.steps.0

pub returns-clause-none : goal.returns-clause-none
returns-clause-none g c = c.loop-acting.invariant.2 ∙ c.in-None.ensures.steps.0

pub returns-clause-seated : goal.returns-clause-seated
returns-clause-seated g c = c.loop-acting.invariant.4

pub returns-clause-fresh : goal.returns-clause-fresh
returns-clause-fresh g c = c.loop-acting.invariant.3

pub next_parts-parts_of_one-requires-clause-runs : goal.next_parts-parts_of_one-requires-clause-runs
next_parts-parts_of_one-requires-clause-runs g c = c.loop-acting.invariant.6

pub returns-clause-own : goal.returns-clause-own
returns-clause-own g c = c.loop-acting.invariant.7

pub returns-clause-numbered : goal.returns-clause-numbered
returns-clause-numbered g c =
    let all = all_taken (λ a w. w.promise.0 ≡ a.hart.id) c.args.all.items (into_iter_items c.loop-acting.acting-iterator) [] c.loop-acting.works.items (sym c.loop-acting.acting-iterator.rest.ok.0 ∙ c.in-None.ensures.steps.0) c.loop-acting.invariant.8 in
    same_numbers (λ (a : ActingHart). a.hart.id) (λ w. w.promise.0) 0 c.args.all.items c.loop-acting.works.items
    (subst (λ ws. AllZip (λ a w. w.promise.0 ≡ a.hart.id) c.args.all.items ws) (sym all.1) all.2) c.requires.numbered
