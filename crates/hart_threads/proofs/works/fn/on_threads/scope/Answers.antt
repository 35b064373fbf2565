use Rattle.std.{proofs.Common.{◌∙◌, [], arith, sym, subst}, specs.{List.AllZip, Vec.Iter.into_iter_items}}
use Rattle.hart_threads.proofs.{Ending.{one_started, one_refused}, Promising.{all_kept, one_taken}}
use Rattle.hart_threads.proofs.works.fn.on_threads.scope.Goals as goal

pub loop-work-preserved : goal.loop-work-preserved
loop-work-preserved g c =
    let i = c.loop-work.invariant in
    let push = c.push_reserved-in-Err.ensures in
    (one_refused _ _ _ _ _ _ i.0 push.len c.in-Some.ensures.steps.1, i.1, push.capacity ∙ i.2, λ up. let no : ⊥ = cc in absurd no)

pub loop-work-preserved-in-Ok : goal.loop-work-preserved-in-Ok
loop-work-preserved-in-Ok g c =
    let i = c.loop-work.invariant in
    let push = c.push_reserved.ensures in (
      one_started _ _ _ _ _ _ _ i.0 push.len c.in-Some.ensures.steps.1 push.capacity,
      push.capacity ∙ i.1,
      i.2 ∙ sym push.capacity,
      λ up. let was = i.3 up in (was.0, one_taken _ _ _ _ [] _ _ _ _ c.in-Some.ensures.steps.0 push.items c.in-Ok.ensures.ok was.1),
    )

pub returns : goal.returns
returns g c =
    let i = c.loop-work.invariant in
    let begun = i.0 in
    let same = i.1 in
    let none = c.in-None.ensures.steps.0 in
    let up = i.3 c.if-unstarted.false in
    let room = c.requires.4 in
    let gives = c.into_iter-work-iterator.ensures.into_iter_gives.0 in
    let joined = c.joined-2.ensures in
    let count = joined.count in
    let kept = all_kept (λ w. w.promise) (λ h. h.promise) (λ p t. g.P.Promise.kept_by p t) (into_iter_items c.into_iter-work-iterator.result) (into_iter_items c.loop-work.work-iterator) c.loop-work.handles.items c.loop-work.given.items c.joined-2.result.items
    (sym c.loop-work.work-iterator.rest.ok.0 ∙ none) (sym c.loop-work.given.ok.0 ∙ up.0) up.1 joined.kept in
    ((c.last-said.ensures, omega (arith, begun, same, none, room, count), subst (λ ws. AllZip (λ w t. g.P.Promise.kept_by w.promise t) ws c.joined-2.result.items) gives kept), tt)
