use Rattle.std.{proofs.Common.{◌≡◌, ◌+◌, false, [], vec_len, vec_capacity}, specs.Vec.Iter.{into_iter_items, into_iter_len}}
use Rattle.hart_threads.proofs.Promising.{IsTaken}
use Rattle.hart_threads.proofs.works.fn.on_threads.scope.Given as goal

-- there is room for the works that are still to be begun; and where each thread was started, it has the promise of its work
abbrev pub invariant-loop-work : goal.invariant-loop-work
invariant-loop-work g l =
    (vec_len l.handles + vec_len l.given + into_iter_len l.work-iterator ≡ vec_capacity l.handles)
    × (vec_capacity l.handles ≡ vec_capacity l.initial.handles)
    × (vec_capacity l.given ≡ vec_capacity l.handles)
    × (l.unstarted ≡ false → (vec_len l.given ≡ 0) × IsTaken (λ w h. h.promise ≡ w.promise) (into_iter_items l.initial.work-iterator) [] (into_iter_items l.work-iterator) l.handles.items)
