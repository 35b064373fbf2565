use Rattle.std.{proofs.Common.{◌≡◌, ◌≤◌, ◌+◌, vec_len, vec_capacity}, specs.Vec.Iter.{into_iter_items, into_iter_len}}
use Rattle.hart_threads.proofs.Promising.{IsTaken}
use Rattle.hart_threads.proofs.works.joined.Given as goal

abbrev pub invariant-loop-handle : goal.invariant-loop-handle
invariant-loop-handle g l =
    (vec_len l.given + into_iter_len l.handle-iterator ≤ vec_capacity l.given)
    × (vec_len l.given + into_iter_len l.handle-iterator ≡ vec_len l.fn.given + vec_len l.fn.handles)
    × IsTaken (λ h t. g.P.Promise.kept_by h.promise t) l.fn.handles.items l.fn.given.items (into_iter_items l.handle-iterator) l.given.items
