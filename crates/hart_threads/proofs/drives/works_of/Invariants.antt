use Rattle.std.{proofs.Common.{◌≡◌, ◌+◌, [], All, map, vec_len, vec_capacity}, specs.Vec.Iter.{into_iter_items, into_iter_len}}
use Rattle.tallies.specs.Books.{fresh_from}
use Rattle.hart_threads.{specs.{Begun.AreFromLast, Seated.IsSeated}, proofs.Promising.IsTaken}
use Rattle.hart_threads.proofs.drives.works_of.Given as goal

-- there is room for the harts that are still to come, and each has a part that was told nothing
abbrev pub invariant-loop-acting : goal.invariant-loop-acting
invariant-loop-acting g l =
    (vec_len l.works + into_iter_len l.acting-iterator ≡ vec_len l.fn.all)
    × (vec_capacity l.works ≡ vec_len l.fn.all)
    × (vec_len l.parts ≡ into_iter_len l.acting-iterator)
    × All (λ p. p.receipts.told ≡ []) l.parts.items
    × All (λ w. IsSeated w.work.board.tables.now w.work.acting.hart.id w.work.acting.seats w.work.acting.doze) l.works.items
    × AreFromLast 0 (λ a. a.hart.id) (into_iter_items l.acting-iterator)
    × (map (λ p. p.run) l.parts.items ≡ fresh_from 2 (vec_len l.parts))
    × All (λ w. w.work.acting.hart.id ≡ w.promise.0) l.works.items
    × IsTaken (λ a w. w.promise.0 ≡ a.hart.id) l.fn.all.items [] (into_iter_items l.acting-iterator) l.works.items
