use Rattle.std.proofs.Common.{◌≡◌, ◌+◌, sum, take}
use Rattle.planned_store.proofs.places.place_of.Given as goal

abbrev pub invariant-loop-lane : goal.invariant-loop-lane
invariant-loop-lane l = record {
  so_far : sum (take l.lane l.counts) + l.left ≡ l.number;
}
