use Rattle.std.proofs.Common.{◌≡◌, ◌≤◌, ◌<◌, ◌*◌, ℕ, slice_index, take, sum}
use Rattle.layout.specs.Records.{most_places}
use Rattle.layout.proofs.saved.are_counts.Given as goal

abbrev pub invariant-loop-lane : goal.invariant-loop-lane
invariant-loop-lane l = record {
  each : (k : ℕ) → k < l.lane → slice_index l.counts k ≤ most_places l.shape k;
  so_far : l.pages ≡ sum (take l.lane l.counts);
  few : l.pages ≤ 256 * l.lane;
}
