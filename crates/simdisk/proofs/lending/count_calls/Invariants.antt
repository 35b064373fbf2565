use Rattle.std.proofs.Common.{◌≡◌, ◌≤◌, ◌<◌, ℕ, length, map, get_or}
use Rattle.disk.specs.Facts.{counted}
use Rattle.simdisk.specs.{Lanes.lane_state, LaneStates.state_at}
use Rattle.simdisk.proofs.lending.count_calls.Given as goal

abbrev pub invariant-loop-i : goal.invariant-loop-i
invariant-loop-i l = record {
  long : length l.counts ≡ length l.initial.counts;
  done : (k : ℕ) → k < l.i → get_or l.counts k 0 ≡ counted (get_or l.initial.counts k 0) (state_at (map lane_state l.lanes) k).calls;
  rest : (k : ℕ) → l.i ≤ k → get_or l.counts k 0 ≡ get_or l.initial.counts k 0;
}
