use Rattle.std.proofs.{Common.{◌≡◌, ◌∙◌, ◌+◌, ◌<◌, ℕ, length, map, take, sym, ap}, lemmas.List.length-map}
use Rattle.disk.specs.Facts.{LaneFacts, lane_at, lane_failures, counted}
use Rattle.simdisk.{specs.Lanes.lane_view, proofs.Rows.{failures_more, at_map, counted_more}}
use Rattle.simdisk.proofs.lending.failures_of.Goals as goal

pub loop-lane-preserved : goal.loop-lane-preserved
loop-lane-preserved c =
    let lanes = c.args.lanes.now in
    let i = c.loop-lane.lane-index in
    let lane = c.lane-item.result in
    let less : i < length (map lane_view lanes) = rw length-map c.loop-lane-test.true in
    let at : lane_at (map lane_view lanes) i ≡ lane_view lane = at_map lane_view lanes i lane c.loop-lane-test.true c.lane-item.is in
    let before = lane_failures (take i (map lane_view lanes)) in
    c.saturating_add-failures.ensures ∙ ap (λ (n : ℕ). counted n lane.failures) c.loop-lane.invariant ∙ counted_more 0 before lane.failures
    ∙ ap (λ (n : ℕ). counted 0 n) (sym (failures_more (map lane_view lanes) i less ∙ ap (λ (l : LaneFacts). before + l.failures) at))
