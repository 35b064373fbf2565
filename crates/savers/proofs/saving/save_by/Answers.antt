use Rattle.std.proofs.{Common.{◌≡◌, ◌∙◌, ◌<◌, ℕ, length, map, slice_index, sym, ap, subst, arith, List}, lemmas.List.length-map}
use Rattle.disk.specs.Facts.{LaneFacts, lane_at, lane_failures}
use Rattle.layout.specs.Sizes.{lane_sectors}
use Rattle.savers.{specs.{Saved.SamePlaces, Pages.DrawnPages, Calls.IsFilledBy, Jobs.lane_of, Ended.numbers_of}, proofs.Calls.all_filled}
use Rattle.savers.proofs.{EachOnce.lanes_hold, Jobs.{all_of_lanes, same_places, drawn_by_all, filled_by_all, failures_at}}
use Rattle.savers.proofs.saving.save_by.{Given.Over, Goals.After-end-drawn}
use Rattle.savers.proofs.saving.save_by.Goals as goal

pub hand_out-requires-clause-few : goal.hand_out-requires-clause-few
hand_out-requires-clause-few g c = omega (arith, c.lanes-lanes.ensures.range.1, c.lanes-lanes.ensures.value, length-map c.args.lanes.items g.L.Lane.lane_facts, c.requires.fresh.many)

pub run_jobs-requires-clause-few : goal.run_jobs-requires-clause-few
run_jobs-requires-clause-few g c κs within =
    omega (arith, c.lanes-lanes.ensures.range.1, c.lanes-lanes.ensures.value, length-map c.args.lanes.items g.L.Lane.lane_facts, c.requires.fresh.many, c.hand_out.ensures.many)

pub run_jobs-requires-clause-room : goal.run_jobs-requires-clause-room
run_jobs-requires-clause-room g c κs within =
    let facts = g.L.Lane.lane_facts in
    all_of_lanes (lane_of facts) (λ (l : LaneFacts). length l.content ≡ lane_sectors c.args.snapshot.now.shape.now) c.hand_out.new.savers.items (map facts c.args.lanes.items) c.hand_out.ensures.lanes
    c.requires.fresh.room

pub returns-clause-places : goal.returns-clause-places
returns-clause-places g c =
    let facts = g.L.Lane.lane_facts in
    let before = c.hand_out.new.savers.items in
    let after = c.run_jobs.new.savers.items in
    let each = c.run_jobs.ensures.each in
    let same : SamePlaces (map (lane_of facts) before) (map (lane_of facts) after) = same_places (lane_of facts) before after c.run_jobs.ensures.as_many (λ i d lt. ((each i d lt).first, (each i d lt).as_long)) in
    subst (λ (l : List LaneFacts). SamePlaces l (map facts c.take_back-counts.new.lanes.items)) c.hand_out.ensures.lanes
    (subst (λ (l : List LaneFacts). SamePlaces (map (lane_of facts) before) l) (sym c.take_back-counts.ensures.lanes) same)

-- the lanes that are given back are those that the board has
many_given : (g : Over) (c : After-end-drawn g) → length c.hand_out.new.savers.items ≡ c.args.snapshot.now.shape.now.lanes
many_given g c = c.hand_out.ensures.many ∙ (sym (length-map c.args.lanes.items g.L.Lane.lane_facts) ∙ c.requires.fresh.many)

-- no call of a lane had failed
fresh_savers : (g : Over) (c : After-end-drawn g) → lane_failures (map (lane_of g.L.Lane.lane_facts) c.hand_out.new.savers.items) ≡ 0
fresh_savers g c = ap lane_failures c.hand_out.ensures.lanes ∙ c.requires.fresh.no_failure

filled_by : (g : Over) (c : After-end-drawn g) (i : ℕ) → i < length (map g.L.Lane.lane_facts c.args.lanes.items)
    → IsFilledBy c.args.snapshot.now.shape.now (slice_index c.take_back-counts.result i) (lane_at (map g.L.Lane.lane_facts c.args.lanes.items) i) (lane_at (map g.L.Lane.lane_facts c.take_back-counts.new.lanes.items) i)
filled_by g c i lt =
    let facts = g.L.Lane.lane_facts in
    let size = c.args.snapshot.now.shape.now in
    let counts = c.take_back-counts.result in
    let before = c.hand_out.new.savers.items in
    let back = c.take_back-counts.ensures in
    let filled = filled_by_all facts c.args.ticket size c.args.snapshot.now.ram.now c.args.snapshot.now.serial counts before c.run_jobs.new.savers.items c.run_jobs.ensures.as_many c.run_jobs.ensures.each (fresh_savers g c) back.counts i (omega (arith, lt, length-map c.args.lanes.items facts, c.hand_out.ensures.many)) in
    subst (λ (l : List LaneFacts). IsFilledBy size (slice_index counts i) (lane_at l i) (lane_at (map facts c.take_back-counts.new.lanes.items) i)) c.hand_out.ensures.lanes
    (subst (λ (l : List LaneFacts). IsFilledBy size (slice_index counts i) (lane_at (map (lane_of facts) before) i) (lane_at l i)) (sym back.lanes) filled)

pub returns-clause-ended : goal.returns-clause-ended
returns-clause-ended g c i lt = (slice_index c.take_back-counts.result i, filled_by g (goal.at.returns-clause-ended g c).After-end-drawn i lt)

drawn_pages : (g : Over) (c : After-end-drawn g) → lane_failures (map g.L.Lane.lane_facts c.take_back-counts.new.lanes.items) ≡ 0
    → DrawnPages c.args.snapshot.now.shape.now c.args.snapshot.now.ram.now c.args.snapshot.now.serial (numbers_of c.end-drawn.result) c.take_back-counts.result (map g.L.Lane.lane_facts c.take_back-counts.new.lanes.items)
drawn_pages g c none =
    let facts = g.L.Lane.lane_facts in
    let size = c.args.snapshot.now.shape.now in
    let memory = c.args.snapshot.now.ram.now in
    let serial = c.args.snapshot.now.serial in
    let before = c.hand_out.new.savers.items in
    let after = c.run_jobs.new.savers.items in
    let back = c.take_back-counts.ensures in
    let some = c.lanes-lanes.ensures.range.0 in
    let lanes = c.lanes-lanes.ensures.value in
    let is : lane_failures (map (lane_of facts) after) ≡ 0 = ap lane_failures (sym back.lanes) ∙ none in
    subst (λ (l : List LaneFacts). DrawnPages size memory serial (numbers_of c.end-drawn.result) c.take_back-counts.result l) (sym back.lanes)
    (drawn_by_all facts c.args.ticket size memory serial c.take_back-counts.result before after (omega (arith, some, lanes)) (many_given g c) c.run_jobs.ensures.as_many c.run_jobs.ensures.each (fresh_savers g c) is back.four back.counts back.others (numbers_of c.end-drawn.result) (sym back.drawn ∙ sym c.end-drawn.ensures.all) c.end-drawn.ensures.once)

pub returns-clause-saved : goal.returns-clause-saved
returns-clause-saved g c none =
    let at = (goal.at.returns-clause-saved g c).After-end-drawn in
    let facts = g.L.Lane.lane_facts in
    let size = c.args.snapshot.now.shape.now in
    let counts = c.take_back-counts.result in
    let numbers = numbers_of c.end-drawn.result in
    let lanes = map facts c.take_back-counts.new.lanes.items in
    let range = c.lanes-lanes.ensures.range in
    let value = c.lanes-lanes.ensures.value in
    let many : length lanes ≡ size.lanes = ap (λ (l : List LaneFacts). length l) c.take_back-counts.ensures.lanes ∙ (length-map c.run_jobs.new.savers.items (lane_of facts) ∙ (c.run_jobs.ensures.as_many ∙ many_given g at)) in
    let drawn = drawn_pages g at none in
    record {
      drawn = drawn;
      hold = lanes_hold size c.args.snapshot.now.ram.now c.args.snapshot.now.serial numbers counts lanes (omega (arith, range.0, value)) (omega (arith, range.1, value)) many drawn;
      calls = λ i lt.
          let low = failures_at lanes i in
          all_filled size (slice_index counts i) (lane_at (map facts c.args.lanes.items) i) (lane_at lanes i) (filled_by g at i lt) (omega (arith, low, none));
      no_failure = none;
    }
