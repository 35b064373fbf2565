use Rattle.std.proofs.Common.{◌≡◌, ◌∙◌, ℕ, ◌+◌, ◌*◌, ◌^◌, ◌<◌, ◌≤◌, sym, ap, subst, arith}
use Rattle.board_model.specs.Shapes.{Size, places_of, area_sectors_of}
use Rattle.image.proofs.{Lanes.lane_there, Lists.place_at}
use Rattle.planned_store.proofs.Counting.{located, located_within, few_sectors}
use Rattle.planned_store.proofs.places.place_of.Goals as goal

-- where it stands, by what the calls gave
stands_at : (size : Size) (lane left places start : ℕ) → places ≡ places_of size → start ≡ 9 * left → lane * (9 * places) + start ≡ place_at size lane left
stands_at size lane left places start many from =
    ap (λ (k : ℕ). lane * (9 * k) + start) many ∙ ap (λ (k : ℕ). lane * (9 * places_of size) + k) from

pub returns-then-left-count-clause-value : goal.returns-then-left-count-clause-value
returns-then-left-count-clause-value c =
    let size = c.args.shape.now in
    let lane = c.loop-lane.lane in
    let left = c.loop-lane.left in
    let lt : lane < 4 = omega (arith, c.loop-lane-test.true, c.requires.counts.four) in
    stands_at size lane left c.places.result c.place_start.result c.places.ensures.value c.place_start.ensures.value
    ∙ sym (located size c.args.counts.now lane left c.args.number (omega (arith, lt, c.requires.counts.four)) c.if-left-count.true c.loop-lane.invariant.so_far)

pub returns-then-left-count-clause-within : goal.returns-then-left-count-clause-within
returns-then-left-count-clause-within c =
    let size = c.args.shape.now in
    let lane = c.loop-lane.lane in
    let left = c.loop-lane.left in
    let lt : lane < 4 = omega (arith, c.loop-lane-test.true, c.requires.counts.four) in
    subst (λ (k : ℕ). k + 9 ≤ area_sectors_of size) (sym (stands_at size lane left c.places.result c.place_start.result c.places.ensures.value c.place_start.ensures.value))
    (located_within size c.args.counts.now lane left c.requires.counts lt c.if-left-count.true)

pub returns-then-left-count-clause-small : goal.returns-then-left-count-clause-small
returns-then-left-count-clause-small c =
    let size = c.args.shape.now in
    let lane = c.loop-lane.lane in
    let left = c.loop-lane.left in
    let lt : lane < 4 = omega (arith, c.loop-lane-test.true, c.requires.counts.four) in
    let there = lane_there size lane left (omega (arith, c.requires.counts.each lane lt, c.if-left-count.true)) in
    subst (λ (k : ℕ). lane * (9 * c.places.result) + k < 2 ^ 16) (sym c.place_start.ensures.value)
    (few_sectors lane c.places.result left lt c.places.ensures.range.1 (omega (arith, there.1, c.places.ensures.value, c.places.ensures.range.1)))
