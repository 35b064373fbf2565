use Rattle.std.proofs.Common.{◌≡◌, ◌∙◌, ◌+◌, ◌-◌, ◌*◌, ◌<◌, ◌++◌, ◌∷◌, [], ℕ, length, map, take, drop, refl, sym, ap, rules, arith, Bool, true}
use Rattle.std.proofs.lemmas.List.{map-append, places}
use Rattle.disk.specs.Facts.{Content, LaneFacts, sector}
use Rattle.simdisk.specs.{Lanes.{lane_view, lane_state}, Views.last_of, declared.lane.Last.Last, LaneStates.{LaneState, IsLent}}
use Rattle.simdisk.proofs.Rows.{handed_more, lent_more}
use Rattle.simdisk.proofs.lending.lend.Goals as goal

value_of : (last : Last) (sectors written held : Content) (as_read : Bool) → ((c : Content) → (as_read ≡ true → sectors ≡ c) → last_of last c ≡ sectors) → sectors ≡ written → (as_read ≡ true → written ≡ held)
    → last_of last held ≡ written
value_of last sectors written held as_read value is in_step = value held (λ r. is ∙ in_step r) ∙ is

pub loop-lane-preserved : goal.loop-lane-preserved
loop-lane-preserved c =
    let n = c.loop-lane.lane in
    let start : ℕ = c.args.first + n * c.args.each in
    let held = c.in_ok-copy_of.field-0.items in
    let written = take c.args.each (drop start c.args.newest.now) in
    let faults = c.of_lane-faults.result in
    let last = last_of c.in_ok-last_in.field-0 held in
    let x : LaneFacts = record { content = held; failures = 0; first = start; calls = c.no_call-log.result.kept.calls } in
    let y : LaneState = record { newest = last; armed = faults.armed; cut = faults.cut; calls = 0 } in
    let span : start + c.args.each - start ≡ c.args.each = omega arith in
    let held_is : held ≡ take c.args.each (drop start c.args.content.now) = c.in_ok-copy_of.ensures ∙ ap (λ (k : ℕ). take k (drop start c.args.content.now)) span in
    let in_step : c.stays_in_step-as_read.result ≡ true → written ≡ held =
    λ is. ap (λ (k : Content). take c.args.each (drop start k)) (c.requires.in_step (c.stays_in_step-as_read.ensures.now is)) ∙ sym held_is in
    let value : last ≡ written = value_of c.in_ok-last_in.field-0 _ written held c.stays_in_step-as_read.result c.in_ok-last_in.ensures.value (ap (λ (k : ℕ). take k (drop start c.args.newest.now)) span) in_step in
    let long : length held ≡ c.args.each = search (rules, places, arith) in
    let same : (j : ℕ) → j < c.args.each → sector held j ≡ sector c.args.content.now (start + j) = λ j lt. search (rules, places, arith) in
    let lent : IsLent c.args.first c.args.each n c.args.newest.now c.args.faults.armed c.args.faults.cut y = record { written = value; arms = c.of_lane-faults.ensures.0; power = c.of_lane-faults.ensures.1; none = refl } in
    let views : map lane_view c.push.new.self.items ≡ map lane_view c.loop-lane.out.items ++ x ∷ [] = search (rules, map-append) in
    let states : map lane_state c.push.new.self.items ≡ map lane_state c.loop-lane.out.items ++ y ∷ [] = search (rules, map-append) in
    record {
      handed = rw views (handed_more c.args.first n c.args.each c.args.content.now (map lane_view c.loop-lane.out.items) x c.loop-lane.invariant.handed refl long same refl c.no_call-log.ensures);
      lent = rw states (lent_more c.args.first n c.args.each c.args.newest.now c.args.faults.armed c.args.faults.cut (map lane_state c.loop-lane.out.items) y c.loop-lane.invariant.lent lent);
    }
