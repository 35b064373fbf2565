use Rattle.std.proofs.Common.{◌≡◌, ◌<◌, ◌+◌, ◌∙◌, ◌++◌, ℕ, List, length, map, flat_map, get_or, refl, ap, arith, length-set}
use Rattle.savers.specs.Jobs.{IsSeated, drawn_by, lane_of}
use Rattle.savers.proofs.HandedOn.{some_left, first_and_rest, of_first, of_rest, none_left, one_less, pushed_one, facts_moved, shares_joined, drawn_joined, rest_moved, counts_moved, others_kept, none_counted, all_moved}
use Rattle.savers.proofs.seating.take_back.Goals as goal

pub loop-savers-init : goal.loop-savers-init
loop-savers-init g c =
    let facts = g.L.Lane.lane_facts in
    let savers = c.args.savers.items in
    let empty = c.requires.empty in
    let none : length c.args.lanes.now.items ≡ 0 = ap (λ (l : List g.row.L.Denot). length l) empty in
    record {
      seat = c.requires.seat;
      left = omega (arith, c.requires.left, ap (λ (l : List ℕ). length l) c.requires.drawn);
      drawn = ap (λ (l : List ℕ). l ++ flat_map drawn_by savers) c.requires.drawn;
      lanes = ap (λ (l : List g.row.L.Denot). map facts l ++ map (lane_of facts) savers) empty;
      seated = c.requires.seated;
      many = omega (arith, none);
      few = c.requires.few;
      room = omega (arith, none, c.requires.room);
      rest = λ i d. (let same : length c.args.lanes.now.items + i ≡ i = omega (arith, none) in ap (λ (k : ℕ). get_or savers k d) same);
      four = refl;
      counts = λ i d lt. absurd (omega (arith, none, lt));
      others = λ i le. none_counted i;
    }

pub loop-savers-preserved : goal.loop-savers-preserved
loop-savers-preserved g c =
    let facts = g.L.Lane.lane_facts in
    let so_far = c.loop-savers.invariant in
    let all = c.args.savers.items in
    let savers = c.loop-savers.savers.items in
    let rest = c.remove-saver.new.self.items in
    let saver = c.remove-saver.result in
    let before = c.loop-savers.lanes.items in
    let now = c.push_reserved.new.self.items in
    let taken = c.remove-saver.ensures in
    let pushed = c.push_reserved.ensures in
    let split = first_and_rest savers rest saver (some_left c.loop-savers.savers.len (length savers) c.loop-savers.savers.ok.0 c.loop-savers-test.ensures) taken.value taken.items in
    let less = one_less savers rest saver split in
    let more = pushed_one before now saver.lane pushed.items in
    let at = c.len.ensures ∙ c.loop-savers.lanes.ok.0 in
    let fits : length before < length c.loop-savers.counts = omega (arith, so_far.many, so_far.few, so_far.four, less) in
    let view = c.loop-savers.seat.me.0 in
    let joined = c.take_in.new.seat.me.0 in
    record {
      seat = c.take_in.ensures.seat;
      left = shares_joined view saver.seat.me.0 joined (length savers) (length rest) 1024 c.take_in.ensures.both (of_first (IsSeated c.args.ticket.now) savers rest saver split so_far.seated).1 less so_far.left;
      drawn = drawn_joined savers rest saver split view joined _ c.take_in.ensures.both so_far.drawn;
      lanes = facts_moved facts (lane_of facts) before now savers rest saver.lane saver _ split pushed.items refl so_far.lanes;
      seated = of_rest (IsSeated c.args.ticket.now) savers rest saver split so_far.seated;
      many = omega (arith, so_far.many, less, more);
      few = so_far.few;
      room = omega (arith, so_far.room, less, more, pushed.capacity);
      rest = rest_moved savers rest saver split all (length before) (length now) more so_far.rest;
      four = length-set c.loop-savers.counts c.len.result saver.filled ∙ so_far.four;
      counts = counts_moved savers rest saver split all c.loop-savers.counts c.len.result (length before) (length now) at more fits so_far.rest so_far.counts;
      others = others_kept c.loop-savers.counts c.len.result (length before) (length now) saver.filled at more so_far.others;
    }

pub returns-clause-whole : goal.returns-clause-whole
returns-clause-whole g c =
    omega (arith, c.loop-savers.invariant.left, none_left c.loop-savers.savers.len (length c.loop-savers.savers.items) c.loop-savers.savers.ok.0 c.loop-savers-test.ensures)

pub returns-clause-drawn : goal.returns-clause-drawn
returns-clause-drawn g c =
    all_moved (flat_map drawn_by) c.loop-savers.seat.me.0.drawn (flat_map drawn_by c.args.savers.items) c.loop-savers.savers.items refl
    (none_left c.loop-savers.savers.len (length c.loop-savers.savers.items) c.loop-savers.savers.ok.0 c.loop-savers-test.ensures) c.loop-savers.invariant.drawn

pub returns-clause-lanes : goal.returns-clause-lanes
returns-clause-lanes g c =
    let facts = g.L.Lane.lane_facts in
    all_moved (map (lane_of facts)) (map facts c.loop-savers.lanes.items) (map (lane_of facts) c.args.savers.items) c.loop-savers.savers.items refl
    (none_left c.loop-savers.savers.len (length c.loop-savers.savers.items) c.loop-savers.savers.ok.0 c.loop-savers-test.ensures) c.loop-savers.invariant.lanes

pub returns-clause-counts : goal.returns-clause-counts
returns-clause-counts g c i d lt =
    let none = none_left c.loop-savers.savers.len (length c.loop-savers.savers.items) c.loop-savers.savers.ok.0 c.loop-savers-test.ensures in
    c.loop-savers.invariant.counts i d (omega (arith, lt, none, c.loop-savers.invariant.many))

pub returns-clause-others : goal.returns-clause-others
returns-clause-others g c i le =
    let none = none_left c.loop-savers.savers.len (length c.loop-savers.savers.items) c.loop-savers.savers.ok.0 c.loop-savers-test.ensures in
    c.loop-savers.invariant.others i (omega (arith, le, none, c.loop-savers.invariant.many))
