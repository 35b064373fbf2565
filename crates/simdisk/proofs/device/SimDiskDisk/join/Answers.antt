use Rattle.std.proofs.{Common.{◌≡◌, ◌∙◌, ◌+◌, ◌*◌, ◌≤◌, ℕ, List, length, map, ap, sym, subst, refl, arith}, lemmas.List.length-map}
use Rattle.disk.specs.{Facts.{Content, Lent, Joined, counted, lane_at, lane_failures}, WriteLog.{newest, ranges, synced}}
use Rattle.disk.proofs.Stretches.{passes_ranges}
use Rattle.simdisk.specs.{Lanes.{lane_view, newest_view, lane_state}, LaneStates.{CameBack, CountsLanes}, declared.lane.SimLane.SimLane}
use Rattle.simdisk.{specs.{History.log_of, Latest.{latest_of, HasPlace}, Views.{lent_of, pieces}}, proofs.Epochs.stands_apart}
use Rattle.simdisk.proofs.{Notes.agrees_join, Rows.{newest_long, written_back, counted_once}}
use Rattle.simdisk.proofs.device.SimDiskDisk.join.Goals.{After-drop-lanes}
use Rattle.simdisk.proofs.device.SimDiskDisk.join.Goals as goal

pub join-requires-clause-long : goal.join-requires-clause-long
join-requires-clause-long c = let s = c.args.self.now in subst (λ (k : Content). HasPlace (length k) s.latest) (sym c.deref-2.ensures.value) s.room

pub join-requires-clause-count : goal.join-requires-clause-count
join-requires-clause-count c = ap (λ (ls : List SimLane). length ls) c.deref-3.ensures.value ∙ sym (length-map c.args.lanes.items lane_view) ∙ c.requires.count

pub join-requires-clause-within : goal.join-requires-clause-within
join-requires-clause-within c = let s = c.args.self.now in subst (λ (k : Content). s.loan.first + s.loan.lanes * s.loan.each ≤ length k) (sym c.deref-2.ensures.value) s.within

pub join-requires-clause-each : goal.join-requires-clause-each
join-requires-clause-each c i lt =
    ap (λ (ls : List SimLane). length (lane_at (map newest_view ls) i).content) c.deref-3.ensures.value ∙ newest_long c.args.lanes.items i ∙ c.requires.each i lt

pub part-requires : goal.part-requires
part-requires c = let s = c.args.self.now in subst (λ (k : Content). HasPlace (length k) s.history.stood) (sym c.deref-4.ensures.value) s.stands.place

pub invariant_of-self : goal.invariant_of-self
invariant_of-self c = (c.args.self.now.history.fits, tt)

pub lay_row-requires-clause-count : goal.lay_row-requires-clause-count
lay_row-requires-clause-count c = ap (λ (ls : List SimLane). length ls) c.deref-5.ensures.value ∙ sym (length-map c.args.lanes.items lane_view) ∙ c.requires.count

pub lay_row-requires-clause-each : goal.lay_row-requires-clause-each
lay_row-requires-clause-each c i lt = ap (λ (ls : List SimLane). length (lane_at (map lane_view ls) i).content) c.deref-5.ensures.value ∙ c.requires.each i lt

pub lay_row-requires-clause-within : goal.lay_row-requires-clause-within
lay_row-requires-clause-within c = c.args.self.now.within

pub take_newest-requires-clause-noted : goal.take_newest-requires-clause-noted
take_newest-requires-clause-noted c = c.args.self.now.noted

pub take_newest-requires-clause-torn : goal.take_newest-requires-clause-torn
take_newest-requires-clause-torn c =
    let s = c.args.self.now in
    let lanes = c.args.lanes.items in
    let read : Joined (lent_of s.loan) (map lane_view lanes) s.content.items c.lay_row.new.content.items =
    subst (λ (ls : List SimLane). Joined (lent_of s.loan) (map lane_view ls) s.content.items c.lay_row.new.content.items) c.deref-5.ensures.value c.lay_row.ensures in
    let last : Joined (lent_of s.loan) (map newest_view lanes) (latest_of s.latest s.content.items) (latest_of c.join.new.self c.lay_row.new.content.items) =
    rw (← c.deref-3.ensures.value, ← c.deref-2.ensures.value) (c.join.ensures.joined c.lay_row.new.content.items (rw (c.deref-3.ensures.value, c.deref-2.ensures.value) read)) in
    rw (s.newest, c.over-last.ensures, c.deref-6.ensures.value) last.elsewhere

pub invariant_of-self-2 : goal.invariant_of-self-2
invariant_of-self-2 c =
    let s = c.args.self.now in
    let all = c.take_newest.ensures in
    let apart = c.part.ensures in
    let stood : c.part.new.self.sectors.items ≡ synced (log_of s.history) = apart.same ∙ ap (λ (k : Content). latest_of s.history.stood k) c.deref-4.ensures.value ∙ s.stands.is in
    record {
      stands = all.stands c.lay_row.new.content.items
          (stands_apart _ _ c.lay_row.new.content.items apart.apart stood apart.place (c.lay_row.ensures.elsewhere.as_long ∙ ap (λ (k : Content). length k) (sym c.deref-4.ensures.value)));
      newest = all.newest ∙ c.over-last.ensures ∙ ap (λ (k : Content). latest_of c.join.new.self k) c.deref-6.ensures.value;
      room = subst (λ (n : ℕ). HasPlace n c.join.new.self) (ap (λ (k : Content). length k) c.deref-2.ensures.value ∙ sym c.lay_row.ensures.elsewhere.as_long) c.join.ensures.as_long;
      agrees = rw (all.ranges, all.synced) (agrees_join (lent_of s.loan) (synced (log_of s.history)) (ranges (pieces s.history.written.items)) s.loan.patch s.content.items c.lay_row.new.content.items (λ lt. (s.noted lt).noted) s.agrees c.lay_row.ensures.elsewhere);
      few = omega (arith, c.saturating_add-self.ensures);
      few_calls = s.few_calls;
      within = subst (λ (l : Lent). l.first + l.lanes * l.each ≤ length c.lay_row.new.content.items) (sym c.nothing-self.ensures) (omega arith);
      noted = λ lt. absurd (omega (arith, lt, ap (λ (l : Lent). l.lanes) c.nothing-self.ensures));
    }

failed : (c : After-drop-lanes) → c.failures_of-failures.result ≡ counted 0 (lane_failures (map lane_view c.args.lanes.items))
failed c = c.failures_of-failures.ensures ∙ ap (λ (ls : List SimLane). counted 0 (lane_failures (map lane_view ls))) c.deref.ensures.value

back : (c : After-drop-lanes) → CameBack c.args.self.now.faults.armed c.args.self.now.faults.cut (map lane_state c.args.lanes.items) c.failures_of-failures.result c.come_back-own.new.self.armed c.come_back-own.new.self.cut c.come_back-own.result
back c =
    let now = c.args.self.now.faults in
    let new = c.come_back-own.new.self in
    subst (λ (ls : List SimLane). CameBack now.armed now.cut (map lane_state ls) c.failures_of-failures.result new.armed new.cut c.come_back-own.result) c.deref-7.ensures.value c.come_back-own.ensures.exact

pub returns-clause-content : goal.returns-clause-content
returns-clause-content c =
    let s = c.args.self.now in
    subst (λ (ls : List SimLane). Joined (lent_of s.loan) (map lane_view ls) s.content.items c.lay_row.new.content.items) c.deref-5.ensures.value c.lay_row.ensures

pub returns-clause-crash : goal.returns-clause-crash
returns-clause-crash c =
    let s = c.args.self.now in
    let all = c.take_newest.ensures in
    passes_ranges s.content.items _ (synced (log_of s.history)) (synced (log_of c.take_newest.new.self)) (log_of s.history) (log_of c.take_newest.new.self) _ _ _ _ _ _ all.ranges
    all.past all.began all.synced

pub returns-clause-takes_back : goal.returns-clause-takes_back
returns-clause-takes_back c =
    let s = c.args.self.now in
    let lanes = c.args.lanes.items in
    let all = c.take_newest.ensures in
    let read : Joined (lent_of s.loan) (map lane_view lanes) s.content.items c.lay_row.new.content.items =
    subst (λ (ls : List SimLane). Joined (lent_of s.loan) (map lane_view ls) s.content.items c.lay_row.new.content.items) c.deref-5.ensures.value c.lay_row.ensures in
    let last : Joined (lent_of s.loan) (map newest_view lanes) (latest_of s.latest s.content.items) (latest_of c.join.new.self c.lay_row.new.content.items) =
    rw (← c.deref-3.ensures.value, ← c.deref-2.ensures.value) (c.join.ensures.joined c.lay_row.new.content.items (rw (c.deref-3.ensures.value, c.deref-2.ensures.value) read)) in
    let more = c.come_back-own.result in
    let own : c.saturating_add-self-2.result ≡ counted s.refused more = c.saturating_add-self-2.ensures in
    record {
      ranges = record { began = all.began; past = all.past; written = all.ranges };
      written = written_back (lent_of s.loan) lanes (newest (log_of s.history)) (newest (log_of c.take_newest.new.self)) (rw (s.newest, all.newest, c.over-last.ensures, c.deref-6.ensures.value) last);
      faults = (more, own, subst (λ (n : ℕ). CameBack s.faults.armed s.faults.cut (map lane_state lanes) n c.come_back-own.new.self.armed c.come_back-own.new.self.cut more) (failed c) (back c));
    }

pub returns-clause-back : goal.returns-clause-back
returns-clause-back c = c.nothing-self.ensures

pub returns-clause-failures : goal.returns-clause-failures
returns-clause-failures c = c.saturating_add-self.ensures ∙ ap (λ (n : ℕ). counted c.args.self.now.failures n) (failed c) ∙ counted_once c.args.self.now.failures (lane_failures (map lane_view c.args.lanes.items))

pub returns-clause-calls : goal.returns-clause-calls
returns-clause-calls c = refl

pub returns-clause-counts_lanes : goal.returns-clause-counts_lanes
returns-clause-counts_lanes c =
    subst (λ (ls : List SimLane). CountsLanes (map lane_state ls) c.args.self.now.lane_calls c.count_calls.new.counts) c.deref-8.ensures.value c.count_calls.ensures
