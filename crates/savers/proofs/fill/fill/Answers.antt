use Rattle.std.proofs.Common.{◌∙◌, ◌≡◌, ◌++◌, ◌∷◌, [], ℕ, ap, subst, refl, arith}
use Rattle.savers.specs.{declared.view.TicketView.TicketView, Saved.PageStands}
use Rattle.savers.proofs.Filling.{one_more, one_fewer, share_kept, calls_more, calls_made, none_done, counts_failed, calls_failed, filled_more, ends_past, ends_full}
use Rattle.savers.proofs.fill.fill.Goals as goal

pub loop-place-preserved : goal.loop-place-preserved
loop-place-preserved g c =
    let facts = g.L.Lane.lane_facts in
    let size = c.args.snapshot.now.shape.now in
    let so_far = c.loop-place.invariant in
    let place = c.loop-place.place in
    let written = c.in_ok-write_place.ensures in
    let drawn = c.loop-place.saver.seat.me.0.drawn in
    let after = c.draw-number.new.seat.me.0.drawn in
    let number = c.draw-number.result in
    let is : after ≡ drawn ++ number ∷ [] = ap (λ (v : TicketView). v.drawn) c.draw-number.ensures.drawn in
    let page = c.in-Some.ensures.some in
    let stands = subst (λ (k : ℕ). PageStands c.args.snapshot.now.ram.now (facts c.write_place.new.lane).content place k c.args.snapshot.now.serial) page.0 written.stands in
    record {
      seat = c.draw-number.ensures.seat;
      filled = refl;
      drawn = one_more drawn after number place is so_far.drawn;
      left = one_fewer c.loop-place.saver.seat.me.0 c.draw-number.new.seat.me.0 number place c.places-place-end.result c.draw-number.ensures.drawn so_far.left c.loop-place-test.true c.places-place-end.ensures.range.1;
      pages = filled_more size c.args.snapshot.now.ram.now c.args.snapshot.now.serial drawn after number place (facts c.loop-place.saver.lane).content (facts c.write_place.new.lane).content
          is so_far.drawn page.1 c.write_place.ensures.elsewhere stands so_far.pages;
      as_long = c.write_place.ensures.elsewhere.as_long ∙ so_far.as_long;
      first = c.write_place.ensures.first ∙ so_far.first;
      calls = calls_more (facts c.args.saver.now.lane).calls (facts c.loop-place.saver.lane).calls (facts c.write_place.new.lane).calls place written.calls.ok so_far.calls;
      failures = written.failures.ok ∙ so_far.failures;
    }

pub returns-in_default-clause-done : goal.returns-in_default-clause-done
returns-in_default-clause-done g c =
    let so_far = c.loop-place.invariant in
    ends_past c.args.snapshot.now.shape.now c.args.snapshot.now.ram.now c.args.snapshot.now.serial c.loop-place.saver.seat.me.0.drawn c.draw-number.new.seat.me.0.drawn c.draw-number.result c.loop-place.place
    c.loop-place.saver.filled (g.L.Lane.lane_facts c.loop-place.saver.lane).content (ap (λ (v : TicketView). v.drawn) c.draw-number.ensures.drawn) so_far.drawn so_far.filled
    (omega (arith, c.loop-place-test.true, c.places-place-end.ensures.value)) c.in_default.ensures.none so_far.pages

pub returns-clause-done : goal.returns-clause-done
returns-clause-done g c =
    let so_far = c.loop-place.invariant in
    ends_full c.args.snapshot.now.shape.now c.args.snapshot.now.ram.now c.args.snapshot.now.serial c.loop-place.saver.seat.me.0.drawn c.loop-place.place
    c.loop-place.saver.filled (g.L.Lane.lane_facts c.loop-place.saver.lane).content so_far.drawn so_far.filled
    (omega (arith, c.loop-place-test.false, c.loop-place.auto.place-end, c.places-place-end.ensures.value)) so_far.pages

pub returns-in_default-clause-draws : goal.returns-in_default-clause-draws
returns-in_default-clause-draws g c =
    share_kept c.loop-place.saver.seat.me.0 c.draw-number.new.seat.me.0 c.draw-number.result c.loop-place.place c.places-place-end.result c.draw-number.ensures.drawn c.loop-place.invariant.left c.loop-place-test.true
    c.places-place-end.ensures.range.1 c.loop-place.invariant.drawn

pub returns-in_default-clause-calls : goal.returns-in_default-clause-calls
returns-in_default-clause-calls g c =
    calls_made tt (g.L.Lane.lane_facts c.args.saver.now.lane).calls (g.L.Lane.lane_facts c.loop-place.saver.lane).calls c.loop-place.place c.loop-place.saver.filled c.loop-place.invariant.filled c.loop-place.invariant.calls

pub returns-in_err-write_place-clause-draws : goal.returns-in_err-write_place-clause-draws
returns-in_err-write_place-clause-draws g c =
    share_kept c.loop-place.saver.seat.me.0 c.draw-number.new.seat.me.0 c.draw-number.result c.loop-place.place c.places-place-end.result c.draw-number.ensures.drawn c.loop-place.invariant.left c.loop-place-test.true
    c.places-place-end.ensures.range.1 c.loop-place.invariant.drawn

pub returns-in_err-write_place-clause-done : goal.returns-in_err-write_place-clause-done
returns-in_err-write_place-clause-done g c =
    none_done c.from_residual.result _ c.from_residual.ensures.0

pub returns-in_err-write_place-clause-failures : goal.returns-in_err-write_place-clause-failures
returns-in_err-write_place-clause-failures g c =
    counts_failed c.from_residual.result (g.L.Lane.lane_facts c.args.saver.now.lane).failures (g.L.Lane.lane_facts c.loop-place.saver.lane).failures (g.L.Lane.lane_facts c.write_place.new.lane).failures c.from_residual.ensures.0 c.loop-place.invariant.failures
    c.in_err-write_place.ensures.failures.err

pub returns-in_err-write_place-clause-calls : goal.returns-in_err-write_place-clause-calls
returns-in_err-write_place-clause-calls g c =
    calls_failed c.from_residual.result (g.L.Lane.lane_facts c.args.saver.now.lane).calls (g.L.Lane.lane_facts c.loop-place.saver.lane).calls (g.L.Lane.lane_facts c.write_place.new.lane).calls c.loop-place.place c.loop-place.saver.filled c.from_residual.ensures.0 c.loop-place.invariant.filled
    c.loop-place.invariant.calls c.in_err-write_place.ensures.calls.err

pub returns-clause-draws : goal.returns-clause-draws
returns-clause-draws g c =
    omega (arith, c.loop-place.invariant.left, c.loop-place.invariant.drawn)

pub returns-clause-calls : goal.returns-clause-calls
returns-clause-calls g c =
    calls_made tt (g.L.Lane.lane_facts c.args.saver.now.lane).calls (g.L.Lane.lane_facts c.loop-place.saver.lane).calls c.loop-place.place c.loop-place.saver.filled c.loop-place.invariant.filled c.loop-place.invariant.calls
