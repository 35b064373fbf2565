use Rattle.std.proofs.{Common.{Some, ap, arith, drop, length, refl, take, ◌++◌, ◌+◌, ◌<◌, ◌∙◌, ◌≡◌}, lemmas.List.take-append-drop}
use Rattle.tallies.specs.Seats.{IsSeatIn, harts_in, one_by_one, views_by_seat, all_views}
use Rattle.tallies.proofs.Seatings.{by_seat_push, all_push, are_push, one_rest, length_rest, length_all, by_seat_done, in_order}
use Rattle.tallies.proofs.seats.split.Goals as goal

pub loop-place-preserved : goal.loop-place-preserved
loop-place-preserved g c =
    let inv = c.loop-place.invariant in
    let seats = c.loop-place.seats.items in
    let harts = harts_in c.loop-place.rest in
    let one = c.split_first-one.result.0 in
    let e = c.split_first-one.ensures in
    let left = inv.left in
    let some_left : 0 < length harts = omega arith in
    let pushed = c.push.ensures.items in
    let mine : harts_in one ≡ take 1 harts = ap (λ d. d.harts) e.first.1 in
    let others : harts_in c.split_first-one.result.1 ≡ drop 1 harts = ap (λ d. d.harts) e.others.1 in
    record {
      seat = e.others.0;
      are = rw pushed (are_push (IsSeatIn (g.T.SeatTable.id c.args.table.now)) seats (Some one) inv.are e.first.0);
      apart = rw (pushed, others) (by_seat_push harts_in seats (Some one) _ ∙ (rw mine (ap (λ l. views_by_seat harts_in seats ++ l) (one_rest harts some_left)) ∙ inv.apart));
      harts = rw (pushed, others) (all_push harts_in seats (Some one) (drop 1 harts) ∙ (rw mine (ap (λ l. all_views harts_in seats ++ l) (take-append-drop 1 harts)) ∙ inv.harts));
      count = c.push.ensures.len ∙ ap (λ n. n + 1) inv.count;
      left = rw others (let n = length_rest harts some_left in omega arith);
    }

pub loop-place-init : goal.loop-place-init
loop-place-init g c =
    let size = length_all (λ v. v.hart) (harts_in c.args.seat) 0 (g.T.SeatTable.count c.args.table.now) c.requires.all in
    record { seat = c.requires.seat; are = rw c.new-seats.ensures tt; apart = rw c.new-seats.ensures refl; harts = rw c.new-seats.ensures refl; count = rw c.new-seats.ensures refl; left = omega arith }

pub returns-clause-order : goal.returns-clause-order
returns-clause-order g c =
    let inv = c.loop-place.invariant in
    let left = inv.left in
    let size = c.harts-place-end.ensures.value in
    let end = c.loop-place-test.false in
    let none : length (harts_in c.loop-place.rest) ≡ 0 = omega arith in
    in_order harts_in (λ v. v.hart) c.loop-place.seats.items (harts_in c.args.seat) (g.T.SeatTable.count c.args.table.now)
    (by_seat_done harts_in c.loop-place.seats.items (harts_in c.loop-place.rest) (one_by_one (harts_in c.args.seat)) none inv.apart) c.requires.all
