use Rattle.std.proofs.Common.{◌≡◌, ◌++◌, [], ◌∷◌, map, sym, ap, ◌∙◌, append_assoc, rules}
use Rattle.tallies.{specs.Seats.{IsSeatIn, harts_in, numbers_from, all_views}, proofs.Seatings.{all_in_order, are_pop, is_some, last_seat}}
use Rattle.tallies.proofs.seats.join.Goals as goal

pub unwrap-whole-requires : goal.unwrap-whole-requires
unwrap-whole-requires g c =
    let e : c.args.seats.items ≡ c.pop.new.self.items ++ c.unwrap-last.result ∷ [] = rw c.unwrap-last.ensures at c.pop.ensures.items in
    is_some (IsSeatIn (g.T.SeatTable.id c.args.table.now)) c.unwrap-last.result (are_pop (IsSeatIn (g.T.SeatTable.id c.args.table.now)) c.pop.new.self.items c.unwrap-last.result (rw e at c.requires.seats)).1

pub loop-before-init : goal.loop-before-init
loop-before-init g c =
    let e : c.args.seats.items ≡ c.pop.new.self.items ++ c.unwrap-last.result ∷ [] = rw c.unwrap-last.ensures at c.pop.ensures.items in
    let p = last_seat harts_in (IsSeatIn (g.T.SeatTable.id c.args.table.now)) c.args.seats.items c.pop.new.self.items c.unwrap-last.result c.unwrap-whole.result e c.unwrap-whole.ensures c.requires.seats in
    record { seat = p.1; are = p.0; harts = sym p.2 }

pub unwrap-requires : goal.unwrap-requires
unwrap-requires g c =
    is_some (IsSeatIn (g.T.SeatTable.id c.args.table.now)) c.in-Some.before
    (are_pop (IsSeatIn (g.T.SeatTable.id c.args.table.now)) c.pop-in-loop-before.new.self.items c.in-Some.before (rw c.in-Some.ensures.items at c.loop-before.invariant.are)).1

pub join_two-whole-requires-clause-seat : goal.join_two-whole-requires-clause-seat
join_two-whole-requires-clause-seat g c =
    (last_seat harts_in (IsSeatIn (g.T.SeatTable.id c.args.table.now)) c.loop-before.seats.items c.pop-in-loop-before.new.self.items c.in-Some.before c.unwrap.result c.in-Some.ensures.items c.unwrap.ensures c.loop-before.invariant.are).1

pub loop-before-preserved : goal.loop-before-preserved
loop-before-preserved g c =
    let new = c.pop-in-loop-before.new.self.items in
    let mine = harts_in c.unwrap.result in
    let rest = harts_in c.loop-before.whole in
    let p = last_seat harts_in (IsSeatIn (g.T.SeatTable.id c.args.table.now)) c.loop-before.seats.items new c.in-Some.before c.unwrap.result c.in-Some.ensures.items c.unwrap.ensures c.loop-before.invariant.are in
    let both : harts_in c.join_two-whole.result ≡ mine ++ rest = ap (λ d. d.harts) c.join_two-whole.ensures.both in
    record {
      seat = c.join_two-whole.ensures.seat;
      are = p.0;
      harts = ap (λ l. all_views harts_in new ++ l) both ∙ (sym (append_assoc (all_views harts_in new) mine rest) ∙ (ap (λ l. l ++ rest) (sym p.2) ∙ c.loop-before.invariant.harts));
    }

pub returns-clause-all : goal.returns-clause-all
returns-clause-all g c = λ order count.
    let whole : harts_in c.loop-before.whole ≡ all_views harts_in c.args.seats.items = search rules in
    ap (map (λ v. v.hart)) whole ∙ (all_in_order harts_in (λ v. v.hart) (IsSeatIn (g.T.SeatTable.id c.args.table.now)) c.args.seats.items c.requires.seats order ∙ ap (numbers_from 0) count)
