use Rattle.std.proofs.Common.{◌≡◌, ◌<◌, length, sym, ap, ◌∙◌, subst, arith}
use Rattle.atomic_table.specs.Table.{Me, Joins}
use Rattle.tallies.specs.{declared.book_views.BookView.BookView, Books.{keeper_view, part_seat, first_of, with_entry, nobody, IsKept}}
use Rattle.tallies.proofs.BookKeeps.{notes, parts_off}
use Rattle.tallies.proofs.book.Book.note_as.Goals as goal

pub join_seat-requires : goal.join_seat-requires
join_seat-requires g c =
    let t = c.self in
    let k = c.keeper.inside.seat in
    let p = c.part.inside.seat in
    let is : k.me.0 ≡ keeper_view g.J.Journal.parts k.me.0.log k.me.0.parts = ap (λ (m : Me (Unit {0}) (BookView _)). m.0) c.keeper.invariant.1 in
    let at : p.me.0 ≡ part_seat (first_of p.me.0.parts) = ap (λ (m : Me (Unit {0}) (BookView _)). m.0) c.part.invariant.1 in (
      c.keeper.invariant.0 ∙ sym t.invariant.1,
      c.part.invariant.0 ∙ sym t.invariant.1,
      ap (λ (m : Me (Unit {0}) (BookView _)). m.1) c.part.invariant.1,
      t.invariant.0,
      subst (λ (x : (BookView _) × (BookView _)). Joins IsKept k.id x.0 p.id x.1 (with_entry g.A.Adding.entry x.0 x.1) nobody) (λ i. (sym is i, sym at i)) (notes k.id p.id g.J.Journal.parts g.A.Adding.entry k.me.0.log k.me.0.parts (first_of p.me.0.parts)),
    )

pub split_seat-seat-requires : goal.split_seat-seat-requires
split_seat-seat-requires g c =
    let t = c.self in
    let j = c.join_seat.ensures in
    let k = c.join_seat.new.seat in
    (j.0 ∙ c.keeper.invariant.0 ∙ sym t.invariant.1, t.invariant.0, parts_off k.id k.me.0 (subst (λ (m : Me (Unit {0}) (BookView _)). 0 < length m.0.parts) (sym j.2) (omega arith)))
