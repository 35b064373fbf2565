use Rattle.std.proofs.Common.{sym, ap, ◌∙◌, subst}
use Rattle.atomic_table.specs.Table.{Me, Joins}
use Rattle.tallies.{specs.{declared.book_views.BookView.BookView, Books.{first_of, with_part, nobody, IsKept}}, proofs.BookKeeps.takes_in}
use Rattle.tallies.proofs.book.Book.gather.Goals as goal

pub join_seat-requires : goal.join_seat-requires
join_seat-requires g c =
    let t = c.self in
    let k = c.keeper.inside.seat in
    let p = c.part.inside.seat in (
      c.keeper.invariant.0 ∙ sym t.invariant.1,
      c.part.invariant.0 ∙ sym t.invariant.1,
      ap (λ (m : Me (Unit {0}) (BookView _)). m.1) c.part.invariant.1,
      t.invariant.0,
      subst (λ (w : (BookView _)). Joins IsKept k.id k.me.0 p.id w (with_part k.me.0 w) nobody) (sym (ap (λ (m : Me (Unit {0}) (BookView _)). m.0) c.part.invariant.1)) (takes_in k.id p.id k.me.0 (first_of p.me.0.parts)),
    )
