use Rattle.std.proofs.Common.{◌<◌, length, sym, ◌∙◌, subst}
use Rattle.tallies.{specs.declared.book_views.BookView.BookView, proofs.BookKeeps.parts_off}
use Rattle.tallies.proofs.book.Book.hand_out.Goals as goal

pub split_seat-seat-requires : goal.split_seat-seat-requires
split_seat-seat-requires g c =
    let t = c.self in
    let k = c.keeper.inside.seat in
    (c.keeper.invariant.0 ∙ sym t.invariant.1, t.invariant.0, parts_off k.id k.me.0 (subst (λ (v : (BookView _)). 0 < length v.parts) (sym c.keeper.view_is) c.requires.some))
