use Rattle.std.proofs.Common.{subst}
use Rattle.tallies.{specs.{declared.book_views.BookView.BookView, Books.{Each, IsPart}}, proofs.Closing.part_stands}
use Rattle.tallies.proofs.book.Book+J+Entry.recall.Goals as goal

pub returns-clause-stands : goal.returns-clause-stands
returns-clause-stands g c =
    let with = c.gather.ensures.keeper in
    let told = subst (λ (v : BookView _). Each (IsPart v.log) v.parts) with c.look.ensures.told in
    part_stands c.args.keeper.now.log c.args.part told.0
