use Rattle.std.proofs.Common.{[], ◌∷◌}
use Rattle.tallies.proofs.BookKeeps.{opens}
use Rattle.tallies.proofs.book.NewBook.new.Goals as goal

pub of_words-requires : goal.of_words-requires
of_words-requires g c = opens _ (0 ∷ []) c.args.count
