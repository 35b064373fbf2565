use Rattle.std.proofs.Common.{rules}
use Rattle.tallies.proofs.Closing.{are_standing, are_receipts}
use Rattle.tallies.proofs.book.Book+J+Entry.close.Goals as goal

pub returns-clause-told : goal.returns-clause-told
returns-clause-told g c = are_standing c.args.keeper.log c.args.keeper.parts (search rules)

pub returns-clause-all : goal.returns-clause-all
returns-clause-all g c = λ count. are_receipts g.J.Journal.parts c.args.keeper.log c.args.keeper.parts (search rules) (search rules) (search rules)
