use Rattle.layout.proofs.SpelledRecords.{filled_saved}
use Rattle.layout.proofs.saved.fill_saved.Goals as goal

pub returns-clause-value : goal.returns-clause-value
returns-clause-value c = let filled = filled_saved c.args.sector.now c.args.saved.now in cc
