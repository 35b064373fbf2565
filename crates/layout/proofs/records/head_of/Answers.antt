use Rattle.layout.proofs.SpelledRecords.{filled_head}
use Rattle.layout.proofs.records.head_of.Goals as goal

pub returns-clause-value : goal.returns-clause-value
returns-clause-value c = let filled = filled_head c.args.r.now in cc
