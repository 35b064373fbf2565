use Rattle.layout.proofs.SpelledRecords.{filled_trial, filled_no_trial}
use Rattle.layout.proofs.trials.fill_trial.Goals as goal

pub returns-in-None : goal.returns-in-None
returns-in-None c = let filled = filled_no_trial in cc

pub returns-in-Some : goal.returns-in-Some
returns-in-Some c = let filled = filled_trial c.args.sector.now c.in-Some.trial in cc
