use Rattle.sbigdb.proofs.streams.script_told.Goals as goal

pub returns-clause-ranges : goal.returns-clause-ranges
returns-clause-ranges c = c.in_ok-told.ensures.ranges c.args.start.script.shape c.requires.ranges
