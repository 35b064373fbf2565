use Rattle.std.proofs.Common.{inr}
use Rattle.clap.specs.Words.{found_of}
use Rattle.sbigdb.proofs.parsed.options_of.Goals as goal

pub returns-in-Some-clause-named : goal.returns-in-Some-clause-named
returns-in-Some-clause-named g c =
    let reads = rw c.in-Some.is at c.in_ok-options.ensures.reads in
    (found_of c.in_ok-matches.matches, c.in_ok-matches.ensures.parsed, reads)

pub returns-in_ok-fault-in-None-clause-refused : goal.returns-in_ok-fault-in-None-clause-refused
returns-in_ok-fault-in-None-clause-refused g c =
    inr (inr (c.in_ok-fault-in-None.ensures, found_of c.in_ok-matches.matches, c.in_ok-matches.ensures.parsed, c.in_ok-options.ensures.none c.in-None.is))
