use Rattle.std.proofs.Common.{inr}
use Rattle.clap.specs.Words.{found_of}
use Rattle.board_session.proofs.parsed.read_options.Goals as goal

pub returns-in-Some-clause-reads : goal.returns-in-Some-clause-reads
returns-in-Some-clause-reads g c =
    let reads = rw c.in-Some.is at c.in_ok-options.ensures.reads in
    (found_of c.in_ok-matches.matches, c.in_ok-matches.ensures.matches, reads)

pub returns-in_ok-fault-in-None-clause-refused : goal.returns-in_ok-fault-in-None-clause-refused
returns-in_ok-fault-in-None-clause-refused g c =
    inr (inr (c.in_ok-fault-in-None.ensures, (found_of c.in_ok-matches.matches, c.in_ok-matches.ensures.matches, c.in_ok-options.ensures.none c.in-None.is)))
