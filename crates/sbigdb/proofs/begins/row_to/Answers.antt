use Rattle.std.proofs.Common.{Ok}
use Rattle.sbigdb.proofs.Founds.{row_stops}
use Rattle.sbigdb.proofs.begins.row_to.Goals as goal

pub returns-clause-stops : goal.returns-clause-stops
returns-clause-stops g c =
    let found = c.in_ok-found.ensures.found in
    row_stops c.args.wanted.bench c.args.wanted.number c.args.script.now c.args.payloads.now c.in_ok-found.found found.0 (Ok c.in_ok-stop.stop) found.1 found.2 found.3 c.in_ok-stop.ensures.stops c.in_ok-stop.ensures.board
