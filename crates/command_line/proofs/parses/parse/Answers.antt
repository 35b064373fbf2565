use Rattle.std.proofs.Common.{map}
use Rattle.clap.specs.Words.{app_of, fault_of}
use Rattle.command_line.proofs.Parsing.{parsed, refused}
use Rattle.command_line.proofs.parses.parse.Goals as goal

pub returns-clause-parsed : goal.returns-clause-parsed
returns-clause-parsed g c =
    let tried = c.try_get_matches_from in
    parsed tried.result (app_of c.args.command) (map g.S.AsStr.text c.args.words.now) c.requires tried.ensures.matches (tried.ensures.kinds c.requires)

pub returns-clause-refused : goal.returns-clause-refused
returns-clause-refused g c =
    let tried = c.try_get_matches_from in
    refused tried.result (fault_of (app_of c.args.command) (map g.S.AsStr.text c.args.words.now)) (tried.ensures.kinds c.requires)
