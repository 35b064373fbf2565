use Rattle.std.proofs.Common.{map}
use Rattle.clap.specs.Words.{app_of}
use Rattle.board_session.proofs.Parses.{finds, is_free, refuses}
use Rattle.board_session.proofs.parsed.parsed.Goals as goal

pub parse-requires : goal.parse-requires
parse-requires g c =
    let made = c.in_ok-command in
    is_free (app_of made.field-0) made.ensures.0 made.ensures.2

pub returns-clause-matches : goal.returns-clause-matches
returns-clause-matches g c =
    let made = c.in_ok-command in
    finds c.parse.result (app_of made.field-0) made.ensures.0 (map g.S.AsStr.text c.args.words.now) made.ensures.1 made.ensures.2 c.parse.ensures.parsed

pub returns-clause-refused : goal.returns-clause-refused
returns-clause-refused g c =
    let made = c.in_ok-command in
    refuses c.parse.result (app_of made.field-0) made.ensures.0 (map g.S.AsStr.text c.args.words.now) made.ensures.1 made.ensures.2 c.parse.ensures.refused
