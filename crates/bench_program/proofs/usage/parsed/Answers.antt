use Rattle.std.proofs.{Common.{◌∙◌, map, ap, subst}, lemmas.Result.IfOk-weaker}
use Rattle.clap.specs.Words.{App, app_of, found_of, is_simple_and_free}
use Rattle.command_line.specs.Parses.{AreParsed}
use Rattle.bench_program.proofs.{Ends.not_taken, Simple.sbibench_free}
use Rattle.bench_program.proofs.usage.parsed.Goals as goal

pub parse-requires : goal.parse-requires
parse-requires g c = ap is_simple_and_free c.in_ok-command.ensures.1 ∙ sbibench_free c.in_ok-command.ensures.0

pub returns-clause-parsed : goal.returns-clause-parsed
returns-clause-parsed g c =
    let made = c.in_ok-command in
    let words = map g.S.AsStr.text c.args.words.now in
    IfOk-weaker c.parse.result _ _ (λ m h. (made.ensures.0, subst (λ (a : App). AreParsed a words (found_of m)) made.ensures.1 h)) c.parse.ensures.parsed

pub returns-clause-refused : goal.returns-clause-refused
returns-clause-refused g c =
    let made = c.in_ok-command in
    not_taken c.parse.result (app_of made.field-0) made.ensures.0 (map g.S.AsStr.text c.args.words.now) made.ensures.1 c.parse.ensures.refused
