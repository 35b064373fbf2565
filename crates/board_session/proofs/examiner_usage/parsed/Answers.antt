use Rattle.std.proofs.Common.{◌∙◌, map, IfErr, IfOk, ap, subst}
use Rattle.clap.specs.Words.{App, HasKind, fault_of, found_of, is_simple_and_free}
use Rattle.command_line.specs.Parses.{AreParsed}
use Rattle.board_session.proofs.ExaminerWords.{sbidisk_free}
use Rattle.board_session.proofs.examiner_usage.parsed.Goals as goal

pub parse-requires : goal.parse-requires
parse-requires g c = ap is_simple_and_free c.in_ok-command.ensures ∙ sbidisk_free

pub returns-clause-parsed : goal.returns-clause-parsed
returns-clause-parsed g c =
    let words = map g.S.AsStr.text c.args.words.now in
    subst (λ (a : App). IfOk c.parse.result (λ m. AreParsed a words (found_of m))) c.in_ok-command.ensures c.parse.ensures.parsed

pub returns-clause-refused : goal.returns-clause-refused
returns-clause-refused g c =
    let words = map g.S.AsStr.text c.args.words.now in
    subst (λ (a : App). IfErr c.parse.result (HasKind (fault_of a words))) c.in_ok-command.ensures c.parse.ensures.refused
