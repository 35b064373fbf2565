use Rattle.std.proofs.Common.{map}
use Rattle.clap.specs.Words.{found_of}
use Rattle.board_session.proofs.ExaminerWords.{names_by, names_none}
use Rattle.board_session.proofs.examiner_usage.work_of.Goals as goal

pub returns-in-None-clause-none : goal.returns-in-None-clause-none
returns-in-None-clause-none g c =
    λ none. names_none (map g.S.AsStr.text c.args.words.now) (found_of c.in_ok-matches.matches) c.get_str-path.result c.in_ok-matches.ensures.parsed c.in-None.is c.get_str-path.ensures

pub returns-in-Some-clause-named : goal.returns-in-Some-clause-named
returns-in-Some-clause-named g c =
    let words = map g.S.AsStr.text c.args.words.now in
    let flag = c.get_flag-is_memory.ensures in
    rw c.asked_of.ensures (names_by words (found_of c.in_ok-matches.matches) c.in-Some.path c.get_str-path.result c.get_flag-is_memory.result c.in_ok-matches.ensures.parsed c.in-Some.is c.get_str-path.ensures flag.none flag.value flag.other)
