use Rattle.std.proofs.{Common.{◌≡◌, ◌<◌, ◌∙◌, length, arith}, lemmas.Bool.Decides.nat_tests}
use Rattle.board_session.proofs.Reading.{kept_short, kept_full}
use Rattle.board_session.proofs.lines.keep.Goals as goal

pub returns-then-not-is_full : goal.returns-then-not-is_full
returns-then-not-is_full c =
    let line = c.args.line.now.items in
    let short : length line < 257 = grind (arith, nat_tests) in
    c.push.ensures.items ∙ kept_short line c.args.byte short

pub returns-else-not-is_full : goal.returns-else-not-is_full
returns-else-not-is_full c =
    let line = c.args.line.now.items in
    let full : length line ≡ 257 = grind (arith, nat_tests) in
    kept_full line c.args.byte full
