use Rattle.std.proofs.Common.{◌≡◌, ◌∙◌}
use Rattle.tests.proofs.Rows.{sits_alone, same_whole}
use Rattle.tests.proofs.crowd.+all_harts+fn-all_harts-join+arg3.Goals as goal

pub one_hart-requires-clause-acts : goal.one_hart-requires-clause-acts
one_hart-requires-clause-acts g t c =
    let by : c.unwrap-by.result ≡ c.args.first = (rw c.unwrap-by.ensures at c.new.ensures.some).0 in
    rw by (sits_alone c.args.first c.args.seat.me.0.harts c.requires.row.0 (c.requires.row.1 ∙ c.if-harts-eq1.true))

pub returns-clause-harts : goal.returns-clause-harts
returns-clause-harts g t c =
    let one = c.join-one.result.0.0 in
    let others = c.join-one.result.1.0 in
    same_whole c.args.seat.me.0 c.split_first-one.result.0.me.0 c.split_first-one.result.1.me.0 one.me.0 others.me.0 c.join_two.result.me.0
    c.split_first-one.ensures.first.1 c.split_first-one.ensures.others.1 c.join-one.ensures.first.1 c.join-one.ensures.second.1 c.join_two.ensures.both
