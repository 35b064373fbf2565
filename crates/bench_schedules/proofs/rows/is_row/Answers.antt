use Rattle.std.proofs.{Common.{◌≤◌, length, All, arith, subst}, lemmas.{Bool.Decides.nat_tests, List.take_all}}
use Rattle.bench_schedules.specs.Orders.{IsTurn}
use Rattle.bench_schedules.proofs.rows.is_row.Goals as goal

pub returns : goal.returns
returns c = λ same.
    let lines = c.args.lines.now in
    let all : length lines ≤ c.row_length.result = grind (arith, nat_tests, same) in
    subst (All IsTurn) (take_all c.row_length.result lines all) c.row_length.ensures.turns
