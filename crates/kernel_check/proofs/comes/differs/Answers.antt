use Rattle.std.proofs.Common.{ap}
use Rattle.board_space.specs.Few.{AskedOrders}
use Rattle.kernel_check.proofs.Ending.{differ_by}
use Rattle.kernel_check.proofs.comes.differs.Goals as goal

pub returns-clause-differs : goal.returns-clause-differs
returns-clause-differs c =
    differ_by c.args.explored.now.asked c.end_of.new.explored.asked c.args.looks.now c.in_ok-one.field-0 c.in-Some.one c.has_other.result
    (ap (λ (e : AskedOrders). e.asked) c.end_of.ensures.same) c.in-Some.is c.in_ok-one.ensures.ends c.has_other.ensures.other
