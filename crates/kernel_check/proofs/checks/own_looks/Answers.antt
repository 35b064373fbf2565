use Rattle.std.proofs.Common.{inr}
use Rattle.kernel_check.proofs.checks.own_looks.Goals as goal

pub returns-in_ok-one_look-in-Some-clause-looks : goal.returns-in_ok-one_look-in-Some-clause-looks
returns-in_ok-one_look-in-Some-clause-looks c =
    inr (c.in-Some.look, c.in_ok-one_look-in-Some.ensures, rw c.in-Some.is at c.in_ok-own_look.ensures.look)
