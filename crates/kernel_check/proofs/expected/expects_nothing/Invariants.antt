use Rattle.std.proofs.Common.{◌≡◌, All, None, take}
use Rattle.kernel_check.proofs.expected.expects_nothing.Given as goal

abbrev pub invariant-loop-look : goal.invariant-loop-look
invariant-loop-look l = All (λ look. look.expected ≡ None) (take l.look-index l.looks)
