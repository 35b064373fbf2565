use Rattle.std.proofs.Common.{◌≡◌, ◌++◌, take}
use Rattle.kernel_check.specs.{Shown.looked, Tells.{EveryOrder, IsOnWith}}
use Rattle.kernel_check.proofs.told.are_rests.Given as goal

abbrev pub invariant-loop-look : goal.invariant-loop-look
invariant-loop-look l = record {
  same : l.explored ≡ l.initial.explored;
  every : EveryOrder l.explored (IsOnWith (λ memory. looked (take l.look-index l.looks) memory ++ l.rest ≡ l.bytes));
}
