use Rattle.std.proofs.Common.{◌≡◌, take}
use Rattle.kernel_check.specs.Shown.{looked}
use Rattle.kernel_check.proofs.looks.bytes_shown.Given as goal

abbrev pub invariant-loop-look : goal.invariant-loop-look
invariant-loop-look l = l.shown.items ≡ looked (take l.look-index l.looks) l.memory
