use Rattle.std.proofs.Common.{◌≡◌, take}
use Rattle.machine.proofs.copies.copy_harts.Given as goal

abbrev pub invariant-loop-hart : goal.invariant-loop-hart
invariant-loop-hart l = l.copies.items ≡ take l.hart-index l.harts
