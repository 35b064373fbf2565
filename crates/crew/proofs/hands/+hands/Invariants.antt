use Prim.Native.Nat.{◌+◌, ◌*◌}
use Rattle.crew.proofs.hands.+hands.Given as goal

abbrev pub decreases-made_by : goal.decreases-made_by
decreases-made_by g l = 2 * l.threads

abbrev pub decreases-others : goal.decreases-others
decreases-others g l = 2 * l.fewer + 1
