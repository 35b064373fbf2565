use Prim.Native.Nat.{◌+◌, ◌*◌}
use Rattle.std.specs.Prelude.{vec_len}
use Rattle.state_space.proofs.windows.+shares.Given as goal

abbrev pub decreases-with_shares : goal.decreases-with_shares
decreases-with_shares g l = 2 * vec_len l.workers

abbrev pub decreases-others : goal.decreases-others
decreases-others g l = 2 * vec_len l.rest + 1
