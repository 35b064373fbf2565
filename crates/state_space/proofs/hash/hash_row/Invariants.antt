use Rattle.std.proofs.Common.{◌≡◌, drop}
use Rattle.state_space.specs.Hash.{hash_from, HASH_SEED}
use Rattle.state_space.proofs.hash.hash_row.Given as goal

abbrev pub invariant-loop-number : goal.invariant-loop-number
invariant-loop-number l = hash_from l.hash (drop l.number-index l.row) ≡ hash_from HASH_SEED l.row
