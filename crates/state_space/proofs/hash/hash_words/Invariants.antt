use Rattle.std.proofs.Common.{◌≡◌, drop}
use Rattle.state_space.specs.Hash.{hash_from, HASH_SEED}
use Rattle.state_space.proofs.hash.hash_words.Given as goal

abbrev pub invariant-loop-word : goal.invariant-loop-word
invariant-loop-word l = hash_from l.hash (drop l.word-index l.words) ≡ hash_from HASH_SEED l.words
