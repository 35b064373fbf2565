-- From what a schedule is drawn. Source: docs/SCRIPT.md, "Schedules".
use Rattle.std.specs.Prelude.{ℕ, List, bit_xor}
use Rattle.rand_xoshiro.specs.SplitMix64.{splitmix_seed}
use Rattle.rand_xoshiro.specs.Xoshiro256.{of_seed, plus_plus}

-- the state of xoshiro256++ that a number seeds
abbrev pub seeded : ℕ → List ℕ
seeded n = of_seed (splitmix_seed 32 n)

-- the state from which schedule k of a seed is drawn: k's bits turn those of the first word that the seed gives
abbrev pub generator_of : ℕ → ℕ → List ℕ
generator_of seed k = seeded (bit_xor (plus_plus (seeded seed)).0 k)
