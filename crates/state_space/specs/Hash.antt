-- A hash is a number that its words determine. Nothing else is used of it.
use Rattle.std.specs.Prelude.{ℕ, ◌*◌, ◌/◌, ◌%◌, ◌^◌, List, [], ◌∷◌, bit_xor}

abbrev pub HASH_SEED : ℕ
HASH_SEED = 0x9e3779b97f4a7c15

unfoldable pub mixed : ℕ → ℕ
mixed word =
    let folded = (bit_xor word (word / 2 ^ 32) * 0xd6e8feb86659fd93) % 2 ^ 64 in
    bit_xor folded (folded / 2 ^ 29)

abbrev pub hash_from : ℕ → List ℕ → ℕ
hash_from hash [] = hash
hash_from hash (word ∷ words) = hash_from (mixed (bit_xor hash word)) words
