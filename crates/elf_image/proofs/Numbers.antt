-- A number of a file, where its bytes are all there, and where they are not.
use Rattle.std.proofs.{Common.{◌≡◌, ℕ, ◌+◌, ◌<◌, ◌≤◌, List, length, drop, arith}, lemmas.Bool.Decides.nat_tests}
use Rattle.byteorder.specs.Endian.{little_number}
use Rattle.elf_image.specs.Fields.{number_at}

pub number_at-none : (n place : ℕ) (bytes : List ℕ) → length bytes < place + n → number_at n place bytes ≡ 0
unfolding number_at
number_at-none n place bytes short = grind (arith, nat_tests)

pub number_at-some : (n place : ℕ) (bytes : List ℕ) → place + n ≤ length bytes → number_at n place bytes ≡ little_number n (drop place bytes)
unfolding number_at
number_at-some n place bytes there = grind (arith, nat_tests)
