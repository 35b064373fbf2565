-- How large the number is that digits write.
use Rattle.std.proofs.{Common.{◌≡◌, ℕ, ◌+◌, ◌*◌, ◌^◌, ◌<◌, ◌≤◌, arith}, Math.{Nat.mul-le-mul_left, Pow.pow_mono}, lemmas.Nat.pow-add}

sixteen : (i : ℕ) → 2 ^ (4 * (i + 1)) ≡ 16 * 2 ^ (4 * i)
sixteen i =
    let split : 2 ^ (4 * i + 4) ≡ 2 ^ (4 * i) * 2 ^ 4 = pow-add 2 (4 * i) 4 in
    let regroup : 4 * (i + 1) ≡ 4 * i + 4 = omega arith in
    rw regroup (omega (arith, split))

-- one digit more
pub grown : (radix value digit i : ℕ) → radix ≤ 16 → digit < radix → value < 2 ^ (4 * i) → value * radix + digit < 2 ^ (4 * (i + 1))
grown radix value digit i r d v = rw (sixteen i) (omega (arith, mul-le-mul_left value r))

-- 20 digits are below 2 ^ 80
pub narrow : (i n : ℕ) → n < 2 ^ (4 * i) → i ≤ 20 → n < 2 ^ 80
narrow i n h k = let p : 2 ^ (4 * i) ≤ 2 ^ 80 = pow_mono {i = 4 * i} {j = 80} (omega arith) in omega arith
