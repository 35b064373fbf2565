-- The harts of a mask.
use Rattle.std.{proofs.{Common.{ℕ, ◌≡◌, ◌≢◌, ◌*◌, ◌%◌, ◌^◌, ◌<◌, ap, ◌∙◌, arith, inl, inr}, lemmas.Bool.cases_lt}, specs.Int.bit_at}
use Rattle.std.proofs.lemmas.Nat.{pow_below, Bits.{bit_at-pow_other, bit_at_above}}

pub one_alone : (mask h g : ℕ) → h < 8 → mask ≡ 1 * 2 ^ h % 2 ^ 8 → g ≢ h → bit_at mask g ≡ 1 → ⊥
one_alone mask h g low e ne has =
    let small : 2 ^ h < 2 ^ 8 = pow_below h 8 low in
    let is : mask ≡ 2 ^ h = omega (arith, e, small) in
    let none : bit_at mask g ≡ 0 = ap (λ (n : ℕ). bit_at n g) is ∙ bit_at-pow_other h g ne in
    omega (arith, has, none)

-- a set of harts that fits 8 bits has none from 8 on
pub of_eight : (targets t : ℕ) → targets % 2 ^ 8 ≡ targets → bit_at targets t ≡ 1 → t < 8
of_eight targets t few has =
    elim (cases_lt t 8) [
      | inl low ↦ low
      | inr high ↦ (
          let none : bit_at targets t ≡ 0 = bit_at_above targets 8 t (omega (arith, few)) high in
          omega (arith, has, none))
    ]
