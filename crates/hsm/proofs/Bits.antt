-- Bits of the first word by the sets of harts that it has.
use Rattle.std.proofs.Common.{◌≡◌, ◌↔◌, ℕ, ◌+◌, ◌*◌, ◌-◌, ◌%◌, ◌^◌, ◌≤◌, Bool, true, false, true≢false, IsTrue, sym, ap, ◌∙◌, subst, arith}
use Rattle.std.{specs.Int.bit_at, proofs.{lemmas.Nat.{pow-add, Bits.bit_at-lt}, Math.Nat.{mod-mod_of_dvd, dvd-mul_right}}}
use Prim.Native.Nat.{◌∣◌}
use mathlib.Core.Logic.{dite}
use native.Mathlib.Decide.{ℕ_discrete}
use Rattle.board_model.specs.HartSets.{Has}

-- a test of a set tells the bit at the place of the hart
module _ (b : Bool) (set h found i : ℕ) (is : IsTrue b ↔ Has h set) (same : bit_at set h ≡ bit_at found i) where
  pub set_bit : b ≡ true → bit_at found i ≡ 1
  set_bit t = sym same ∙ is.0 t

  pub clear_bit : b ≡ false → bit_at found i ≡ 0
  clear_bit f =
      let bit = bit_at-lt found i in
      dite (ℕ_discrete (bit_at found i) 1) (λ one. absurd (true≢false (sym (is.1 (same ∙ one)) ∙ f))) (λ ne. omega arith)

-- the low bits of a number are those of its lowest byte
pub low_bits : (n k : ℕ) → k ≤ 8 → n % 256 % 2 ^ k ≡ n % 2 ^ k
low_bits n k le =
    let e : k + (8 - k) ≡ 8 = omega arith in
    let whole : 2 ^ k * 2 ^ (8 - k) ≡ 256 = sym (pow-add 2 k (8 - k)) ∙ ap (λ (m : ℕ). 2 ^ m) e in
    mod-mod_of_dvd (2 ^ k) {b = 256} n (subst (λ (m : ℕ). 2 ^ k ∣ m) whole (dvd-mul_right (2 ^ k) (2 ^ (8 - k))))
