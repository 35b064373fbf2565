use Rattle.std.{proofs.{Common.{◌≡◌, ◌≢◌, ℕ, ◌<◌, sym, ap, ◌∙◌, arith, eq-eqb, true≢false, w64}, lemmas.Bool.eqb-true}, specs.Int.bit_at}
use Rattle.std.proofs.lemmas.Nat.Bits.{bit_at-trailing_zeros, bit_at-zero}
use mathlib.Core.Logic.{dite}
use native.Mathlib.Decide.{ℕ_discrete}
use Rattle.board_model.proofs.hart_set.HartSet.is_empty.Goals as goal

-- a number that is not 0 has a bit
some_bit : (bits : ℕ) → bits < 256 → bits ≢ 0 → (h : ℕ) × (bit_at bits h ≡ 1)
some_bit bits small ne = let b = bit_at-trailing_zeros w64 bits (omega arith) (omega arith) in (_, b.1)

no_bit : (bits h : ℕ) → bit_at bits h ≡ 1 → bits ≢ 0
no_bit bits h one z = let e = ap (λ (n : ℕ). bit_at n h) z in let n = bit_at-zero h in omega arith

pub returns-clause-none : goal.returns-clause-none
returns-clause-none c =
    let bits = c.self.inside.bits in
    let same = c.self.view_is in (
      (λ t h has. no_bit bits h (ap (λ (n : ℕ). bit_at n h) same ∙ has) (eqb-true bits 0 t)),
      (λ none. eq-eqb bits 0 (dite (ℕ_discrete bits 0) (λ z. z) (λ ne.
          let w = some_bit bits c.self.invariant ne in absurd (none w.0 (sym (ap (λ (n : ℕ). bit_at n w.0) same) ∙ w.1))))),
    )

pub returns-clause-some : goal.returns-clause-some
returns-clause-some c = λ f.
    let bits = c.self.inside.bits in
    let w = some_bit bits c.self.invariant (λ z. true≢false (sym (eq-eqb bits 0 z) ∙ f)) in
    (w.0, sym (ap (λ (n : ℕ). bit_at n w.0) c.self.view_is) ∙ w.1)
