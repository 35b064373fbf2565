-- The senders of a hart's pending interrupts, read off a machine's table.
use Rattle.std.proofs.Common.{ℕ, zero, suc, List, [], Bool, true, false, ◌≡◌, ◌<◌, ◌^◌, length, refl, sym, ap, subst, ◌∙◌, arith}
use Rattle.std.{specs.{Prelude.{◌==◌, get_or, take}, Int.bit_at}, proofs.lemmas.List.{get_or-map, get_or-take}}
use Rattle.std.proofs.lemmas.Nat.Bits.{bit_at-lt, same_from_bits_below}
use Rattle.model_board.specs.{Plain.row_in, Rests.{IsCopy, table_copied}, declared.tables.TableCopy.TableCopy}
use Rattle.sbi_calls.specs.Both.{TableState}
use Rattle.tallies.proofs.Seatings.{at_all}

same_bit : (x y : ℕ) → x < 2 → y < 2 → (x == 1) ≡ (y == 1) → x ≡ y
same_bit zero zero a b e = refl
same_bit zero (suc zero) a b e = let both : false ≡ true = e in absurd (cc)
same_bit zero (suc (suc y)) a b e = absurd (omega (arith, b))
same_bit (suc zero) zero a b e = let both : true ≡ false = e in absurd (cc)
same_bit (suc zero) (suc zero) a b e = refl
same_bit (suc zero) (suc (suc y)) a b e = absurd (omega (arith, b))
same_bit (suc (suc x)) y a b e = absurd (omega (arith, a))

same_senders : (n x y : ℕ) → x < 2 ^ n → y < 2 ^ n → row_in n x ≡ row_in n y → x ≡ y
same_senders n x y low other e =
    same_from_bits_below n x y low other
    (λ i lt. same_bit (bit_at x i) (bit_at y i) (bit_at-lt x i) (bit_at-lt y i)
    (sym (at_all (λ s. bit_at x s == 1) false n i lt) ∙ (ap (λ (r : List Bool). get_or r i false) e ∙ at_all (λ s. bit_at y s == 1) false n i lt)))

module _ (n h : ℕ) (a : TableCopy) (low : h < n) (copy : IsCopy n a) where
  row_at : get_or (table_copied n a).pairs h [] ≡ row_in n (get_or (take n a.pending) h 0)
  row_at =
      get_or-map (row_in (length (take n a.states))) (take n a.pending) h 0 [] (omega (arith, low, copy.0.long, copy.1))
      ∙ ap (λ (k : ℕ). row_in k (get_or (take n a.pending) h 0)) copy.1

  small : get_or (take n a.pending) h 0 < 2 ^ n
  small = subst (λ (k : ℕ). get_or (take n a.pending) h 0 < 2 ^ k) copy.1 (copy.0.within h)

pub one_senders : (n h : ℕ) (a b : TableCopy) → h < n → IsCopy n a → IsCopy n b → table_copied n a ≡ table_copied n b → get_or a.pending h 0 ≡ get_or b.pending h 0
one_senders n h a b low left right e =
    sym (get_or-take n a.pending h 0 low)
    ∙ (same_senders n (get_or (take n a.pending) h 0) (get_or (take n b.pending) h 0) (small n h a low left) (small n h b low right)
    (sym (row_at n h a low left) ∙ (ap (λ (t : TableState). get_or t.pairs h []) e ∙ row_at n h b low right))
    ∙ get_or-take n b.pending h 0 low)
