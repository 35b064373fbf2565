-- Words that are told, as segments are made.
use Rattle.std.proofs.Common.{ℕ, List, [], ◌∷◌, ◌++◌, ◌≡◌, ◌⊎◌, ◌+◌, ◌*◌, ◌<◌, ◌≤◌, length, refl, sym, ap, subst, ◌∙◌, inl, inr, arith, length-append}
use Rattle.std.{specs.Prelude.slice_index, proofs.{lemmas.{Bool.cases_lt, List.get_or_append_left}, Math.Seq.get_or-append_seam}}
use Rattle.state_space.specs.declared.word_pool.WordPool.{WordPool}
use Rattle.board_space.specs.Tracked.{AreWithin, IsTracked, IsKept, segment, segment_count}

module _ (old new : WordPool) (key : List ℕ) (counted : segment_count new ≡ segment_count old + 1) (added : segment new (segment_count old) ≡ key)
    (stay : (n : ℕ) → n < segment_count old → segment new n ≡ segment old n) where
  pub kept_told : (k : ℕ) → IsKept old key k → IsTracked new k
  kept_told k kept =
      elim kept [
        | inl t ↦ (
            let same : segment new t.number ≡ segment old t.number = stay t.number t.known in
            record {
              number = t.number;
              place = t.place;
              known = omega (arith, counted, t.known);
              within = subst (λ (s : List ℕ). t.place < length s) (sym same) t.within;
              is = ap (λ (s : List ℕ). slice_index s t.place) same ∙ t.is;
            })
        | inr p ↦ record {
          number = segment_count old;
          place = p.0;
          known = omega (arith, counted);
          within = subst (λ (s : List ℕ). p.0 < length s) (sym added) p.1;
          is = ap (λ (s : List ℕ). slice_index s p.0) added ∙ p.2;
        }
      ]

-- the words of a segment lie within
pub segment_within : (tracked : WordPool) (bytes s : ℕ) → AreWithin tracked bytes → s < segment_count tracked → (j : ℕ) → j < length (segment tracked s) → 8 * slice_index (segment tracked s) j + 8 ≤ bytes
segment_within tracked bytes s within known j low =
    within (slice_index (segment tracked s) j) (record { number = s; place = j; known = known; within = low; is = refl })

-- no segment is being made
pub kept_none : (tracked : WordPool) (made : List ℕ) (k : ℕ) → length made ≡ 0 → IsKept tracked made k → IsTracked tracked k
kept_none tracked made k none kept =
    elim kept [ inl t ↦ t | inr p ↦ absurd (omega (arith, none, p.1)) ]

module _ (tracked : WordPool) (made : List ℕ) (word : ℕ) where
  pub kept_more : (k : ℕ) → IsKept tracked made k → IsKept tracked (made ++ word ∷ []) k
  kept_more k kept =
      elim kept [
        | inl t ↦ inl t
        | inr p ↦ inr (p.0, omega (arith, p.1, length-append made (word ∷ [])), get_or_append_left made (word ∷ []) 0 p.0 p.1 ∙ p.2)
      ]

  pub kept_last : IsKept tracked (made ++ word ∷ []) word
  kept_last = inr (length made, omega (arith, length-append made (word ∷ [])), get_or-append_seam made word [] 0)

  pub kept_only : (k : ℕ) → IsKept tracked (made ++ word ∷ []) k → IsKept tracked made k ⊎ (k ≡ word)
  kept_only k kept =
      elim kept [
        | inl t ↦ inl (inl t)
        | inr p ↦ elim (cases_lt p.0 (length made)) [
          | inl below ↦ inl (inr (p.0, below, sym (get_or_append_left made (word ∷ []) 0 p.0 below) ∙ p.2))
          | inr from ↦ (
              let at : p.0 ≡ length made = omega (arith, from, p.1, length-append made (word ∷ [])) in
              inr (sym p.2 ∙ (ap (λ (i : ℕ). slice_index (made ++ word ∷ []) i) at ∙ get_or-append_seam made word [] 0)))
        ]
      ]
