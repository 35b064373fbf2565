-- A segment more.
use Rattle.std.proofs.{Common.{ℕ, ◌≡◌, ◌+◌, ◌<◌, List, length, slice_index, inl, inr, sym, ap, ◌∙◌, subst, arith}, lemmas.Bool.cases_lt}
use Rattle.state_space.specs.declared.word_pool.WordPool.{WordPool}
use Rattle.board_space.specs.Tracked.{segment, segment_count, IsTracked, IsKept}

module _ (old new : WordPool) (made : List ℕ) (counted : segment_count new ≡ segment_count old + 1) (added : segment new (segment_count old) ≡ made) (stay : (k : ℕ) → k < segment_count old → segment new k ≡ segment old k) where
  pub kept_tracked : (word : ℕ) → IsKept old made word → IsTracked new word
  kept_tracked word (inl t) = record {
    number = t.number;
    place = t.place;
    known = omega (arith, counted, t.known);
    within = subst (λ (s : List ℕ). t.place < length s) (sym (stay t.number t.known)) t.within;
    is = ap (λ (s : List ℕ). slice_index s t.place) (stay t.number t.known) ∙ t.is;
  }
  kept_tracked word (inr here) = record {
    number = segment_count old;
    place = here.0;
    known = omega (arith, counted);
    within = subst (λ (s : List ℕ). here.0 < length s) (sym added) here.1;
    is = ap (λ (s : List ℕ). slice_index s here.0) added ∙ here.2;
  }

  last_kept : (number place word : ℕ) → number ≡ segment_count old → place < length (segment new number) → slice_index (segment new number) place ≡ word → IsKept old made word
  last_kept number place word last within is =
      let there : segment new number ≡ made = ap (λ (n : ℕ). segment new n) last ∙ added in
      inr (place, subst (λ (s : List ℕ). place < length s) there within, sym (ap (λ (s : List ℕ). slice_index s place) there) ∙ is)

  pub tracked_kept : (word : ℕ) → IsTracked new word → IsKept old made word
  tracked_kept word t =
      elim (cases_lt t.number (segment_count old)) [
        | inl known ↦ inl (record {
          number = t.number;
          place = t.place;
          known = known;
          within = subst (λ (s : List ℕ). t.place < length s) (stay t.number known) t.within;
          is = sym (ap (λ (s : List ℕ). slice_index s t.place) (stay t.number known)) ∙ t.is;
        })
        | inr last ↦ last_kept t.number t.place word (omega (arith, counted, last, t.known)) t.within t.is
      ]
