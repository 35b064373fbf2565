-- An open store in a story: after a call that leaves its life, or makes one command of it.
use Rattle.std.proofs.Common.{◌≡◌, ◌∙◌, ◌+◌, ◌<◌, ◌++◌, ◌∷◌, ℕ, List, [], Option, Some, None, inl, inr, refl, sym, ap, subst, length, false}
use Rattle.std.proofs.lemmas.List.{length_push}
use Rattle.board_model.specs.Durable.{DurableState, Change, Suspend, refusal_of, after, fold, ends_life, IsWhole, CarriesWhole}
use Rattle.board_model.{specs.Shapes.Size, proofs.Steps.whole_after}
use Rattle.store.specs.{Answers.StoreView, Lives.{Life, now_of, Reaches, IsReseen}}
use Rattle.theorem.specs.{Story.{Now, acknowledged, May, Takes, Fits, Decides}, Told.IsOn}

pub no_doubt : (o : Option Change) (d : Change) → o ≡ None → o ≡ Some d → ⊥
no_doubt o d none some = let no : None ≡ Some d = sym none ∙ some in cc

pub carries : (size : Size) (c : Change) → Fits size c → CarriesWhole size c
carries size (Suspend hart address opaque memory) fits = fits.0
carries size c fits = tt

fold_more : (s : DurableState) (cs : List Change) (c : Change) → fold s (cs ++ c ∷ []) ≡ after (fold s cs) c
fold_more s [] c = refl
fold_more s (d ∷ cs) c = fold_more (after s d) cs c

module _ (size : Size) (w : Now) (old new : StoreView) (on : IsOn size w old) (board : new.size ≡ old.size) where
  -- the life is as it was
  pub moved : new.life ≡ old.life → IsOn size (record w { faults = new.fault_state }) new
  moved life = record {
    board = board ∙ on.board;
    state = on.state ∙ ap now_of (sym life);
    doubt = on.doubt ∙ ap (λ (l : Life). l.doubt) (sym life);
    over = on.over ∙ ap (λ (l : Life). l.over) (sym life);
    receipts = on.receipts ∙ ap (λ (l : Life). length l.journal) (sym life);
    faults = refl;
    on = on.on;
    whole = on.whole;
  }

  -- and so is what is armed
  pub still : new.life ≡ old.life → new.fault_state ≡ old.fault_state → IsOn size w new
  still life calm = record {
    board = board ∙ on.board;
    state = on.state ∙ ap now_of (sym life);
    doubt = on.doubt ∙ ap (λ (l : Life). l.doubt) (sym life);
    over = on.over ∙ ap (λ (l : Life). l.over) (sym life);
    receipts = on.receipts ∙ ap (λ (l : Life). length l.journal) (sym life);
    faults = on.faults ∙ sym calm;
    on = on.on;
    whole = on.whole;
  }

  module _ (c : Change) (fits : Fits size c) (calm : old.life.doubt ≡ None) where
    pub takes : old.life.over ≡ false → length old.life.journal < 4096 → Takes w
    takes going few = (on.doubt ∙ calm, on.over ∙ going, subst (λ (n : ℕ). n < 4096) (sym on.receipts) few)

    pub goes : Reaches old.life c → Decides size w c None
    goes reaches = (takes reaches.0 reaches.1, fits, ap (λ (s : DurableState). refusal_of s c) on.state ∙ reaches.2)

    next_whole : IsWhole size (after w.state c)
    next_whole = whole_after size w.state c (on.whole w.state (inl refl)) (carries size c fits)

    whole_acked : (s : DurableState) → May (acknowledged w c) s → IsWhole size s
    whole_acked s (inl is) = subst (IsWhole size) (sym is) next_whole
    whole_acked s (inr (d, doubt, is)) = absurd (no_doubt w.doubt d (on.doubt ∙ calm) doubt)

    pub made : new.life ≡ record old.life { journal = old.life.journal ++ c ∷ []; over = ends_life c } → new.fault_state ≡ old.fault_state → IsOn size (acknowledged w c) new
    made life same = record {
      board = board ∙ on.board;
      state = ap (λ (s : DurableState). after s c) on.state ∙ sym (fold_more old.life.found old.life.journal c) ∙ ap now_of (sym life);
      doubt = on.doubt ∙ ap (λ (l : Life). l.doubt) (sym life);
      over = ap (λ (l : Life). l.over) (sym life);
      receipts = ap (λ (n : ℕ). n + 1) on.receipts ∙ sym (length_push old.life.journal c) ∙ ap (λ (l : Life). length l.journal) (sym life);
      faults = on.faults ∙ sym same;
      on = on.on;
      whole = whole_acked;
    }

    whole_doubted : (s : DurableState) → May (record w { doubt = Some c; faults = new.fault_state }) s → IsWhole size s
    whole_doubted s (inl is) = on.whole s (inl is)
    whole_doubted s (inr (d, doubt, is)) =
        let same : c ≡ d = cc in
        subst (IsWhole size) (sym is) (subst (λ (x : Change). IsWhole size (after w.state x)) same next_whole)

    pub doubted : new.life ≡ record old.life { doubt = Some c } → IsOn size (record w { doubt = Some c; faults = new.fault_state }) new
    doubted life = record {
      board = board ∙ on.board;
      state = on.state ∙ ap now_of (sym life);
      doubt = ap (λ (l : Life). l.doubt) (sym life);
      over = on.over ∙ ap (λ (l : Life). l.over) (sym life);
      receipts = on.receipts ∙ ap (λ (l : Life). length l.journal) (sym life);
      faults = refl;
      on = on.on;
      whole = whole_doubted;
    }

-- the state found is shown anew
pub reseen : (size : Size) (w : Now) (old : StoreView) (found : DurableState) → IsOn size w old → IsReseen old.life found → IsOn size w (record old { life = record old.life { found = found } })
reseen size w old found on seen = record {
  board = on.board;
  state = on.state ∙ sym seen.now;
  doubt = on.doubt;
  over = on.over;
  receipts = on.receipts;
  faults = on.faults;
  on = on.on;
  whole = on.whole;
}
