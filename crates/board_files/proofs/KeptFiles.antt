-- A file in memory, over its calls.
use Rattle.std.proofs.Common.{◌≡◌, ◌∙◌, ◌⊎◌, ◌≤◌, ℕ, List, [], ◌∷◌, length, Ok, inl, inr, ⊎_elim, subst, arith}
use Rattle.disk.specs.{Facts.Content, WriteLog.{Piece, WriteLog, new_log}}
use Rattle.board_files.specs.{Files.{IsDurable, SyncsFile}, Kept.{IsOneOf, IsSince, kept_facts, noted, synced_once}}

-- both as they were given, and nothing before
pub is_made : (given sectors stood : Content) (past : WriteLog) → sectors ≡ given → stood ≡ given → past ≡ new_log []
    → IsDurable given (kept_facts sectors stood past)
is_made given sectors stood past reads last none = record {
  now = λ c left. ⊎_elim (λ same. same ∙ reads) (λ same. same ∙ last) left;
  ever = λ t c was. ⊎_elim (λ left. ⊎_elim (λ same. same ∙ reads) (λ same. same ∙ last) left)
      (λ before. ⊎_elim (λ no. absurd no) (λ no. absurd no) (subst (λ (r : WriteLog). IsOneOf r.written c ⊎ IsSince t r.past c) none before)) was;
}

-- nothing was noted after the last sync
none_since : (past : List (List Piece)) (t : ℕ) (c : Content) → length past ≤ t → IsSince t past c → ⊥
none_since [] t c le is = is
none_since (ps ∷ older) t c le (inl is) = let at = is.0 in absurd (omega (arith, le, at))
none_since (ps ∷ older) t c le (inr is) = none_since older t c (omega (arith, le)) is

-- a sync
pub synced : {T E : Type 0} (v : T) (sectors stood sectors' stood' : Content) (past past' : WriteLog) → sectors' ≡ sectors → stood' ≡ sectors' → past' ≡ synced_once (noted stood past)
    → SyncsFile {E = E} (Ok v) (kept_facts sectors stood past) (kept_facts sectors' stood' past')
synced v sectors stood sectors' stood' past past' same durable is = rw (durable, same, is) (record {
  durable = λ c may. ⊎_elim (λ same. same) (λ same. same) may;
  leaves = λ c may. inl (⊎_elim (λ same. same) (λ same. same) may);
  syncs = omega arith;
  since = λ t c le was. since t c was;
  fresh = λ c was. fresh c was;
  keeps = λ t c le was. keeps t c le was;
})
  where
    since : (t : ℕ) (c : Content) → (kept_facts sectors sectors (synced_once (noted stood past))).since t c → (kept_facts sectors stood past).since t c
    since t c (inl (inl same)) = inl (inl same)
    since t c (inl (inr same)) = inl (inl same)
    since t c (inr (inl none)) = absurd none
    since t c (inr (inr (inl (le, inl same)))) = inl (inr same)
    since t c (inr (inr (inl (le, inr was)))) = inr (inl was)
    since t c (inr (inr (inr was))) = inr (inr was)

    fresh : (c : Content) → (kept_facts sectors sectors (synced_once (noted stood past))).since (length (synced_once (noted stood past)).past) c → c ≡ sectors
    fresh c (inl (inl same)) = same
    fresh c (inl (inr same)) = same
    fresh c (inr (inl none)) = absurd none
    fresh c (inr (inr was)) = absurd (none_since (synced_once (noted stood past)).past (length (synced_once (noted stood past)).past) c (omega arith) was)

    keeps : (t : ℕ) (c : Content) → t ≤ length past.past → (kept_facts sectors stood past).since t c → (kept_facts sectors sectors (synced_once (noted stood past))).since t c
    keeps t c le (inl (inl same)) = inl (inl same)
    keeps t c le (inl (inr same)) = inr (inr (inl (le, inl same)))
    keeps t c le (inr (inl was)) = inr (inr (inl (le, inr was)))
    keeps t c le (inr (inr was)) = inr (inr (inr was))
