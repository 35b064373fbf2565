-- One element of a list is replaced, or some are put at its end.
use Rattle.std.proofs.Common.{◌≡◌, ◌<◌, inl, inr, ℕ, Bool, true, false, if◌then◌else◌, List, [], ◌∷◌, ◌++◌, All, length, slice_index_or, slice_set, sym, subst}
use Rattle.std.proofs.lemmas.{Bool.cases_eq, List.{get_or-set_same, get_or-set_other, Elements.{All-same, All-push, All-append}}}

-- what held of each at its place holds still
pub set_each : {X : Type 0} (P : ℕ → X → Type 0) (xs : List X) (at : ℕ) (x : X) → at < length xs → P at x → ((i : ℕ) (d : X) → i < length xs → P i (slice_index_or xs i d)) → (i : ℕ) (d : X) → i < length xs → P i (slice_index_or (slice_set xs at x) i d)
set_each P xs at x within is each i d lt = elim (cases_eq i at) [
  | inl e ↦ subst (λ (y : _). P i y) (sym (subst (λ (k : ℕ). slice_index_or (slice_set xs at x) k d ≡ x) (sym e) (get_or-set_same xs at x d within))) (subst (λ (k : ℕ). P k x) (sym e) is)
  | inr other ↦ subst (λ (y : _). P i y) (sym (get_or-set_other xs at i x d other)) (each i d lt)
]

-- one more, or those of another list, where memory was there
pub pushed_each : {X : Type 0} (P : X → Type 0) (done : Bool) (before now : List X) (x : X) → now ≡ (if done then before ++ x ∷ [] else before) → All P before → P x → All P now
pushed_each P true before now x is each here = All-same P now (before ++ x ∷ []) is (All-push P before x each here)
pushed_each P false before now x is each here = All-same P now before is each

pub joined_each : {X : Type 0} (P : X → Type 0) (done : Bool) (before others now : List X) → now ≡ (if done then before ++ others else before) → All P before → All P others → All P now
joined_each P true before others now is each more = All-same P now (before ++ others) is (All-append P before others each more)
joined_each P false before others now is each more = All-same P now before is each
