-- Looks, one after the other.
use Rattle.std.proofs.Common.{◌≡◌, ◌∙◌, ℕ, ◌+◌, ◌<◌, List, [], ◌∷◌, ◌++◌, length, get_or, take, drop, refl, sym, ap, append_assoc, append-nil}
use Rattle.std.{specs.Prelude.slice_range, proofs.lemmas.List.{drop_more, take_more}}
use Rattle.kernel_check.specs.{Shown.looked, declared.looks.Look.Look}

-- a list from an element on begins with it
pub drop_at : (looks : List Look) (i : ℕ) (look : Look) → i < length looks → look ≡ get_or looks i look → drop i looks ≡ look ∷ drop (i + 1) looks
drop_at looks i look h e = drop_more looks i look h ∙ ap (λ (l : Look). l ∷ drop (i + 1) looks) (sym e)

take_at : (looks : List Look) (i : ℕ) (look : Look) → i < length looks → look ≡ get_or looks i look → take (i + 1) looks ≡ take i looks ++ (look ∷ [])
take_at looks i look h e = take_more looks i look h ∙ ap (λ (l : Look). take i looks ++ (l ∷ [])) (sym e)

looked_append : (xs ys : List Look) (memory : List ℕ) → looked (xs ++ ys) memory ≡ looked xs memory ++ looked ys memory
looked_append [] ys memory = refl
looked_append (x ∷ xs) ys memory =
    ap (λ (r : List ℕ). slice_range memory x.start (x.start + x.bytes) ++ r) (looked_append xs ys memory)
    ∙ sym (append_assoc (slice_range memory x.start (x.start + x.bytes)) (looked xs memory) (looked ys memory))

-- the bytes of one look more
pub looked_more : (looks : List Look) (memory : List ℕ) (i : ℕ) (look : Look) → i < length looks → look ≡ get_or looks i look
    → looked (take (i + 1) looks) memory ≡ looked (take i looks) memory ++ slice_range memory look.start (look.start + look.bytes)
looked_more looks memory i look h e =
    ap (λ (ls : List Look). looked ls memory) (take_at looks i look h e) ∙ looked_append (take i looks) (look ∷ []) memory
    ∙ ap (λ (r : List ℕ). looked (take i looks) memory ++ r) (append-nil (slice_range memory look.start (look.start + look.bytes)))

-- one look more is compared
pub told_more : (looks : List Look) (memory : List ℕ) (i : ℕ) (look : Look) → i < length looks → look ≡ get_or looks i look
    → (rest part others bytes : List ℕ) → rest ≡ part ++ others → looked (take i looks) memory ++ rest ≡ bytes
    → slice_range memory look.start (look.start + look.bytes) ≡ part → looked (take (i + 1) looks) memory ++ others ≡ bytes
told_more looks memory i look h e rest part others bytes parts before here =
    let A = looked (take i looks) memory in
    ap (λ (x : List ℕ). x ++ others) (looked_more looks memory i look h e)
    ∙ append_assoc A (slice_range memory look.start (look.start + look.bytes)) others
    ∙ ap (λ (x : List ℕ). A ++ (x ++ others)) here ∙ ap (λ (x : List ℕ). A ++ x) (sym parts) ∙ before
