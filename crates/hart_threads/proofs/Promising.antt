-- What works give that promised it, in their order.
use Rattle.std.proofs.Common.{◌≡◌, ◌∙◌, ℕ, ◌+◌, List, [], ◌∷◌, ◌++◌, length, arith, refl, sym, ap, subst, append-nil, append_assoc}
use Rattle.std.specs.List.{AllZip}
use Rattle.hart_threads.specs.Begun.{AreFromLast}

module _ {H T : Type 0} (R : H → T → Type 0) where
  zip_push : (hs : List H) (ts : List T) (h : H) (t : T) → AllZip R hs ts → R h t → AllZip R (hs ++ h ∷ []) (ts ++ t ∷ [])
  zip_push [] [] h t all here = (here, tt)
  zip_push [] (y ∷ ts) h t all here = absurd all
  zip_push (x ∷ hs) [] h t all here = absurd all
  zip_push (x ∷ hs) (y ∷ ts) h t all here = (all.0, zip_push hs ts h t all.1 here)

  -- of all of them the first were taken, and what came of each of these stands in its order after what was there
  abbrev pub IsTaken : List H → List T → List H → List T → Type 0
  IsTaken all before rest now = (done : List H) × (made : List T) × (done ++ rest ≡ all) × (now ≡ before ++ made) × AllZip R done made

  pub none_taken : (all rest : List H) (before : List T) → rest ≡ all → IsTaken all before rest before
  none_taken all rest before is = ([], [], is, sym (append-nil before), tt)

  pub one_taken : (all rest rest' : List H) (before now now' : List T) (h : H) (t : T) → rest ≡ h ∷ rest' → now' ≡ now ++ t ∷ [] → R h t
      → IsTaken all before rest now → IsTaken all before rest' now'
  one_taken all rest rest' before now now' h t next grown here (done, made, whole, stands, each) = (
    done ++ h ∷ [],
    made ++ t ∷ [],
    append_assoc done (h ∷ []) rest' ∙ (ap (λ (l : List H). done ++ l) (sym next) ∙ whole),
    grown ∙ (ap (λ (l : List T). l ++ t ∷ []) stands ∙ append_assoc before made (t ∷ [])),
    zip_push done made h t each here,
  )

  none_left : (xs : List H) → length xs ≡ 0 → xs ≡ []
  none_left [] none = refl
  none_left (x ∷ xs) none = absurd (omega (arith, none))

  pub all_taken : (all rest : List H) (before now : List T) → length rest ≡ 0 → IsTaken all before rest now → (made : List T) × (now ≡ before ++ made) × AllZip R all made
  all_taken all rest before now none (done, made, whole, stands, each) =
      (made, stands, subst (λ (l : List H). AllZip R l made) (sym (append-nil done) ∙ (ap (λ (l : List H). done ++ l) (sym (none_left rest none)) ∙ whole)) each)

-- what threads gave that were begun for works, by what each promised of its work
module _ {W H T P : Type 0} (of : W → P) (by : H → P) (Keeps : P → T → Type 0) where
  zip_on : (ws : List W) (hs : List H) (ts : List T) → AllZip (λ w h. by h ≡ of w) ws hs → AllZip (λ h t. Keeps (by h) t) hs ts → AllZip (λ w t. Keeps (of w) t) ws ts
  zip_on [] [] [] same kept = tt
  zip_on [] [] (t ∷ ts) same kept = absurd kept
  zip_on [] (h ∷ hs) ts same kept = absurd same
  zip_on (w ∷ ws) [] ts same kept = absurd same
  zip_on (w ∷ ws) (h ∷ hs) [] same kept = absurd kept
  zip_on (w ∷ ws) (h ∷ hs) (t ∷ ts) same kept = (subst (λ (p : P). Keeps p t) same.0 kept.0, zip_on ws hs ts same.1 kept.1)

  no_items : (xs : List T) → length xs ≡ 0 → xs ≡ []
  no_items [] none = refl
  no_items (x ∷ xs) none = absurd (omega (arith, none))

  pub all_kept : (works rest : List W) (handles : List H) (given gave : List T) → length rest ≡ 0 → length given ≡ 0 → IsTaken (λ w h. by h ≡ of w) works [] rest handles
      → (made : List T) × (gave ≡ given ++ made) × AllZip (λ h t. Keeps (by h) t) handles made → AllZip (λ w t. Keeps (of w) t) works gave
  all_kept works rest handles given gave none nothing taken (made, stands, each) =
      let all = all_taken (λ w h. by h ≡ of w) works rest [] handles none taken in
      subst (λ (l : List T). AllZip (λ w t. Keeps (of w) t) works l) (sym (stands ∙ ap (λ (l : List T). l ++ made) (no_items given nothing)))
      (zip_on works handles made (subst (λ (l : List H). AllZip (λ w h. by h ≡ of w) works l) (sym all.1) all.2) each)

-- ---- numbers, that of the last first
module _ {A B : Type 0} (number : A → ℕ) (other : B → ℕ) where
  -- those of the others at the same places
  pub same_numbers : (first : ℕ) (xs : List A) (ys : List B) → AllZip (λ x y. other y ≡ number x) xs ys → AreFromLast first number xs → AreFromLast first other ys
  same_numbers first [] [] all are = tt
  same_numbers first [] (y ∷ ys) all are = absurd all
  same_numbers first (x ∷ xs) [] all are = absurd all
  same_numbers first (x ∷ xs) (y ∷ ys) all are =
      (all.0 ∙ (are.0 ∙ ap (λ (n : ℕ). first + n) (as_long xs ys all.1)), same_numbers first xs ys all.1 are.1)
    where
      as_long : (xs : List A) (ys : List B) → AllZip (λ x y. other y ≡ number x) xs ys → length xs ≡ length ys
      as_long [] [] all = refl
      as_long [] (y ∷ ys) all = absurd all
      as_long (x ∷ xs) [] all = absurd all
      as_long (x ∷ xs) (y ∷ ys) all = let rest = as_long xs ys all.1 in omega (arith, rest)
