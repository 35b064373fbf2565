-- Lists that are mapped.
use Rattle.std.{proofs.Common.{◌≡◌, List, [], ◌∷◌, map, refl, ◌∙◌, ap}, specs.List.{All, AllZip}}
use Rattle.std.proofs.lemmas.List.Elements.{All-nil, All-cons, All-head, All-tail}

-- a fact of each element of a mapped list is one of each element of the list
pub all_unmapped : {X Y : Type 0} (P : X → Type 0) (f : Y → X) (ys : List Y) → All P (map f ys) → All (λ y. P (f y)) ys
all_unmapped P f [] h = All-nil (λ y. P (f y))
all_unmapped P f (y ∷ ys) h =
    All-cons (λ z. P (f z)) y ys (All-head P (f y) (map f ys) h) (all_unmapped P f ys (All-tail P (f y) (map f ys) h))

-- a list whose elements are those of another, place by place
pub same_items : {X : Type 0} (xs ys : List X) → AllZip (λ x y. y ≡ x) xs ys → ys ≡ xs
same_items [] [] all = refl
same_items [] (y ∷ ys) all = absurd all
same_items (x ∷ xs) [] all = absurd all
same_items (x ∷ xs) (y ∷ ys) all = ap (λ z. z ∷ ys) all.0 ∙ ap (λ zs. x ∷ zs) (same_items xs ys all.1)

-- a list whose elements are mapped to the same as those of another
pub same_mapped : {X Y : Type 0} (R : Y → Y → Type 0) (f : Y → X) → ((y z : Y) → R y z → f z ≡ f y) → (ys zs : List Y) → AllZip R ys zs → map f zs ≡ map f ys
same_mapped R f same [] [] all = refl
same_mapped R f same [] (z ∷ zs) all = absurd all
same_mapped R f same (y ∷ ys) [] all = absurd all
same_mapped R f same (y ∷ ys) (z ∷ zs) all = ap (λ x. x ∷ map f zs) (same y z all.0) ∙ ap (λ xs. f y ∷ xs) (same_mapped R f same ys zs all.1)
