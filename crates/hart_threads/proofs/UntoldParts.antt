-- Parts that were told nothing, and go off one after another.
use Rattle.std.proofs.Common.{◌≡◌, ◌∙◌, ℕ, zero, suc, ◌+◌, ◌<◌, ◌≤◌, List, [], ◌∷◌, ◌++◌, All, length, get_or, drop, refl, sym, ap, subst, inl, inr, arith}
use Rattle.std.proofs.lemmas.{Bool.cases_eq, List.{length_push, get_or_push, get_or_append_left}}
use Rattle.board_model.specs.declared.durable.Entry.{Entry}
use Rattle.tallies.specs.{Books.{first_of, fresh_from, part_view}, declared.book_views.PartView.PartView}

pub all_rest : (ds : List (PartView Entry)) → All (λ d. d.told ≡ []) ds → All (λ d. d.told ≡ []) (drop 1 ds)
all_rest [] all = all
all_rest (x ∷ ds) all = λ k d lt. all (suc k) d (omega (arith, lt))

pub first_told : (ds : List (PartView Entry)) → All (λ d. d.told ≡ []) ds → (first_of ds).told ≡ []
first_told [] all = refl
first_told (x ∷ ds) all = all 0 x (omega arith)

all_more : (x : PartView Entry) (ds : List (PartView Entry)) → x.told ≡ [] → All (λ d. d.told ≡ []) ds → All (λ d. d.told ≡ []) (x ∷ ds)
all_more x ds one all zero d lt = one
all_more x ds one all (suc k) d lt = all k d (omega (arith, lt))

pub one_off : (ds : List (PartView Entry)) → 0 < length ds → length (drop 1 ds) + 1 ≡ length ds
one_off [] lt = absurd (omega arith)
one_off (d ∷ ds) lt = omega arith

pub fresh_told : (k n : ℕ) → All (λ d. d.told ≡ []) (fresh_from {E = Entry} k n)
fresh_told k zero = λ i d lt. absurd (omega (arith, lt))
fresh_told k (suc n) = all_more (part_view k []) (fresh_from (suc k) n) refl (fresh_told (suc k) n)

pub fresh_many : (k n : ℕ) → length (fresh_from {E = Entry} k n) ≡ n
fresh_many k zero = refl
fresh_many k (suc n) = let rest = fresh_many (suc k) n in omega (arith, rest)

-- ---- none, and one more
pub all_nil : {X : Type 0} (P : X → Type 0) (xs : List X) → xs ≡ [] → All P xs
all_nil P xs is k d lt = absurd (omega (arith, lt, ap length is))

pub all_pushed : {X : Type 0} (P : X → Type 0) (before now : List X) (x : X) → now ≡ before ++ x ∷ [] → All P before → P x → All P now
all_pushed P before now x is each here k d lt = elim (cases_eq k (length before)) [
  | inl last ↦ subst P (sym (ap (λ (l : List _). get_or l k d) is ∙ get_or_push before x d k (sym last))) here
  | inr not ↦ (let less : k < length before = omega (arith, lt, ap length is, length_push before x, not) in
      subst P (sym (ap (λ (l : List _). get_or l k d) is ∙ get_or_append_left before (x ∷ []) d k less)) (each k d less))
]

-- so many have gone off of those that there were
pub one_more_off : (left off later fewer all : ℕ) → left + off ≡ all → fewer + 1 ≡ left → later ≡ off + 1 → fewer + later ≡ all
one_more_off left off later fewer all was rest more = omega (arith, was, rest, more)

pub some_left : (left off made count all : ℕ) → left + off ≡ all → off ≡ made → made < count → count ≤ all → 0 < left
some_left left off made count all was is lt some = omega (arith, was, is, lt, some)

pub all_off : (off made count : ℕ) → off ≡ made → count ≤ made → made ≤ count → off ≡ count
all_off off made count is low high = omega (arith, is, low, high)
