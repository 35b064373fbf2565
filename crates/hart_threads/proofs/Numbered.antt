-- Harts and their parts, by their numbers.
use Rattle.std.proofs.Common.{◌≡◌, ◌∙◌, ℕ, zero, suc, ◌+◌, ◌<◌, List, [], ◌∷◌, ◌++◌, length, map, reverse, drop, refl, sym, ap, subst, arith, append-nil, length-append}
use Rattle.std.proofs.lemmas.List.{length_push, get_or_push, get_or_append_left, length-reverse, reverse-append}
use Rattle.hart.specs.State.{ArchState, never_started}
use Rattle.machine.specs.Held.{AreNumbered}
use Rattle.tallies.specs.{Books.{first_of, fresh_from, part_view}, declared.book_views.PartView.PartView}
use Rattle.hart_threads.specs.{Begun.AreFromLast, Bused.fresh_part, declared.{bus_turns.BusTurn.BusTurn, seated.ActingHart.ActingHart}}

-- ---- harts
-- without the last of them
numbered_less : (hs : List ArchState) (h : ArchState) → AreNumbered (hs ++ h ∷ []) → AreNumbered hs
numbered_less hs h all k lt = ap (λ (s : ArchState). s.id) (sym (get_or_append_left hs (h ∷ []) (never_started k) k lt)) ∙ all k (omega (arith, lt, length_push hs h))

numbered_last : (hs : List ArchState) (h : ArchState) → AreNumbered (hs ++ h ∷ []) → h.id ≡ length hs
numbered_last hs h all =
    ap (λ (s : ArchState). s.id) (sym (get_or_push hs h (never_started (length hs)) (length hs) refl)) ∙ all (length hs) (omega (arith, length_push hs h))

pub from_last : (hs : List ArchState) (all : List ActingHart) → reverse (map (λ a. a.hart) all) ≡ hs → AreNumbered hs → AreFromLast 0 (λ (a : ActingHart). a.hart.id) all
from_last hs [] same numbered = tt
from_last hs (a ∷ rest) same numbered =
    let harts : List ArchState = map (λ (x : ActingHart). x.hart) rest in
    let is : AreNumbered (reverse harts ++ a.hart ∷ []) = subst AreNumbered (sym same ∙ reverse-append (a.hart ∷ []) harts) numbered in
    let last = numbered_last (reverse harts) a.hart is ∙ length-reverse harts ∙ long rest in
    (omega (arith, last), from_last (reverse harts) rest refl (numbered_less (reverse harts) a.hart is))
  where
    long : (xs : List ActingHart) → length (map (λ (x : ActingHart). x.hart) xs) ≡ length xs
    long [] = refl
    long (x ∷ xs) = let rest = long xs in omega (arith, rest)

-- ---- parts
fresh_count : (k n : ℕ) → length (fresh_from {E = BusTurn} k n) ≡ n
fresh_count k zero = refl
fresh_count k (suc n) = let rest = fresh_count (suc k) n in omega (arith, rest)

-- the last of those that are numbered on
fresh_push : (first n : ℕ) → fresh_from {E = BusTurn} first (suc n) ≡ fresh_from {E = BusTurn} first n ++ part_view {E = BusTurn} (first + n) [] ∷ []
fresh_push first zero = ap (λ (k : ℕ). part_view {E = BusTurn} k [] ∷ []) (omega arith)
fresh_push first (suc n) = ap (λ (ds : List (PartView BusTurn)). part_view {E = BusTurn} first [] ∷ ds) (fresh_push (suc first) n ∙ ap (λ (k : ℕ). fresh_from {E = BusTurn} (suc first) n ++ part_view {E = BusTurn} k [] ∷ []) (omega arith))

-- the first two: the store's and the console's
pub two_more : (n : ℕ) → fresh_from {E = BusTurn} 0 (n + 2) ≡ part_view {E = BusTurn} 0 [] ∷ part_view {E = BusTurn} 1 [] ∷ fresh_from {E = BusTurn} 2 n
two_more n = let e : n + 2 ≡ suc (suc n) = omega arith in ap (λ (k : ℕ). fresh_from {E = BusTurn} 0 k) e

module _ {A : Type 0} where
  head_or : A → List A → A
  head_or x [] = x
  head_or x (y ∷ ys) = y

  tail_of : List A → List A
  tail_of [] = []
  tail_of (y ∷ ys) = ys

  -- two lists that end with one element each
  pub push_same : (xs ys : List A) (x y : A) → length xs ≡ length ys → xs ++ x ∷ [] ≡ ys ++ y ∷ [] → (xs ≡ ys) × (x ≡ y)
  unfolding head_or tail_of
  push_same [] [] x y long same = (refl, ap (head_or x) same)
  push_same [] (z ∷ ys) x y long same = absurd (omega (arith, long))
  push_same (z ∷ xs) [] x y long same = absurd (omega (arith, long))
  push_same (z ∷ xs) (w ∷ ys) x y long same =
      let rest = push_same xs ys x y (omega (arith, long)) (ap tail_of same) in
      ((λ i. ap (head_or z) same i ∷ rest.0 i), rest.1)

  -- nothing is left after as many
  pub none_behind : (xs ys zs : List A) → xs ++ ys ≡ zs → length xs ≡ length zs → xs ≡ zs
  none_behind xs [] zs same long = sym (append-nil xs) ∙ same
  none_behind xs (y ∷ ys) zs same long = absurd (omega (arith, long, length-append xs (y ∷ ys), ap length same))

-- the part of the hart of the highest number, and the others
pub last_run : (n : ℕ) (ds : List (PartView BusTurn)) (d : PartView BusTurn) → length ds ≡ n → ds ++ d ∷ [] ≡ fresh_from {E = BusTurn} 2 (n + 1) → (ds ≡ fresh_from {E = BusTurn} 2 n) × (d ≡ fresh_part n)
last_run n ds d long same =
    let e : n + 1 ≡ suc n = omega arith in
    let f : 2 + n ≡ n + 2 = omega arith in
    let both = push_same ds (fresh_from {E = BusTurn} 2 n) d (part_view {E = BusTurn} (2 + n) []) (long ∙ sym (fresh_count 2 n)) (same ∙ ap (λ (k : ℕ). fresh_from {E = BusTurn} 2 k) e ∙ fresh_push 2 n) in
    (both.0, both.1 ∙ ap (λ (k : ℕ). part_view {E = BusTurn} k []) f)

-- ---- what the loops are given
module _ {X : Type 0} (run : X → PartView BusTurn) where
  many : (xs : List X) → length (map run xs) ≡ length xs
  many [] = refl
  many (x ∷ xs) = let rest = many xs in omega (arith, rest)

  -- one part more went off
  pub one_run_off : (ps : List X) (x : X) (ds all : List (PartView BusTurn)) → map run ps ++ ds ≡ all → 0 < length ds → run x ≡ first_of ds → map run (ps ++ x ∷ []) ++ drop 1 ds ≡ all
  one_run_off [] x [] all was some is = absurd (omega (arith, some))
  one_run_off [] x (d ∷ ds) all was some is = ap (λ (y : PartView BusTurn). y ∷ ds) is ∙ was
  one_run_off (p ∷ ps) x ds all was some is = ap (λ (l : List (PartView BusTurn)). run p ∷ l) (one_run_off ps x ds (map run ps ++ ds) refl some is) ∙ was

  pub run_left : (ps : List X) (ds : List (PartView BusTurn)) (count made : ℕ) → map run ps ++ ds ≡ fresh_from {E = BusTurn} 2 count → length ps ≡ made → made < count → 0 < length ds
  run_left ps ds count made was is lt = omega (arith, is, lt, length-append (map run ps) ds, many ps, ap length was, fresh_count 2 count)

  pub all_runs : (ps : List X) (ds : List (PartView BusTurn)) (count : ℕ) → map run ps ++ ds ≡ fresh_from {E = BusTurn} 2 count → length ps ≡ count → map run ps ≡ fresh_from {E = BusTurn} 2 count
  all_runs ps ds count was is = none_behind (map run ps) ds (fresh_from {E = BusTurn} 2 count) was (many ps ∙ is ∙ sym (fresh_count 2 count))

  -- the last of the parts was taken
  pub last_of : (old new : List X) (x : X) (n m : ℕ) → old ≡ new ++ x ∷ [] → length new ≡ m → n ≡ length old → map run old ≡ fresh_from {E = BusTurn} 2 n → (map run new ≡ fresh_from {E = BusTurn} 2 m) × (run x ≡ fresh_part m)
  last_of old new x n m is long all runs =
      let more : n ≡ m + 1 = omega (arith, long, all, ap length is, length_push new x) in
      last_run m (map run new) (run x) (many new ∙ long) (sym (pushed new) ∙ ap (map run) (sym is) ∙ runs ∙ ap (λ (k : ℕ). fresh_from {E = BusTurn} 2 k) more)
    where
      pushed : (xs : List X) → map run (xs ++ x ∷ []) ≡ map run xs ++ run x ∷ []
      pushed [] = refl
      pushed (y ∷ xs) = ap (λ (ds : List (PartView BusTurn)). run y ∷ ds) (pushed xs)
