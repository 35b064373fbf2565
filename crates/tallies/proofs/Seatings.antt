-- Lists of seats: one that grows by the first hart of the rest, and one that shrinks from its end. And lists
-- of a value for each hart.
use Rattle.std.proofs.Common.{IsSome, List, None, Option, Some, [], ap, append-nil, append_assoc, arith, drop, get_or, length, map, refl, rules, slice_get, subst, suc, sym, take, zero, ℕ, ◌++◌, ◌+◌, ◌<◌, ◌≤◌, ◌∙◌, ◌∷◌, ◌≡◌, ◌≢◌}
use Rattle.std.proofs.lemmas.List.{length-map, map-append}
use mathlib.Core.Logic.{dite}
use native.Mathlib.Decide.{ℕ_discrete}
use Rattle.tallies.specs.Sums.{total}
use Rattle.tallies.specs.Seats.{numbers_from, one_by_one, IsSomeSeat, AreSeats, views_at, views_by_seat, all_views, AreByNumber}

module _ {A : Type 0} where
  abbrev pub head_or : A → List A → A
  head_or d [] = d
  head_or d (x ∷ xs) = x

  abbrev pub tail_of : List A → List A
  tail_of [] = []
  tail_of (x ∷ xs) = xs

  abbrev pub some_or : A → Option A → A
  some_or d None = d
  some_or d (Some x) = x

-- ---- views
module _ {V : Type 0} where
  pub one_rest : (vs : List V) → 0 < length vs → take 1 vs ∷ one_by_one (drop 1 vs) ≡ one_by_one vs
  one_rest [] pos = absurd (omega arith)
  one_rest (v ∷ vs) pos = refl

  pub length_rest : (vs : List V) → 0 < length vs → length (drop 1 vs) + 1 ≡ length vs
  length_rest [] pos = absurd (omega arith)
  length_rest (v ∷ vs) pos = omega arith

pub length_from : (first n : ℕ) → length (numbers_from first n) ≡ n
length_from first zero = refl
length_from first (suc n) = ap suc (length_from (suc first) n)

-- the views of n harts are n
pub length_all : {V : Type 0} (hart : V → ℕ) (vs : List V) (first n : ℕ) → map hart vs ≡ numbers_from first n → length vs ≡ n
length_all hart vs first n all = sym (length-map vs hart) ∙ (ap length all ∙ length_from first n)

-- ---- values by number
-- a function at each number from first on is the list that has its values
map_from : {A : Type 0} (f : ℕ → A) (d : A) (first n : ℕ) (xs : List A) → length xs ≡ n → ((k : ℕ) → k < n → f (first + k) ≡ get_or xs k d) → map f (numbers_from first n) ≡ xs
map_from f d first zero [] long same = refl
map_from f d first zero (x ∷ xs) long same = absurd (omega (arith, long))
map_from f d first (suc n) [] long same = absurd (omega (arith, long))
map_from f d first (suc n) (x ∷ xs) long same =
    let here : f first ≡ x = let z : first + 0 ≡ first = omega arith in ap f (sym z) ∙ same 0 (omega arith) in
    let rest = map_from f d (suc first) n xs (omega (arith, long)) (λ k lt. let z : suc first + k ≡ first + suc k = omega arith in ap f z ∙ same (suc k) (omega arith)) in
    ap (λ y. y ∷ map f (numbers_from (suc first) n)) here ∙ ap (λ ys. x ∷ ys) rest

pub map_all : {A : Type 0} (f : ℕ → A) (d : A) (n : ℕ) (xs : List A) → length xs ≡ n → ((k : ℕ) → k < n → f k ≡ get_or xs k d) → map f (numbers_from 0 n) ≡ xs
map_all f d n xs long same = map_from f d 0 n xs long (λ k lt. let z : 0 + k ≡ k = omega arith in ap f z ∙ same k lt)

at_from : {A : Type 0} (f : ℕ → A) (d : A) (first n k : ℕ) → k < n → get_or (map f (numbers_from first n)) k d ≡ f (first + k)
at_from f d first zero k lt = absurd (omega arith)
at_from f d first (suc n) zero lt = let z : first ≡ first + 0 = omega arith in ap f z
at_from f d first (suc n) (suc k) lt = let z : suc first + k ≡ first + suc k = omega arith in at_from f d (suc first) n k (omega arith) ∙ ap f z

pub at_all : {A : Type 0} (f : ℕ → A) (d : A) (n k : ℕ) → k < n → get_or (map f (numbers_from 0 n)) k d ≡ f k
at_all f d n k lt = let z : 0 + k ≡ k = omega arith in at_from f d 0 n k lt ∙ ap f z

-- a hart that the list lacks adds nothing to a sum
beyond_from : {V : Type 0} (hart f : V → ℕ) (h : ℕ) → ((v : V) → hart v ≢ h → f v ≡ 0) → (vs : List V) (first n : ℕ) → map hart vs ≡ numbers_from first n → first + n ≤ h → total f vs ≡ 0
beyond_from hart f h none [] first n all le = refl
beyond_from hart f h none (v ∷ vs) first zero all le = absurd (cc)
beyond_from hart f h none (v ∷ vs) first (suc n) all le =
    let is : hart v ≡ first = ap (head_or first) all in
    let here = none v (λ e. omega arith) in
    let rest = beyond_from hart f h none vs (suc first) n (ap tail_of all) (omega arith) in
    omega arith

pub total_beyond : {V : Type 0} (hart f : V → ℕ) (h n : ℕ) (vs : List V) → ((v : V) → hart v ≢ h → f v ≡ 0) → map hart vs ≡ numbers_from 0 n → n ≤ h → total f vs ≡ 0
total_beyond hart f h n vs none all le = beyond_from hart f h none vs 0 n all (omega arith)

-- and one that it has is in it once
module _ {V : Type 0} (hart f : V → ℕ) (h : ℕ) (one : (v : V) → hart v ≡ h → f v ≡ 1) (none : (v : V) → hart v ≢ h → f v ≡ 0) where
  below_from : (vs : List V) (first n : ℕ) → map hart vs ≡ numbers_from first n → h < first → total f vs ≡ 0
  below_from [] first n all lt = refl
  below_from (v ∷ vs) first zero all lt = absurd (cc)
  below_from (v ∷ vs) first (suc n) all lt =
      let is : hart v ≡ first = ap (head_or first) all in
      let here = none v (λ e. omega arith) in
      let rest = below_from vs (suc first) n (ap tail_of all) (omega arith) in
      omega arith

  once_from : (vs : List V) (first n : ℕ) → map hart vs ≡ numbers_from first n → first ≤ h → h < first + n → total f vs ≡ 1
  once_from [] first zero all le lt = absurd (omega arith)
  once_from [] first (suc n) all le lt = absurd (cc)
  once_from (v ∷ vs) first zero all le lt = absurd (cc)
  once_from (v ∷ vs) first (suc n) all le lt =
      let is : hart v ≡ first = ap (head_or first) all in
      dite (ℕ_discrete (hart v) h)
      (λ hit. let here = one v hit in let rest = below_from vs (suc first) n (ap tail_of all) (omega arith) in omega arith)
      (λ miss. let here = none v miss in let more = once_from vs (suc first) n (ap tail_of all) (omega arith) (omega arith) in omega arith)

  pub total_once : (vs : List V) (n : ℕ) → map hart vs ≡ numbers_from 0 n → h < n → total f vs ≡ 1
  total_once vs n all lt = once_from vs 0 n all (omega arith) (omega arith)

-- ---- seats of a table
module _ {S : Type 0} (IsSeat : S → Type 0) where
  pub are_push : (ss : List (Option S)) (s : Option S) → AreSeats IsSeat ss → IsSomeSeat IsSeat s → AreSeats IsSeat (ss ++ s ∷ [])
  are_push [] s a b = (b, tt)
  are_push (x ∷ ss) s a b = (a.0, are_push ss s a.1 b)

  -- the last seat, and those before it
  pub are_pop : (ss : List (Option S)) (s : Option S) → AreSeats IsSeat (ss ++ s ∷ []) → AreSeats IsSeat ss × IsSomeSeat IsSeat s
  are_pop [] s a = (tt, a.0)
  are_pop (x ∷ ss) s a = let more = are_pop ss s a.1 in ((a.0, more.0), more.1)

  pub is_some : (s : Option S) → IsSomeSeat IsSeat s → IsSome s
  is_some None a = absurd a
  is_some (Some s) a = search rules

-- ---- the views of seats
module _ {S V : Type 0} (views : S → List V) where
  pub by_seat_push : (ss : List (Option S)) (s : Option S) (rest : List (List V)) → views_by_seat views (ss ++ s ∷ []) ++ rest ≡ views_by_seat views ss ++ views_at views s ∷ rest
  by_seat_push [] s rest = refl
  by_seat_push (x ∷ ss) s rest = ap (λ (l : List (List V)). views_at views x ∷ l) (by_seat_push ss s rest)

  -- where none is left
  pub by_seat_done : (ss : List (Option S)) (vs : List V) (all : List (List V)) → length vs ≡ 0 → views_by_seat views ss ++ one_by_one vs ≡ all → views_by_seat views ss ≡ all
  by_seat_done ss [] all z e = sym (append-nil (views_by_seat views ss)) ∙ e
  by_seat_done ss (v ∷ vs) all z e = absurd (omega arith)

  pub all_push : (ss : List (Option S)) (s : Option S) (rest : List V) → all_views views (ss ++ s ∷ []) ++ rest ≡ all_views views ss ++ (views_at views s ++ rest)
  all_push [] s rest = append_assoc (views_at views s) [] rest
  all_push (x ∷ ss) s rest =
      append_assoc (views_at views x) (all_views views (ss ++ s ∷ [])) rest
      ∙ (ap (λ (l : List V). views_at views x ++ l) (all_push ss s rest) ∙ sym (append_assoc (views_at views x) (all_views views ss) (views_at views s ++ rest)))

  -- a seat that was taken off the end
  pub last_seat : (IsSeat : S → Type 0) (items new : List (Option S)) (s : Option S) (w : S) → items ≡ new ++ s ∷ [] → s ≡ Some w → AreSeats IsSeat items
      → AreSeats IsSeat new × IsSeat w × (all_views views items ≡ all_views views new ++ views w)
  last_seat IsSeat items new s w is some_w are =
      let p = are_pop IsSeat new s (subst (λ (l : List (Option S)). AreSeats IsSeat l) is are) in (
        p.0,
        subst (λ (x : Option S). IsSomeSeat IsSeat x) some_w p.1,
        ap (all_views views) (is ∙ ap (λ (x : Option S). new ++ x ∷ []) some_w)
            ∙ (sym (append-nil (all_views views (new ++ Some w ∷ []))) ∙ (all_push new (Some w) [] ∙ ap (λ (l : List V). all_views views new ++ l) (append-nil (views w)))),
      )

-- ---- seats of one hart each, in the order of their numbers
module _ {S V : Type 0} (views : S → List V) (hart : V → ℕ) where
  from_in_order : (IsSeat : S → Type 0) (ss : List (Option S)) (first : ℕ) → AreSeats IsSeat ss
      → ((i : ℕ) (s : S) → slice_get ss i ≡ Some (Some s) → map hart (views s) ≡ (first + i) ∷ [])
      → map hart (all_views views ss) ≡ numbers_from first (length ss)
  from_in_order IsSeat [] first are order = refl
  from_in_order IsSeat (None ∷ ss) first are order = absurd are.0
  from_in_order IsSeat (Some s ∷ ss) first are order =
      let here : map hart (views s) ≡ first ∷ [] = order 0 s refl ∙ ap (λ (k : ℕ). k ∷ []) (let e : first + 0 ≡ first = omega arith in e) in
      let next : (i : ℕ) (u : S) → slice_get ss i ≡ Some (Some u) → map hart (views u) ≡ (suc first + i) ∷ [] =
      λ i u at. order (suc i) u at ∙ ap (λ (k : ℕ). k ∷ []) (let e : first + suc i ≡ suc first + i = omega arith in e) in
      map-append hart (views s) (all_views views ss)
      ∙ (ap (λ (l : List ℕ). l ++ map hart (all_views views ss)) here ∙ ap (λ (l : List ℕ). first ∷ l) (from_in_order IsSeat ss (suc first) are.1 next))

  -- they have the harts in that order
  pub all_in_order : (IsSeat : S → Type 0) (ss : List (Option S)) → AreSeats IsSeat ss → AreByNumber views hart ss → map hart (all_views views ss) ≡ numbers_from 0 (length ss)
  all_in_order IsSeat ss are order = from_in_order IsSeat ss 0 are (λ i s at. order i s at ∙ ap (λ (k : ℕ). k ∷ []) (let e : i ≡ 0 + i = omega arith in e))

  in_order_from : (ss : List (Option S)) (vs : List V) (first n : ℕ) → views_by_seat views ss ≡ one_by_one vs → map hart vs ≡ numbers_from first n
      → (i : ℕ) (s : S) → slice_get ss i ≡ Some (Some s) → map hart (views s) ≡ (first + i) ∷ []
  in_order_from [] vs first n same own i s at = absurd (cc)
  in_order_from (x ∷ ss) [] first n same own i s at = absurd (cc)
  in_order_from (x ∷ ss) (v ∷ vs) first zero same own i s at = absurd (cc)
  in_order_from (x ∷ ss) (v ∷ vs) first (suc n) same own zero s at =
      let here : views_at views x ≡ v ∷ [] = ap (head_or (views_at views x)) same in
      let is : x ≡ Some s = ap (some_or x) at in
      let mine : views s ≡ v ∷ [] = ap (views_at views) (sym is) ∙ here in
      ap (map hart) mine ∙ ap (λ (k : ℕ). k ∷ []) (let e : hart v ≡ first = ap (head_or first) own in omega arith)
  in_order_from (x ∷ ss) (v ∷ vs) first (suc n) same own (suc i) s at =
      in_order_from ss vs (suc first) n (ap tail_of same) (ap tail_of own) i s at ∙ ap (λ (k : ℕ). k ∷ []) (let e : suc first + i ≡ first + suc i = omega arith in e)

  -- a list of single harts is in the order of their numbers
  pub in_order : (ss : List (Option S)) (vs : List V) (n : ℕ) → views_by_seat views ss ≡ one_by_one vs → map hart vs ≡ numbers_from 0 n → AreByNumber views hart ss
  in_order ss vs n same own = λ i s at. in_order_from ss vs 0 n same own i s at ∙ ap (λ (k : ℕ). k ∷ []) (let e : 0 + i ≡ i = omega arith in e)
