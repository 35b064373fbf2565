-- Lists of the harts of a seat: one more action of one, parted and joined, and at the start.
use Rattle.std.proofs.Common.{◌≡◌, ◌≢◌, ◌⊎◌, inl, inr, ℕ, zero, suc, ◌+◌, ◌<◌, ◌≤◌, List, [], ◌∷◌, ◌++◌, take, drop, set, refl, sym, ap, ◌∙◌, subst, arith, eq-eqb, ne_eqb}
use mathlib.Core.Logic.{dite}
use mathlib.Core.Option.{some, some-ne-none, some-injective}
use native.Mathlib.Decide.{ℕ_discrete}
use lib.ListN.{get_elem?}
use Rattle.tallies.specs.{Sums.total, Notes.{hart_notes, numbers, is_of, noted, HasNoted, opening_from}, Seats.numbers_from}
use Rattle.tallies.{specs.declared.view.{HartNotes.HartNotes, SeatNotes.SeatNotes}, proofs.{Seatings.head_or, Logs.found_at}}

module _ {S D : Type 0} where
  pub is_of_same : (h : ℕ) (v : HartNotes S D) → v.hart ≡ h → is_of h v ≡ 1
  is_of_same h v e = rw (eq-eqb v.hart h e) refl

  pub is_of_other : (h : ℕ) (v : HartNotes S D) → v.hart ≢ h → is_of h v ≡ 0
  is_of_other h v e = rw (ne_eqb v.hart h e) refl

  pub hart_is : (h : ℕ) (v : HartNotes S D) → 0 < is_of h v → v.hart ≡ h
  hart_is h v some_of = dite (ℕ_discrete v.hart h) (λ e. e) (λ ne. absurd (let z = is_of_other h v ne in omega arith))

  pub none_left : (vs : List (HartNotes S D)) → ((h : ℕ) → total (is_of h) vs ≡ 0) → vs ≡ []
  none_left [] z = refl
  none_left (v ∷ vs) z = let e = z v.hart in let one = is_of_same v.hart v refl in absurd (omega arith)

  -- a seat of one hart has it
  pub seated_alone : (h : ℕ) (vs : List (HartNotes S D)) → numbers vs ≡ h ∷ [] → total (is_of h) vs ≡ 1
  seated_alone h [] own = absurd (cc)
  seated_alone h (v ∷ w ∷ vs) own = absurd (cc)
  seated_alone h (v ∷ []) own = let e = is_of_same h v (ap (head_or h) own) in omega arith

  -- ---- one more action
  pub seats_noted : (k h : ℕ) (st : S) (p : ℕ) (x : D) (vs : List (HartNotes S D)) → total (is_of k) (noted h st p x vs) ≡ total (is_of k) vs
  seats_noted k h st p x [] = refl
  seats_noted k h st p x (v ∷ vs) =
      dite (ℕ_discrete v.hart h)
      (λ hit. rw (eq-eqb v.hart h hit) refl)
      (λ miss. let more = seats_noted k h st p x vs in rw (ne_eqb v.hart h miss) (omega arith))

  numbers_noted : (h : ℕ) (st : S) (p : ℕ) (x : D) (vs : List (HartNotes S D)) → numbers (noted h st p x vs) ≡ numbers vs
  numbers_noted h st p x [] = refl
  numbers_noted h st p x (v ∷ vs) =
      dite (ℕ_discrete v.hart h)
      (λ hit. rw (eq-eqb v.hart h hit) refl)
      (λ miss. rw (ne_eqb v.hart h miss) (ap (λ (l : List ℕ). v.hart ∷ l) (numbers_noted h st p x vs)))

  -- the harts of the seat stay
  pub numbered : (h : ℕ) (st : S) (x : D) (vs vs' : List (HartNotes S D)) → HasNoted h st x vs vs' → numbers vs' ≡ numbers vs
  numbered h st x vs vs' is = ap numbers is.1 ∙ numbers_noted h st is.0 x vs

  -- where the acting hart is in its seat
  pub record Spot (h : ℕ) (vs : List (HartNotes S D)) : Type 0 where
    pub k : ℕ
    pub v : HartNotes S D
    pub own : v.hart ≡ h
    pub there : get_elem? vs k ≡ some v
    pub then_noted : (st : S) (n : ℕ) (x : D) → noted h st n x vs ≡ set vs k (hart_notes h st (x ∷ v.actions) (n ∷ v.places))

  later : (h : ℕ) (v : HartNotes S D) (vs : List (HartNotes S D)) → v.hart ≢ h → Spot h vs → Spot h (v ∷ vs)
  later h v vs miss p = record {
    k = suc p.k;
    v = p.v;
    own = p.own;
    there = p.there;
    then_noted = λ st n x. rw (ne_eqb v.hart h miss) (ap (λ (l : List (HartNotes S D)). v ∷ l) (p.then_noted st n x));
  }

  pub spot : (h : ℕ) (vs : List (HartNotes S D)) → 0 < total (is_of h) vs → Spot h vs
  spot h [] some_of = absurd (omega arith)
  spot h (v ∷ vs) some_of =
      dite (ℕ_discrete v.hart h)
      (λ hit. record {
        k = 0;
        v = v;
        own = hit;
        there = refl;
        then_noted = λ st n x. rw (eq-eqb v.hart h hit) (ap (λ (i : ℕ). hart_notes i st (x ∷ v.actions) (n ∷ v.places) ∷ vs) hit);
      })
      (λ miss. later h v vs miss (spot h vs (let z = is_of_other h v miss in omega arith)))

  -- where a hart's view is
  pub record Holder (h : ℕ) (views : List (SeatNotes S D)) (v : HartNotes S D) : Type 0 where
    pub id : ℕ
    pub c : SeatNotes S D
    pub i : ℕ
    pub seat : get_elem? views id ≡ some c
    pub there : get_elem? c.harts i ≡ some v
    pub own : v.hart ≡ h

  pub holder : (h : ℕ) (views : List (SeatNotes S D)) → 0 < total (λ (c : SeatNotes S D). total (is_of h) c.harts) views → (v : HartNotes S D) × Holder h views v
  holder h views some_of =
      let r = found_at (λ (c : SeatNotes S D). total (is_of h) c.harts) views some_of in
      let q = found_at (is_of h) r.1.harts r.3 in
      (q.1, record { id = r.0; c = r.1; i = q.0; seat = r.2; there = q.2; own = hart_is h q.1 q.3 })

-- ---- parted and joined
module _ {A : Type 0} where
  pub parted : (f : A → ℕ) (xs : List A) → total f (take 1 xs) + total f (drop 1 xs) ≡ total f xs
  parted f [] = refl
  parted f (x ∷ xs) = omega arith

  pub in_first : (xs : List A) (k : ℕ) (x : A) → get_elem? (take 1 xs) k ≡ some x → get_elem? xs k ≡ some x
  in_first [] k x e = absurd (some-ne-none x (sym e))
  in_first (y ∷ xs) zero x e = e
  in_first (y ∷ xs) (suc k) x e = absurd (some-ne-none x (sym e))

  pub in_rest : (xs : List A) (k : ℕ) (x : A) → get_elem? (drop 1 xs) k ≡ some x → get_elem? xs (suc k) ≡ some x
  in_rest [] k x e = absurd (some-ne-none x (sym e))
  in_rest (y ∷ xs) k x e = e

  pub in_append : (xs ys : List A) (k : ℕ) (x : A) → get_elem? (xs ++ ys) k ≡ some x → (get_elem? xs k ≡ some x) ⊎ ((j : ℕ) × (get_elem? ys j ≡ some x))
  in_append [] ys k x e = inr (k, e)
  in_append (y ∷ xs) ys zero x e = inl e
  in_append (y ∷ xs) ys (suc k) x e = in_append xs ys k x e

-- ---- at the start
module _ {S : Type 0} (D : Type 0) (stage : ℕ → S) where
  seats_below : (h first n : ℕ) → h < first → total (is_of {D = D} h) (opening_from stage first n) ≡ 0
  seats_below h first zero below = refl
  seats_below h first (suc n) below =
      let more = seats_below h (suc first) n (omega arith) in
      let z = is_of_other h (hart_notes {D = D} first (stage first) [] []) (λ e. omega arith) in
      omega arith

  seats_in : (h first n : ℕ) → first ≤ h → h < first + n → total (is_of {D = D} h) (opening_from stage first n) ≡ 1
  seats_in h first zero low high = absurd (omega arith)
  seats_in h first (suc n) low high =
      dite (ℕ_discrete first h)
      (λ e. let o = is_of_same h (hart_notes {D = D} first (stage first) [] []) e in let z = seats_below h (suc first) n (omega arith) in omega arith)
      (λ ne. let z = is_of_other h (hart_notes {D = D} first (stage first) [] []) ne in let more = seats_in h (suc first) n (omega arith) (omega arith) in omega arith)

  seats_above : (h first n : ℕ) → first + n ≤ h → total (is_of {D = D} h) (opening_from stage first n) ≡ 0
  seats_above h first zero above = refl
  seats_above h first (suc n) above =
      let more = seats_above h (suc first) n (omega arith) in
      let z = is_of_other h (hart_notes {D = D} first (stage first) [] []) (λ e. omega arith) in
      omega arith

  pub opens_seated : (harts h : ℕ) → h < harts → total (is_of {D = D} h) (opening_from stage 0 harts) ≡ 1
  opens_seated harts h lt = seats_in h 0 harts (omega arith) (omega arith)

  pub opens_none : (harts h : ℕ) → harts ≤ h → total (is_of {D = D} h) (opening_from stage 0 harts) ≡ 0
  opens_none harts h ge = seats_above h 0 harts (omega arith)

  -- no hart did anything
  pub no_actions : (g : D → ℕ) (first n : ℕ) → total (λ (v : HartNotes S D). total g v.actions) (opening_from stage first n) ≡ 0
  no_actions g first zero = refl
  no_actions g first (suc n) = let more = no_actions g (suc first) n in omega arith

  opens_from : (P : HartNotes S D → Type 0) (first n : ℕ) → ((h : ℕ) → first ≤ h → h < first + n → P (hart_notes h (stage h) [] [])) → (k : ℕ) (v : HartNotes S D) → get_elem? (opening_from stage first n) k ≡ some v → P v
  opens_from P first zero all k v e = absurd (some-ne-none v (sym e))
  opens_from P first (suc n) all zero v e = subst P (some-injective (hart_notes first (stage first) [] []) v e) (all first (omega arith) (omega arith))
  opens_from P first (suc n) all (suc k) v e = opens_from P (suc first) n (λ h lo hi. all h (omega arith) (omega arith)) k v e

  -- what holds of each hart at the start
  pub opens_each : (P : HartNotes S D → Type 0) (harts : ℕ) → ((h : ℕ) → h < harts → P (hart_notes h (stage h) [] [])) → (k : ℕ) (v : HartNotes S D) → get_elem? (opening_from stage 0 harts) k ≡ some v → P v
  opens_each P harts all k v e = opens_from P 0 harts (λ h lo hi. all h (omega arith)) k v e

  numbered_from : (first n : ℕ) → numbers {D = D} (opening_from stage first n) ≡ numbers_from first n
  numbered_from first zero = refl
  numbered_from first (suc n) = ap (λ (l : List ℕ). first ∷ l) (numbered_from (suc first) n)

  pub opens_numbered : (harts : ℕ) → numbers {D = D} (opening_from stage 0 harts) ≡ numbers_from 0 harts
  opens_numbered harts = numbered_from 0 harts
