-- The steps before a place fix what the step at that place found.
use Rattle.std.proofs.Common.{rules, ◌≡◌, ℕ, zero, suc, ◌<◌, ◌≤◌, true, false, List, [], ◌∷◌, length, map, refl, sym, ap, ◌∙◌, subst, arith, eq-eqb, ne_eqb}
use Rattle.std.specs.Prelude.{nat_lt, if◌then◌else◌}
use mathlib.Core.Logic.{dite}
use mathlib.Core.Option.{some, some-injective, some-ne-none}
use native.Mathlib.Decide.{ℕ_discrete, dec_le}
use lib.ListN.{get_elem?}
use Rattle.tallies.specs.Logs.{Log, Reading, actions_in, log_places, placed, earlier, word_after, IsTrueLog}
use Rattle.tallies.proofs.Logs.{Same, AreOf, one_log, true_of}

lt_true : (m n : ℕ) → m < n → nat_lt m n ≡ true
lt_true m n lt = search (arith, rules)

lt_false : (m n : ℕ) → n ≤ m → nat_lt m n ≡ false
lt_false m n le = search (arith, rules)

module _ {D : Type 0} where
  -- the steps of a log before a place
  abbrev pub before : ℕ → Log D → Log D
  before p [] = []
  before p (e ∷ l) = if nat_lt (length l) p then e ∷ l else before p l

  before_all : (p : ℕ) (l : Log D) → length l ≤ p → before p l ≡ l
  before_all p [] le = refl
  before_all p (e ∷ l) le = rw (lt_true (length l) p (omega arith)) refl

  before_less : (p : ℕ) (e : ℕ × D) (l : Log D) → p ≤ length l → before p (e ∷ l) ≡ before p l
  before_less p e l le = rw (lt_false (length l) p le) refl

  -- the steps of a hart in a log, each with its place
  abbrev pub placed_in : ℕ → Log D → List (ℕ × D)
  placed_in k l = placed (actions_in k l) (log_places k l)

  actions_back : (k : ℕ) (l : Log D) → map (λ (x : ℕ × D). x.1) (placed_in k l) ≡ actions_in k l
  actions_back k [] = refl
  actions_back k (e ∷ l) =
      dite (ℕ_discrete e.0 k)
      (λ hit. rw (eq-eqb e.0 k hit) (ap (λ (ds : List D). e.1 ∷ ds) (actions_back k l)))
      (λ miss. rw (ne_eqb e.0 k miss) (actions_back k l))

  places_back : (k : ℕ) (l : Log D) → map (λ (x : ℕ × D). x.0) (placed_in k l) ≡ log_places k l
  places_back k [] = refl
  places_back k (e ∷ l) =
      dite (ℕ_discrete e.0 k)
      (λ hit. rw (eq-eqb e.0 k hit) (ap (λ (ps : List ℕ). length l ∷ ps) (places_back k l)))
      (λ miss. rw (ne_eqb e.0 k miss) (places_back k l))

  all_earlier : (k p : ℕ) (l : Log D) → length l ≤ p → earlier p (placed_in k l) ≡ placed_in k l
  all_earlier k p [] le = refl
  all_earlier k p (e ∷ l) le =
      dite (ℕ_discrete e.0 k)
      (λ hit. rw (eq-eqb e.0 k hit, lt_true (length l) p (omega arith)) (ap (λ (xs : List (ℕ × D)). (length l, e.1) ∷ xs) (all_earlier k p l (omega arith))))
      (λ miss. rw (ne_eqb e.0 k miss) (all_earlier k p l (omega arith)))

  earlier_before : (k p : ℕ) (l : Log D) → earlier p (placed_in k l) ≡ placed_in k (before p l)
  earlier_before k p [] = refl
  earlier_before k p (e ∷ l) = elim (dec_le (suc (length l)) p) [
    | yes lt ↦ all_earlier k p (e ∷ l) lt ∙ ap (placed_in k) (sym (before_all p (e ∷ l) lt))
    | no n ↦ (
        let le : p ≤ length l = omega arith in
        let one : earlier p (placed_in k (e ∷ l)) ≡ earlier p (placed_in k l) =
        dite (ℕ_discrete e.0 k)
        (λ hit. rw (eq-eqb e.0 k hit, lt_false (length l) p le) refl)
        (λ miss. rw (ne_eqb e.0 k miss) refl) in
        one ∙ (earlier_before k p l ∙ ap (placed_in k) (sym (before_less p e l le))))
  ]

  same_before : (k p : ℕ) (l m : Log D) → earlier p (placed_in k m) ≡ earlier p (placed_in k l) → Same k (before p l) (before p m)
  same_before k p l m same =
      let e : placed_in k (before p m) ≡ placed_in k (before p l) = sym (earlier_before k p m) ∙ (same ∙ earlier_before k p l) in (
        sym (actions_back k (before p m)) ∙ (ap (map (λ (x : ℕ × D). x.1)) e ∙ actions_back k (before p l)),
        sym (places_back k (before p m)) ∙ (ap (map (λ (x : ℕ × D). x.0)) e ∙ places_back k (before p l)),
      )

  of_before : (harts p : ℕ) (l : Log D) → AreOf harts l → AreOf harts (before p l)
  of_before harts p [] a = tt
  of_before harts p (e ∷ l) a = elim (dec_le (suc (length l)) p) [
    | yes lt ↦ subst (AreOf harts) (sym (before_all p (e ∷ l) lt)) a
    | no n ↦ subst (AreOf harts) (sym (before_less p e l (omega arith))) (of_before harts p l a.1)
  ]

  -- the earlier steps of all harts fix the log before the place
  one_past : (harts p : ℕ) (l m : Log D) → AreOf harts l → AreOf harts m → ((k : ℕ) → k < harts → earlier p (placed_in k m) ≡ earlier p (placed_in k l)) → before p m ≡ before p l
  one_past harts p l m a b same = one_log harts (before p l) (before p m) (of_before harts p l a) (of_before harts p m b) (λ k lt. same_before k p l m (same k lt))

  -- each place is below the length
  under_length : (k i : ℕ) (l : Log D) (x : ℕ × D) → get_elem? (placed_in k l) i ≡ some x → x.0 < length l
  under_length k i [] x got = absurd (some-ne-none x (sym got))
  under_length k zero (e ∷ l) x got =
      dite (ℕ_discrete e.0 k)
      (λ hit. let g = rw (eq-eqb e.0 k hit) at got in let z = ap (λ (y : ℕ × D). y.0) (some-injective (length l, e.1) x g) in omega arith)
      (λ miss. let g = rw (ne_eqb e.0 k miss) at got in let more = under_length k zero l x g in omega arith)
  under_length k (suc i) (e ∷ l) x got =
      dite (ℕ_discrete e.0 k)
      (λ hit. let g = rw (eq-eqb e.0 k hit) at got in let more = under_length k i l x g in omega arith)
      (λ miss. let g = rw (ne_eqb e.0 k miss) at got in let more = under_length k (suc i) l x g in omega arith)

  module _ (r : Reading D) (first : ℕ → ℕ) (harts : ℕ) where
    -- the step found what those before its place had left
    abbrev IsTrueAt : ℕ → ℕ × D → Log D → Type 0
    IsTrueAt k x l = r.found_by x.1 (word_after r first (r.word_of k x.1) l) ≡ word_after r first (r.word_of k x.1) l

    true_at : (k i : ℕ) (l : Log D) (x : ℕ × D) → IsTrueLog r first harts l → get_elem? (placed_in k l) i ≡ some x → IsTrueAt k x (before x.0 l)
    true_at k i [] x t got = absurd (some-ne-none x (sym got))
    true_at k zero (e ∷ l) x t got =
        dite (ℕ_discrete e.0 k)
        (λ hit.
        let g = rw (eq-eqb e.0 k hit) at got in
        let is = some-injective (length l, e.1) x g in
        let past : before (length l) (e ∷ l) ≡ l = before_less (length l) e l (omega arith) ∙ before_all (length l) l (omega arith) in
        subst (λ (y : ℕ × D). IsTrueAt k y (before y.0 (e ∷ l))) is (subst (IsTrueAt k (length l, e.1)) (sym past) (subst (λ (n : ℕ). IsTrueAt n (length l, e.1) l) hit t.1)))
        (λ miss.
        let g = rw (ne_eqb e.0 k miss) at got in
        let lt = under_length k zero l x g in
        subst (IsTrueAt k x) (sym (before_less x.0 e l (omega arith))) (true_at k zero l x t.2 g))
    true_at k (suc i) (e ∷ l) x t got =
        dite (ℕ_discrete e.0 k)
        (λ hit.
        let g = rw (eq-eqb e.0 k hit) at got in
        let lt = under_length k i l x g in
        subst (IsTrueAt k x) (sym (before_less x.0 e l (omega arith))) (true_at k i l x t.2 g))
        (λ miss.
        let g = rw (ne_eqb e.0 k miss) at got in
        let lt = under_length k (suc i) l x g in
        subst (IsTrueAt k x) (sym (before_less x.0 e l (omega arith))) (true_at k (suc i) l x t.2 g))

    -- two logs with the same steps before a place, and a step of the hart at that place, in the same word:
    -- both found what that word held
    pub one_found : (l m : Log D) → IsTrueLog r first harts l → IsTrueLog r first harts m → (p h i j : ℕ) (x y : D)
        → ((k : ℕ) → k < harts → earlier p (placed_in k m) ≡ earlier p (placed_in k l))
        → get_elem? (placed_in h l) i ≡ some (p, x) → get_elem? (placed_in h m) j ≡ some (p, y) → r.word_of h y ≡ r.word_of h x
        → (w : ℕ) × (r.found_by x w ≡ w) × (r.found_by y w ≡ w)
    one_found l m tl tm p h i j x y same got got' word =
        let past = one_past harts p l m (true_of r first harts l tl) (true_of r first harts m tm) same in
        let mine = true_at h i l (p, x) tl got in
        let theirs = true_at h j m (p, y) tm got' in (
          word_after r first (r.word_of h x) (before p l),
          mine,
          subst (λ (n : ℕ). r.found_by y (word_after r first n (before p l)) ≡ word_after r first n (before p l)) word (subst (IsTrueAt h (p, y)) past theirs),
        )
