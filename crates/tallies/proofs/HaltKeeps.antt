-- Each step keeps the rule of a word that is set once.
use Rattle.std.proofs.Common.{◌≡◌, ◌≢◌, ◌∙◌, ◌+◌, ◌<◌, ℕ, zero, suc, true, false, not, List, [], ◌∷◌, ◌++◌, Option, Some, None, refl, sym, ap, subst, ⊎_elim, arith, eq-eqb, ne_eqb}
use Rattle.std.specs.Prelude.{is_some, slice_index, slice_set}
use mathlib.Core.Option.{some, some-ne-none, some-injective}
use lib.ListN.{get_elem?}
use Rattle.atomic_table.specs.Table.{State, Step, Me, Act, keeps, Valid, stepped, carried_after, Allows, Enters as Entering, Splits, Joins, opening}
use Rattle.atomic_table.proofs.Lists.{at_set, at_snoc, set_again}
use Rattle.tallies.{specs.Sums.total, proofs.Totals.{total-append, total-set, total_split, total_join, at_most_total}}
use Rattle.tallies.specs.declared.halt_views.HaltView.{HaltView}
use Rattle.tallies.specs.Halts.{halt_view, no_looks, first_view, unset_of, sets_of, setters, same_view, what_is_known, with_known, IsKept, Enters, Looks, Sets, Learns}

-- one that knows no sum
none_known : (w v : HaltView) (n : ℕ) → w.sum ≡ None → w ≡ v → v.sum ≡ Some n → ⊥
none_known w v n none is sum = let e : ◌≡◌ {A = Option ℕ} None (Some n) = sym none ∙ (ap (λ (x : HaltView). x.sum) is ∙ sum) in let no : ⊥ = cc in no

pub opens : IsKept (opening (0 ∷ []) [] first_view)
opens = record { word = 0; one = refl; set = known; right = refl }
  where
    known : (id : ℕ) (v : HaltView) (n : ℕ) → get_elem? (first_view ∷ []) id ≡ some v → v.sum ≡ Some n → (◌≢◌ {A = ℕ} 0 0) × (n ≡ total unset_of (first_view ∷ []))
    known zero v n at sum = absurd (none_known first_view v n refl (some-injective _ _ at) sum)
    known (suc id) v n at sum = absurd (some-ne-none v (sym at))

module _ (s : State (Unit {0}) HaltView) (kept : IsKept s) where
  -- one who has not looked yet comes
  more : (f : HaltView → ℕ) → f no_looks ≡ 0 → total f (s.views ++ no_looks ∷ []) ≡ total f s.views
  more f none = let long = total-append f s.views (no_looks ∷ []) in omega (arith, long, none)

  pub entered : IsKept (record { words = s.words; homes = s.homes; views = s.views ++ no_looks ∷ [] })
  entered = record {
    word = kept.word;
    one = kept.one;
    set = λ id v n there sum. ⊎_elim
        (λ (was : get_elem? s.views id ≡ some v). let k = kept.set id v n was sum in (k.0, k.1 ∙ sym (more unset_of refl)))
        (λ (is : no_looks ≡ v). absurd (none_known no_looks v n refl is sum))
        (at_snoc s.views no_looks v id there);
    right = more sets_of refl ∙ kept.right;
  }

  -- where the word is unset nobody knows a sum
  nobody : kept.word ≡ 0 → (id : ℕ) (v : HaltView) (n : ℕ) → get_elem? s.views id ≡ some v → v.sum ≡ Some n → ⊥
  nobody is id v n at sum = (kept.set id v n at sum).0 is

  found : slice_index s.words 0 ≡ kept.word
  found = ap (λ (ws : List ℕ). slice_index ws 0) kept.one

  same_word : slice_set s.words 0 (slice_index s.words 0) ≡ kept.word ∷ []
  same_word = ap (λ (ws : List ℕ). slice_set ws 0 (slice_index ws 0)) kept.one

  -- where one may set the word it is unset
  one_may : (n : ℕ) → 0 < setters n → n ≡ 0
  one_may zero lt = refl
  one_may (suc n) lt = absurd (omega (arith, lt))

  pub may_unset : (id : ℕ) (v : HaltView) → get_elem? s.views id ≡ some v → v.may_set ≡ true → kept.word ≡ 0
  may_unset id v at is =
      let one : sets_of v ≡ 1 = rw is refl in
      let most = at_most_total sets_of s.views id v at in
      let right = kept.right in
      one_may kept.word (omega (arith, one, most, right))

  pub looked_unset : (id : ℕ) (v w : HaltView) → get_elem? s.views id ≡ some v → kept.word ≡ 0 → w.sum ≡ v.sum → w.may_set ≡ v.may_set → IsKept (record { words = slice_set s.words 0 (slice_index s.words 0); homes = s.homes; views = slice_set s.views id w })
  looked_unset id v w at is same may = record {
    word = kept.word;
    one = same_word;
    set = λ j u n there sum. absurd (⊎_elim
        (λ (t : (j ≡ id) × (w ≡ u)). nobody is id v n at (sym same ∙ (ap (λ (x : HaltView). x.sum) t.1 ∙ sum)))
        (λ (t : (j ≢ id) × (get_elem? s.views j ≡ some u)). nobody is j u n t.1 sum)
        (at_set s.views id j w u there));
    right = let all = total-set sets_of s.views id v w at in let eq : sets_of w ≡ sets_of v = rw may refl in let right = kept.right in omega (arith, all, eq, right);
  }

  -- a view that knows of the sum what is so
  known_so : (m : ℕ) (w u : HaltView) (n : ℕ) → w.sum ≡ Some m → w ≡ u → u.sum ≡ Some n → m ≡ n
  known_so m w u n knows is sum =
      let e : ◌≡◌ {A = Option ℕ} (Some m) (Some n) = sym knows ∙ (ap (λ (x : HaltView). x.sum) is ∙ sum) in
      let same : m ≡ n = cc in
      same

  pub looked_set : (id : ℕ) (v w : HaltView) → get_elem? s.views id ≡ some v → kept.word ≢ 0 → w.sum ≡ Some (total unset_of s.views) → w.unset ≡ v.unset → w.may_set ≡ v.may_set
      → IsKept (record { words = slice_set s.words 0 (slice_index s.words 0); homes = s.homes; views = slice_set s.views id w })
  looked_set id v w at is knows same may =
      let all = total-set unset_of s.views id v w at in
      let still : total unset_of (slice_set s.views id w) ≡ total unset_of s.views = omega (arith, all, same) in
      record {
        word = kept.word;
        one = same_word;
        set = λ j u n there sum. (
          is,
          ⊎_elim
              (λ (t : (j ≡ id) × (w ≡ u)). sym (known_so (total unset_of s.views) w u n knows t.1 sum) ∙ sym still)
              (λ (t : (j ≢ id) × (get_elem? s.views j ≡ some u)). (kept.set j u n t.1 sum).1 ∙ sym still)
              (at_set s.views id j w u there),
        );
        right = let own = total-set sets_of s.views id v w at in let eq : sets_of w ≡ sets_of v = rw may refl in let right = kept.right in omega (arith, own, eq, right);
      }

  pub was_set : (id : ℕ) (v w : HaltView) → get_elem? s.views id ≡ some v → v.may_set ≡ true → w ≡ halt_view false v.unset (Some (total unset_of s.views))
      → IsKept (record { words = slice_set s.words 0 1; homes = s.homes; views = slice_set s.views id w })
  was_set id v w at is new =
      let all = total-set unset_of s.views id v w at in
      let same : w.unset ≡ v.unset = ap unset_of new in
      let still : total unset_of (slice_set s.views id w) ≡ total unset_of s.views = omega (arith, all, same) in
      let own = total-set sets_of s.views id v w at in
      let one : sets_of v ≡ 1 = rw is refl in
      let none : sets_of w ≡ 0 = ap sets_of new in
      let unset = may_unset id v at is in
      let right : total sets_of s.views ≡ 1 = kept.right ∙ ap setters unset in
      record {
        word = 1;
        one = ap (λ (ws : List ℕ). slice_set ws 0 1) kept.one;
        set = λ j u n there sum. (
          (λ e. omega (arith, e)),
          ⊎_elim
              (λ (t : (j ≡ id) × (w ≡ u)). sym (known_so (total unset_of s.views) w u n (ap (λ (x : HaltView). x.sum) new) t.1 sum) ∙ sym still)
              (λ (t : (j ≢ id) × (get_elem? s.views j ≡ some u)). absurd (nobody unset j u n t.1 sum))
              (at_set s.views id j w u there),
        );
        right = omega (arith, own, one, none, right);
      }

pub enters : (slots : ℕ) (st : Step (Unit {0})) (m : Me (Unit {0}) HaltView) → Entering IsKept slots 0 (λ n w. Enters st m n (w, []))
enters slots st m s kept homes small = (no_looks, entered s kept, refl)

pub sets : (slots id : ℕ) (m : Me (Unit {0}) HaltView) (st : Step (Unit {0})) → m.0.may_set ≡ true → Allows IsKept slots id m 0 (λ _. 1) (Sets st m)
sets slots id m st may s kept homes at small =
    let w = halt_view false m.0.unset (Some (total unset_of s.views)) in
    (w, keeps, tt, was_set s kept id m.0 w at may refl, (total unset_of s.views, refl, refl))

pub looks : (slots id : ℕ) (m : Me (Unit {0}) HaltView) (st : Step (Unit {0})) → Allows IsKept slots id m 0 (λ n. n) (Looks st m)
looks slots id m st s kept homes at small = by kept.word refl
  where
    by : (n : ℕ) → kept.word ≡ n
        → (w : HaltView) × (a : Act (Unit {0})) × Valid s.homes m.1 a × IsKept (stepped s 0 (slice_index s.words 0) id m.1 w a) × Looks st m (slice_index s.words 0) (w, carried_after m.1 a)
    by zero is = (
      halt_view m.0.may_set (suc m.0.unset) m.0.sum,
      keeps,
      tt,
      looked_unset s kept id m.0 (halt_view m.0.may_set (suc m.0.unset) m.0.sum) at is refl refl,
      let n : slice_index s.words 0 ≡ 0 = found s kept ∙ is in rw (eq-eqb (slice_index s.words 0) 0 n) (refl, refl),
    )
    by (suc k) is =
        let w = halt_view m.0.may_set m.0.unset (Some (total unset_of s.views)) in (
          w,
          keeps,
          tt,
          looked_set s kept id m.0 w at (λ e. omega (arith, is, e)) refl refl refl,
          let n : slice_index s.words 0 ≡ suc k = found s kept ∙ is in rw (ne_eqb (slice_index s.words 0) 0 (λ e. omega (arith, n, e))) ((total unset_of s.views, refl), refl),
        )

-- ---- a watch is copied, and one learns what another knows
pub copied : (id : ℕ) (v : HaltView) → Splits IsKept id v (same_view v) (what_is_known v)
copied id v s kept at =
    let w = what_is_known v in
    let still : total unset_of (slice_set s.views id v ++ w ∷ []) ≡ total unset_of s.views = total_split unset_of s.views id v v w at (omega arith) in
    record {
      word = kept.word;
      one = kept.one;
      set = λ j u n there sum.
          let now : (u.sum ≡ v.sum) → (kept.word ≢ 0) × (n ≡ total unset_of s.views) = λ e. kept.set id v n at (sym e ∙ sum) in
          let k : (kept.word ≢ 0) × (n ≡ total unset_of s.views) = ⊎_elim
          (λ was. ⊎_elim
          (λ (t : (j ≡ id) × (v ≡ u)). now (sym (ap (λ (x : HaltView). x.sum) t.1)))
          (λ (t : (j ≢ id) × (get_elem? s.views j ≡ some u)). kept.set j u n t.1 sum)
          (at_set s.views id j v u was))
          (λ (is : w ≡ u). now (sym (ap (λ (x : HaltView). x.sum) is)))
          (at_snoc (slice_set s.views id v) w u j there) in
          (k.0, k.1 ∙ sym still);
      right = total_split sets_of s.views id v v w at (omega arith) ∙ kept.right;
    }

pub knows : (id other : ℕ) (v w : HaltView) → w.may_set ≡ false → Joins IsKept id v other w (with_known v w) no_looks
knows id other v w lame s kept at ne there =
    let b = with_known v w in
    let none : sets_of w ≡ 0 = rw lame refl in
    let still : total unset_of (slice_set (slice_set s.views id b) other no_looks) ≡ total unset_of s.views = total_join unset_of s.views id other v w b no_looks at there refl refl in
    let at' : get_elem? s.views other ≡ some w = ⊎_elim
    (λ (t : (other ≡ id) × (b ≡ w)). absurd (ne t.0))
    (λ (t : (other ≢ id) × (get_elem? s.views other ≡ some w)). t.1)
    (at_set s.views id other b w there) in
    record {
      word = kept.word;
      one = kept.one;
      set = λ j u n here sum.
          let k : (kept.word ≢ 0) × (n ≡ total unset_of s.views) = ⊎_elim
          (λ (t : (j ≡ other) × (no_looks ≡ u)). absurd (none_known no_looks u n refl t.1 sum))
          (λ (t : (j ≢ other) × (get_elem? (slice_set s.views id b) j ≡ some u)). ⊎_elim
          (λ (r : (j ≡ id) × (b ≡ u)). kept.set other w n at' (ap (λ (x : HaltView). x.sum) r.1 ∙ sum))
          (λ (r : (j ≢ id) × (get_elem? s.views j ≡ some u)). kept.set j u n r.1 sum)
          (at_set s.views id j b u t.1))
          (at_set (slice_set s.views id b) other j no_looks u here) in
          (k.0, k.1 ∙ sym still);
      right = total_join sets_of s.views id other v w b no_looks at there (omega (arith, none)) refl ∙ kept.right;
    }

pub learns : (slots id : ℕ) (m : Me (Unit {0}) HaltView) (st : Step (Unit {0})) → Allows IsKept slots id m 0 (λ n. n) (Learns st m)
learns slots id m st s kept homes at small = (
  m.0,
  keeps,
  tt,
  subst (λ (vs : List HaltView). IsKept (record { words = slice_set s.words 0 (slice_index s.words 0); homes = s.homes; views = vs })) (sym (set_again s.views id m.0 at))
      (record { word = kept.word; one = same_word s kept; set = kept.set; right = kept.right }),
  (refl, λ may. none_by m.0.sum refl (may_unset s kept id m.0 at may)),
)
  where
    none_by : (o : Option ℕ) → m.0.sum ≡ o → kept.word ≡ 0 → is_some m.0.sum ≡ false
    none_by None is unset = ap (λ (x : Option ℕ). is_some x) is
    none_by (Some n) is unset = absurd ((kept.set id m.0 n at is).0 unset)
