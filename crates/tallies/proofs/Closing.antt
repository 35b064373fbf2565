-- Where all parts are back, what they were told is the journal.
use Rattle.std.proofs.Common.{◌≡◌, ℕ, zero, suc, ◌+◌, ◌<◌, List, [], ◌∷◌, ◌++◌, length, Some, refl, sym, ap, ◌∙◌, subst, arith, eq-eqb, ne_eqb, length-append}
use Rattle.std.specs.Prelude.{slice_get}
use mathlib.Core.Logic.{dite}
use native.Mathlib.Decide.{ℕ_discrete}
use Rattle.tallies.{specs.{Sums.total, Logs.Log, declared.book_views.PartView.PartView}, proofs.Seatings.some_or}
use Rattle.tallies.{specs.Books.{Each, entries_of, told_by, is_of, IsPart}, proofs.BookKeeps.{is_of_other, is_of_same}}
use Rattle.tallies.specs.Closed.{StandsIn, AreStanding, AreReceiptsOf, told_in}
use Rattle.board_model.specs.declared.durable.Entry.{Entry}

pub length_journal : (l : Log Entry) → length (entries_of l) ≡ length l
length_journal [] = refl
length_journal (e ∷ l) = let h = length_journal l in omega (arith, length-append (entries_of l) (e.1 ∷ []))

module _ {A : Type 0} where
  get_front : (xs ys : List A) (k : ℕ) (p : A) → slice_get xs k ≡ Some p → slice_get (xs ++ ys) k ≡ Some p
  get_front [] ys k p e = absurd (cc)
  get_front (x ∷ xs) ys zero p e = e
  get_front (x ∷ xs) ys (suc k) p e = get_front xs ys k p e

  get_back : (xs ys : List A) (k : ℕ) → (j : ℕ) × (slice_get (xs ++ ys) j ≡ slice_get ys k)
  get_back [] ys k = (k, refl)
  get_back (x ∷ xs) ys k = let r = get_back xs ys k in (suc r.0, r.1)

  get_end : (xs : List A) (x : A) (n : ℕ) → length xs ≡ n → slice_get (xs ++ x ∷ []) n ≡ Some x
  get_end [] x zero e = refl
  get_end [] x (suc n) e = absurd (omega arith)
  get_end (y ∷ ys) x zero e = absurd (omega arith)
  get_end (y ∷ ys) x (suc n) e = get_end ys x n (omega arith)

  -- what stands in a list with one more stands in the list, or is the one
  data Where (xs : List A) (x : A) (k : ℕ) (p : A) : Type 0 where
    there : slice_get xs k ≡ Some p → Where xs x k p
    last : k ≡ length xs → x ≡ p → Where xs x k p

  get_where : (xs : List A) (x : A) (k : ℕ) (p : A) → slice_get (xs ++ x ∷ []) k ≡ Some p → Where xs x k p
  get_where [] x zero p e = last refl (ap (some_or x) e)
  get_where [] x (suc k) p e = absurd (cc)
  get_where (y ∷ ys) x zero p e = there e
  get_where (y ∷ ys) x (suc k) p e = further (get_where ys x k p e)
    where
      further : Where ys x k p → Where (y ∷ ys) x (suc k) p
      further (there t) = there t
      further (last n is) = last (ap suc n) is

stands_on : (j : List Entry) (entry : Entry) (ts : List (ℕ × Entry)) → Each (StandsIn j) ts → Each (StandsIn (j ++ entry ∷ [])) ts
stands_on j entry [] all = tt
stands_on j entry (t ∷ ts) all = ((all.0.0, all.0.1, get_front j (entry ∷ []) all.0.0 t.1 all.0.2), stands_on j entry ts all.1)

stands : (who : ℕ) (l : Log Entry) → Each (StandsIn (entries_of l)) (told_by who l)
stands who [] = tt
stands who (e ∷ l) =
    dite (ℕ_discrete e.0 who)
    (λ hit. rw (eq-eqb e.0 who hit) ((length l, refl, get_end (entries_of l) e.1 (length l) (length_journal l)), stands_on (entries_of l) e.1 (told_by who l) (stands who l)))
    (λ miss. rw (ne_eqb e.0 who miss) (stands_on (entries_of l) e.1 (told_by who l) (stands who l)))

each_both : {A : Type 0} (P : A → Type 0) (xs ys : List A) → Each P xs → Each P ys → Each P (xs ++ ys)
each_both P [] ys all more = more
each_both P (x ∷ xs) ys all more = (all.0, each_both P xs ys all.1 more)

pub part_stands : (l : Log Entry) (d : PartView Entry) → IsPart l d → AreStanding (entries_of l) d.told
part_stands l d is = subst (Each (StandsIn (entries_of l))) (sym is) (stands d.who l)

pub are_standing : (l : Log Entry) (ds : List (PartView Entry)) → Each (IsPart l) ds → AreStanding (entries_of l) (told_in ds)
are_standing l [] all = tt
are_standing l (d ∷ ds) all =
    each_both (StandsIn (entries_of l)) d.told (told_in ds) (part_stands l d all.0) (are_standing l ds all.1)

-- an entry was told to whom it was added by
abbrev ToldBy : ℕ → Log Entry → ℕ × Entry → Type 0
ToldBy count l t = (who : ℕ) × (who < count) × (k : ℕ) × (slice_get (told_by who l) k ≡ Some t)

told_on : (count : ℕ) (e : ℕ × Entry) (l : Log Entry) (t : ℕ × Entry) → ToldBy count l t → ToldBy count (e ∷ l) t
told_on count e l t was =
    dite (ℕ_discrete e.0 was.0)
    (λ hit. (was.0, was.1, suc was.2, rw (eq-eqb e.0 was.0 hit) was.3))
    (λ miss. (was.0, was.1, was.2, rw (ne_eqb e.0 was.0 miss) was.3))

told_to : (count : ℕ) (l : Log Entry) → Each (λ e. e.0 < count) l → (k : ℕ) (entry : Entry) → slice_get (entries_of l) k ≡ Some entry → ToldBy count l (suc k, entry)
told_to count [] of k entry at = absurd (cc)
told_to count (e ∷ l) of k entry at = found (λ t. told_to count l of.1 k entry t) (get_where (entries_of l) e.1 k entry at)
  where
    found : (slice_get (entries_of l) k ≡ Some entry → ToldBy count l (suc k, entry)) → Where (entries_of l) e.1 k entry → ToldBy count (e ∷ l) (suc k, entry)
    found before (there t) = told_on count e l (suc k, entry) (before t)
    found before (last n is) =
        let number : length l ≡ k = sym (length_journal l) ∙ sym n in
        (e.0, of.0, 0, rw (eq-eqb e.0 e.0 refl) (ap (λ (t : ℕ × Entry). Some t) (λ i. (suc (number i), is i))))

each_at : (P : PartView Entry → Type 0) (ds : List (PartView Entry)) (k : ℕ) (d : PartView Entry) → slice_get ds k ≡ Some d → Each P ds → P d
each_at P [] k d e all = absurd (cc)
each_at P (x ∷ xs) zero d e all = subst P (ap (some_or x) e) all.0
each_at P (x ∷ xs) (suc k) d e all = each_at P xs k d e all.1

-- a part of that number is among them
find_part : (who : ℕ) (ds : List (PartView Entry)) → 0 < total (is_of who) ds → (i : ℕ) × (d : PartView Entry) × (slice_get ds i ≡ Some d) × (d.who ≡ who)
find_part who [] some_of = absurd (omega arith)
find_part who (d ∷ ds) some_of =
    dite (ℕ_discrete d.who who)
    (λ hit. (0, d, refl, hit))
    (λ miss. let z = is_of_other who d miss in let r = find_part who ds (omega (arith, z, some_of)) in (suc r.0, r.1, r.2, r.3))

-- where a receipt of one of the parts stands among all
place_of : (ds : List (PartView Entry)) (i k : ℕ) (d : PartView Entry) (t : ℕ × Entry) → slice_get ds i ≡ Some d → slice_get d.told k ≡ Some t → (j : ℕ) × (slice_get (told_in ds) j ≡ Some t)
place_of [] i k d t at is = absurd (cc)
place_of (x ∷ ds) zero k d t at is =
    (k, get_front x.told (told_in ds) k t (subst (λ (p : PartView Entry). slice_get p.told k ≡ Some t) (sym (ap (some_or x) at)) is))
place_of (x ∷ ds) (suc i) k d t at is = let r = place_of ds i k d t at is in let j = get_back x.told (told_in ds) r.0 in (j.0, j.1 ∙ r.1)

-- ---- as many receipts as entries
told_more : (who : ℕ) (e : ℕ × Entry) (l : Log Entry) (d : PartView Entry) → d.who ≡ who → length (told_by d.who (e ∷ l)) ≡ is_of e.0 d + length (told_by d.who l)
told_more who e l d is =
    dite (ℕ_discrete e.0 d.who)
    (λ hit. rw (eq-eqb e.0 d.who hit) (let one = is_of_same e.0 d (sym hit) in omega (arith, one)))
    (λ miss. rw (ne_eqb e.0 d.who miss) (let none = is_of_other e.0 d (λ f. miss (sym f)) in omega (arith, none)))

abbrev receipts_by : Log Entry → PartView Entry → ℕ
receipts_by l d = length (told_by d.who l)

totals_more : (e : ℕ × Entry) (l : Log Entry) (ds : List (PartView Entry)) → total (receipts_by (e ∷ l)) ds ≡ total (is_of e.0) ds + total (receipts_by l) ds
totals_more e l [] = refl
totals_more e l (d ∷ ds) = let one = told_more d.who e l d refl in let rest = totals_more e l ds in omega (arith, one, rest)

totals_none : (ds : List (PartView Entry)) → total (receipts_by []) ds ≡ 0
totals_none [] = refl
totals_none (d ∷ ds) = let rest = totals_none ds in omega (arith, rest)

totals : (count : ℕ) (l : Log Entry) (ds : List (PartView Entry)) → Each (λ e. e.0 < count) l → ((who : ℕ) → who < count → total (is_of who) ds ≡ 1) → total (receipts_by l) ds ≡ length l
totals count [] ds of all = totals_none ds
totals count (e ∷ l) ds of all =
    let more = totals_more e l ds in
    let one = all e.0 of.0 in
    let rest = totals count l ds of.1 all in
    omega (arith, more, one, rest)

length_told : (l : Log Entry) (ds : List (PartView Entry)) → Each (IsPart l) ds → length (told_in ds) ≡ total (receipts_by l) ds
length_told l [] all = refl
length_told l (d ∷ ds) all =
    let both = length-append d.told (told_in ds) in
    let own : length d.told ≡ receipts_by l d = ap (λ (ts : List (ℕ × Entry)). length ts) all.0 in
    let rest = length_told l ds all.1 in
    omega (arith, both, own, rest)

pub are_receipts : (count : ℕ) (l : Log Entry) (ds : List (PartView Entry)) → Each (λ e. e.0 < count) l → Each (IsPart l) ds → ((who : ℕ) → who < count → total (is_of who) ds ≡ 1) → AreReceiptsOf (entries_of l) (told_in ds)
are_receipts count l ds of parts all = record {
  stand = are_standing l ds parts;
  all = λ k entry at.
      let t = told_to count l of k entry at in
      let one = all t.0 t.1 in
      let d = find_part t.0 ds (omega arith) in
      let told : d.1.told ≡ told_by t.0 l = each_at (IsPart l) ds d.0 d.1 d.2 parts ∙ ap (λ who. told_by who l) d.3 in
      place_of ds d.0 t.2 d.1 (suc k, entry) d.2 (ap (λ ts. slice_get ts t.2) told ∙ t.3);
  many = length_told l ds parts ∙ (totals count l ds of all ∙ sym (length_journal l));
}
