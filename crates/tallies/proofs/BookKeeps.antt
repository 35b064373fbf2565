-- Each step keeps the rule of the book.
use Rattle.std.proofs.Common.{◌≡◌, ◌≢◌, ℕ, zero, suc, ◌+◌, ◌<◌, ◌≤◌, true, false, true≢false, List, [], ◌∷◌, ◌++◌, length, set, drop, refl, sym, ap, ◌∙◌, subst, ⊎_elim, arith, eq-eqb, ne_eqb}
use Rattle.std.specs.Prelude.{slice_index, slice_set}
use mathlib.Core.Logic.{dite}
use mathlib.Core.Option.{some, some-ne-none, some-injective}
use native.Mathlib.Decide.{ℕ_discrete, dec_le}
use lib.ListN.{get_elem?}
use Rattle.atomic_table.{specs.Table.{State, Step, Me, keeps, Allows, Splits, Joins, opening}, proofs.Lists.{at_set, at_snoc, set_again}}
use Rattle.tallies.{specs.{Sums.total, Logs.Log}, proofs.Totals.{two_at_most_total, at_most_total, total_alone, total_split, total_join}}
use Rattle.tallies.specs.declared.book_views.{PartView.PartView, BookView.BookView}
use Rattle.tallies.specs.Books.{Each, held_by, part_view, keeper_view, part_seat, nobody, fresh_from, opening_view, first_of, told_after, other_parts, one_part, with_part, with_entry, is_of, seats, keeps_of, IsPart, IsKept, Learns}

off : false ≡ true → ⊥
off e = true≢false (sym e)

module _ {E : Type 0} where
  pub is_of_same : (h : ℕ) (d : (PartView E)) → d.who ≡ h → is_of h d ≡ 1
  is_of_same h d e = rw (eq-eqb d.who h e) refl

  pub is_of_other : (h : ℕ) (d : (PartView E)) → d.who ≢ h → is_of h d ≡ 0
  is_of_other h d e = rw (ne_eqb d.who h e) refl

-- ---- at the start
fresh_parts : (E : Type 0) → (first n : ℕ) → Each (IsPart {E = E} []) (fresh_from {E = E} first n)
fresh_parts E first zero = tt
fresh_parts E first (suc n) = (refl, fresh_parts E (suc first) n)

fresh_below : (E : Type 0) → (h first n : ℕ) → h < first → total (is_of {E = E} h) (fresh_from {E = E} first n) ≡ 0
fresh_below E h first zero lt = refl
fresh_below E h first (suc n) lt =
    let here = is_of_other h (part_view {E = E} first []) (λ e. omega arith) in let rest = fresh_below E h (suc first) n (omega arith) in omega arith

fresh_above : (E : Type 0) → (h first n : ℕ) → first + n ≤ h → total (is_of {E = E} h) (fresh_from {E = E} first n) ≡ 0
fresh_above E h first zero le = refl
fresh_above E h first (suc n) le =
    let here = is_of_other h (part_view {E = E} first []) (λ e. omega arith) in let rest = fresh_above E h (suc first) n (omega arith) in omega arith

fresh_within : (E : Type 0) → (h first n : ℕ) → first ≤ h → h < first + n → total (is_of {E = E} h) (fresh_from {E = E} first n) ≡ 1
fresh_within E h first zero le lt = absurd (omega arith)
fresh_within E h first (suc n) le lt =
    dite (ℕ_discrete first h)
    (λ hit. let here = is_of_same h (part_view {E = E} first []) hit in let rest = fresh_below E h (suc first) n (omega arith) in omega arith)
    (λ miss. let here = is_of_other h (part_view {E = E} first []) miss in let rest = fresh_within E h (suc first) n (omega arith) (omega arith) in omega arith)

fresh_length : (E : Type 0) → (first n : ℕ) → length (fresh_from {E = E} first n) ≡ n
fresh_length E first zero = refl
fresh_length E first (suc n) = ap suc (fresh_length E (suc first) n)

pub opens : (E : Type 0) → (words : List ℕ) (count : ℕ) → IsKept {E = E} (opening words [] (opening_view {E = E} count))
opens E words count = record {
  count = count;
  log = [];
  knows = knows;
  one = refl;
  entered = entered;
  once = λ h lt. let o = fresh_within E h 0 count (omega arith) (omega arith) in omega arith;
  none_else = λ h le. let o = fresh_above E h 0 count (omega arith) in omega arith;
  of = tt;
  whole = let l = fresh_length E 0 count in omega arith;
}
  where
    knows : (id : ℕ) (v : (BookView E)) → get_elem? (opening_view {E = E} count ∷ []) id ≡ some v → v.keeps ≡ true → (v.count ≡ count) × (v.log ≡ [])
    knows zero v at k = subst (λ (u : (BookView E)). (u.count ≡ count) × (u.log ≡ [])) (some-injective _ _ at) (refl, refl)
    knows (suc id) v at k = absurd (some-ne-none v (sym at))

    entered : (id : ℕ) (v : (BookView E)) → get_elem? (opening_view {E = E} count ∷ []) id ≡ some v → Each (IsPart {E = E} []) v.parts
    entered zero v at = subst (λ (u : (BookView E)). Each (IsPart {E = E} []) u.parts) (some-injective _ _ at) (fresh_parts E 0 count)
    entered (suc id) v at = absurd (some-ne-none v (sym at))

module _ {E : Type 0} where
  -- ---- a seat takes in another
  module _ (s : State (Unit {0}) (BookView E)) (kept : IsKept s) (id : ℕ) (v : (BookView E)) (at : get_elem? s.views id ≡ some v) where
    -- nobody else keeps
    alone : v.keeps ≡ true → (j : ℕ) (u : (BookView E)) → j ≢ id → get_elem? s.views j ≡ some u → u.keeps ≡ true → ⊥
    alone mine j u ne there theirs =
        let a : keeps_of v ≡ 1 = rw mine refl in
        let b : keeps_of u ≡ 1 = rw theirs refl in
        let o = kept.one in
        let m = two_at_most_total keeps_of s.views id j v u ne at there in
        omega arith

  was : (views : List (BookView E)) (id other : ℕ) (b w : (BookView E)) → (other ≡ id → ⊥) → get_elem? (set views id b) other ≡ some w → get_elem? views other ≡ some w
  was views id other b w ne there = ⊎_elim (λ (t : (other ≡ id) × (b ≡ w)). absurd (ne t.0)) (λ (t : (other ≢ id) × (get_elem? views other ≡ some w)). t.1) (at_set views id other b w there)

  -- a fact of each view, after two seats changed
  each_join : (P : (BookView E) → Type 0) (views : List (BookView E)) (id other : ℕ) (b z : (BookView E)) → P b → P z
      → ((j : ℕ) (u : (BookView E)) → j ≢ id → j ≢ other → get_elem? views j ≡ some u → P u)
      → (j : ℕ) (u : (BookView E)) → get_elem? (set (set views id b) other z) j ≡ some u → P u
  each_join P views id other b z pb pz rest j u there = ⊎_elim
      (λ (t : (j ≡ other) × (z ≡ u)). subst P t.1 pz)
      (λ (t : (j ≢ other) × (get_elem? (set views id b) j ≡ some u)). ⊎_elim
      (λ (r : (j ≡ id) × (b ≡ u)). subst P r.1 pb)
      (λ (r : (j ≢ id) × (get_elem? views j ≡ some u)). rest j u r.0 t.0 r.1)
      (at_set views id j b u t.1))
      (at_set (set views id b) other j z u there)

  each_split : (P : (BookView E) → Type 0) (views : List (BookView E)) (id : ℕ) (l r : (BookView E)) → P l → P r
      → ((j : ℕ) (u : (BookView E)) → j ≢ id → get_elem? views j ≡ some u → P u)
      → (j : ℕ) (u : (BookView E)) → get_elem? (set views id l ++ r ∷ []) j ≡ some u → P u
  each_split P views id l r pl pr rest j u there = ⊎_elim
      (λ was. ⊎_elim
      (λ (t : (j ≡ id) × (l ≡ u)). subst P t.1 pl)
      (λ (t : (j ≢ id) × (get_elem? views j ≡ some u)). rest j u t.0 t.1)
      (at_set views id j l u was))
      (λ (same : r ≡ u). subst P same pr)
      (at_snoc (set views id l) r u j there)

  -- ---- an entry more
  part_mine : (log : Log E) (entry : E) (d : (PartView E)) → IsPart log d → IsPart ((d.who, entry) ∷ log) (told_after (suc (length log)) entry d)
  part_mine log entry d is = rw (eq-eqb d.who d.who refl) (ap (λ ts. (suc (length log), entry) ∷ ts) is)

  part_other : (log : Log E) (who : ℕ) (entry : E) (d : (PartView E)) → d.who ≢ who → IsPart log d → IsPart ((who, entry) ∷ log) d
  part_other log who entry d ne is = rw (ne_eqb who d.who (λ e. ne (sym e))) is

  parts_other : (log : Log E) (who : ℕ) (entry : E) (ds : List (PartView E)) → total (is_of who) ds ≡ 0 → Each (IsPart log) ds → Each (IsPart ((who, entry) ∷ log)) ds
  parts_other log who entry [] z all = tt
  parts_other log who entry (d ∷ ds) z all =
      (part_other log who entry d (λ e. let o = is_of_same who d e in omega arith) all.0, parts_other log who entry ds (omega arith) all.1)

  pub notes : (id other count : ℕ) (entry : E) (log : Log E) (ds : List (PartView E)) (d : (PartView E))
      → Joins IsKept id (keeper_view count log ds) other (part_seat d) (with_entry entry (keeper_view count log ds) (part_seat d)) nobody
  notes id other count entry log ds d s kept at ne there =
      let v = keeper_view count log ds in
      let w = part_seat d in
      let b = with_entry entry v w in
      let at' = was s.views id other b w ne there in
      let known = kept.knows id v at refl in
      let mine : IsPart log d = subst (λ (l : Log E). IsPart l d) (sym known.1) (kept.entered other w at').0 in
      let self = is_of_same d.who d refl in
      let under : d.who < count = elim (dec_le (suc d.who) count) [
        | yes l ↦ l
        | no n ↦ (let c = known.0 in let z = kept.none_else d.who (omega arith) in let m = at_most_total (seats d.who) s.views other w at' in absurd (omega arith))
      ] in
      let once = kept.once d.who (let c = known.0 in omega arith) in
      let sums : (h : ℕ) → total (seats h) (set (set s.views id b) other nobody) ≡ total (seats h) s.views =
      λ h. total_join (seats h) s.views id other v w b nobody at there (omega arith) refl in
      let own : Each (IsPart ((d.who, entry) ∷ log)) ds =
      let m = two_at_most_total (seats d.who) s.views other id w v (λ e. ne (sym e)) at' at in
      parts_other log d.who entry ds (omega arith) (subst (λ (l : Log E). Each (IsPart l) ds) (sym known.1) (kept.entered id v at)) in
      record {
        count = count;
        log = (d.who, entry) ∷ log;
        knows = each_join (λ u. u.keeps ≡ true → (u.count ≡ count) × (u.log ≡ (d.who, entry) ∷ log)) s.views id other b nobody (λ k. (refl, refl)) (λ k. absurd (off k))
            (λ j u apart far here k. absurd (alone s kept id v at refl j u apart here k));
        one = total_join keeps_of s.views id other v w b nobody at there refl refl ∙ kept.one;
        entered = each_join (λ u. Each (IsPart ((d.who, entry) ∷ log)) u.parts) s.views id other b nobody (part_mine log entry d mine, own) tt
            (λ j u apart far here.
            let m = two_at_most_total (seats d.who) s.views other j w u far at' here in
            parts_other log d.who entry u.parts (omega arith) (subst (λ (l : Log E). Each (IsPart l) u.parts) (sym known.1) (kept.entered j u here)));
        once = λ h lt. sums h ∙ kept.once h (let c = known.0 in omega arith);
        none_else = λ h le. sums h ∙ kept.none_else h (let c = known.0 in omega arith);
        of = (under, subst (λ (x : ℕ × Log E). Each (λ e. e.0 < x.0) x.1) (λ i. (sym known.0 i, sym known.1 i)) kept.of);
        whole = total_join held_by s.views id other v w b nobody at there (omega arith) refl ∙ kept.whole ∙ sym known.0;
      }

  -- ---- a part goes and comes
  parted : (h : ℕ) (v : (BookView E)) → 0 < length v.parts → seats h (other_parts v) + seats h (one_part v) ≡ seats h v
  parted h v some_of = of v.parts some_of
    where
      of : (ds : List (PartView E)) → 0 < length ds → total (is_of h) (drop 1 ds) + total (is_of h) (first_of ds ∷ []) ≡ total (is_of h) ds
      of [] lt = absurd (omega arith)
      of (d ∷ ds) lt = omega arith

  parted_length : (ds : List (PartView E)) → 0 < length ds → length (drop 1 ds) + 1 ≡ length ds
  parted_length [] lt = absurd (omega arith)
  parted_length (d ∷ ds) lt = omega arith

  each_first : (P : (PartView E) → Type 0) (ds : List (PartView E)) → 0 < length ds → Each P ds → P (first_of ds)
  each_first P [] lt all = absurd (omega arith)
  each_first P (d ∷ ds) lt all = all.0

  each_drop : (P : (PartView E) → Type 0) (ds : List (PartView E)) → Each P ds → Each P (drop 1 ds)
  each_drop P [] all = tt
  each_drop P (d ∷ ds) all = all.1

  pub parts_off : (id : ℕ) (v : (BookView E)) → 0 < length v.parts → Splits IsKept id v (other_parts v) (one_part v)
  parts_off id v some_of s kept at =
      let mine = kept.entered id v at in
      let sums : (h : ℕ) → total (seats h) (set s.views id (other_parts v) ++ one_part v ∷ []) ≡ total (seats h) s.views =
      λ h. total_split (seats h) s.views id v (other_parts v) (one_part v) at (parted h v some_of) in
      record {
        count = kept.count;
        log = kept.log;
        knows = each_split (λ u. u.keeps ≡ true → (u.count ≡ kept.count) × (u.log ≡ kept.log)) s.views id (other_parts v) (one_part v) (kept.knows id v at) (λ k. absurd (off k)) (λ j u _ here. kept.knows j u here);
        one = total_split keeps_of s.views id v (other_parts v) (one_part v) at (omega arith) ∙ kept.one;
        entered = each_split (λ u. Each (IsPart kept.log) u.parts) s.views id (other_parts v) (one_part v) (each_drop (IsPart kept.log) v.parts mine) (each_first (IsPart kept.log) v.parts some_of mine, tt) (λ j u _ here. kept.entered j u here);
        once = λ h lt. sums h ∙ kept.once h lt;
        none_else = λ h le. sums h ∙ kept.none_else h le;
        of = kept.of;
        whole = total_split held_by s.views id v (other_parts v) (one_part v) at (parted_length v.parts some_of) ∙ kept.whole;
      }

  pub takes_in : (id other : ℕ) (v : (BookView E)) (d : (PartView E)) → Joins IsKept id v other (part_seat d) (with_part v (part_seat d)) nobody
  takes_in id other v d s kept at ne there =
      let w = part_seat d in
      let b = with_part v w in
      let at' = was s.views id other b w ne there in
      let sums : (h : ℕ) → total (seats h) (set (set s.views id b) other nobody) ≡ total (seats h) s.views =
      λ h. total_join (seats h) s.views id other v w b nobody at there (omega arith) refl in
      record {
        count = kept.count;
        log = kept.log;
        knows = each_join (λ u. u.keeps ≡ true → (u.count ≡ kept.count) × (u.log ≡ kept.log)) s.views id other b nobody (kept.knows id v at) (λ k. absurd (off k)) (λ j u _ _ here. kept.knows j u here);
        one = total_join keeps_of s.views id other v w b nobody at there (omega arith) refl ∙ kept.one;
        entered = each_join (λ u. Each (IsPart kept.log) u.parts) s.views id other b nobody ((kept.entered other w at').0, kept.entered id v at) tt (λ j u _ _ here. kept.entered j u here);
        once = λ h lt. sums h ∙ kept.once h lt;
        none_else = λ h le. sums h ∙ kept.none_else h le;
        of = kept.of;
        whole = total_join held_by s.views id other v w b nobody at there (omega arith) refl ∙ kept.whole;
      }

  -- ---- a look
  nobody_there : (who : ℕ) (ds : List (PartView E)) → length ds ≡ 0 → total (is_of who) ds ≡ 0
  nobody_there who [] none = refl
  nobody_there who (d ∷ ds) none = absurd (omega arith)

  -- a keeper that has as many parts as there are has each of them
  all_here : (s : State (Unit {0}) (BookView E)) (kept : IsKept s) (id : ℕ) (v : (BookView E)) (at : get_elem? s.views id ≡ some v) → length v.parts ≡ kept.count → (who : ℕ) → who < kept.count → total (is_of who) v.parts ≡ 1
  all_here s kept id v at all who lt =
      sym (total_alone (seats who) s.views id v at (λ j u apart here.
      let m = two_at_most_total held_by s.views id j v u apart at here in
      let w = kept.whole in
      nobody_there who u.parts (omega arith))) ∙ kept.once who lt

  pub looks : (slots id : ℕ) (m : Me (Unit {0}) (BookView E)) (st : Step (Unit {0})) → Allows IsKept slots id m 0 (λ n. n) (Learns st m)
  looks slots id m st s kept homes at small = (
    m.0,
    keeps,
    tt,
    subst (λ (vs : List (BookView E)). IsKept record { words = slice_set s.words 0 (slice_index s.words 0); homes = s.homes; views = vs }) (sym (set_again s.views id m.0 at))
        record { count = kept.count; log = kept.log; knows = kept.knows; one = kept.one; entered = kept.entered; once = kept.once; none_else = kept.none_else; of = kept.of; whole = kept.whole },
    (
      refl,
      λ k. let known = kept.knows id m.0 at k in (
        subst (λ (l : Log E). Each (IsPart l) m.0.parts) (sym known.1) (kept.entered id m.0 at),
        subst (λ (x : ℕ × Log E). Each (λ e. e.0 < x.0) x.1) (λ i. (sym known.0 i, sym known.1 i)) kept.of,
        λ all who lt. all_here s kept id m.0 at (all ∙ known.0) who (subst (λ (n : ℕ). who < n) known.0 lt),
      ),
    ),
  )
