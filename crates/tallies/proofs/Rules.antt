-- What a rule says of seats and steps is kept by each step, and where a seat is parted and two are joined.
use Rattle.std.proofs.Common.{◌≡◌, ◌≢◌, ◌⊎◌, ⊎_elim, inl, inr, ℕ, zero, suc, ◌+◌, ◌<◌, ◌≤◌, List, [], ◌∷◌, ◌++◌, length, set, refl, sym, ap, ◌∙◌, subst, arith, length-set}
use Rattle.std.specs.Prelude.{slice_index, slice_set}
use mathlib.Core.Option.{some, some-injective, some-ne-none}
use native.Mathlib.Decide.{dec_le}
use lib.ListN.{get_elem?}
use Rattle.atomic_table.{specs.Table.{State, keeps, stepped, opening}, proofs.Lists.{at_set, at_snoc}}
use Rattle.tallies.specs.{Sums.total, Logs.{Log, Reading, IsOfLog, word_after}, Books.Each, Rules.{AreSeated, Everywhere, HasLog, IsLogged}}
use Rattle.tallies.specs.Notes.{hart_notes, seat_notes, is_of, seats, noted, opening_from, first_hart, other_harts, together, nobody}
use Rattle.tallies.{specs.declared.view.{HartNotes.HartNotes, SeatNotes.SeatNotes}, proofs.Logs.{log_mine, log_other, left_then}}
use Rattle.tallies.proofs.Totals.{total-append, total-set, at_most_total, two_at_most_total, total_split, total_join}
use Rattle.tallies.proofs.Noted.{is_of_same, none_left, seats_noted, Spot, spot, parted, in_first, in_rest, in_append, opens_seated, opens_none, opens_each}

-- ---- what holds of each hart of each seat
module _ {S D : Type 0} where
  module _ (P : HartNotes S D → Type 0) (views : List (SeatNotes S D)) (id : ℕ) (c : SeatNotes S D) (at : get_elem? views id ≡ some c) where
    pub each_split : Everywhere P views → Everywhere P (slice_set views id (first_hart c) ++ other_harts c ∷ [])
    each_split all j u i v there here = ⊎_elim
        (λ was. ⊎_elim
        (λ (t : (j ≡ id) × (first_hart c ≡ u)). all id c i v at (in_first c.harts i v (subst (λ (w : SeatNotes S D). get_elem? w.harts i ≡ some v) (sym t.1) here)))
        (λ (t : (j ≢ id) × (get_elem? views j ≡ some u)). all j u i v t.1 here)
        (at_set views id j (first_hart c) u was))
        (λ (same : other_harts c ≡ u). all id c (suc i) v at (in_rest c.harts i v (subst (λ (w : SeatNotes S D). get_elem? w.harts i ≡ some v) (sym same) here)))
        (at_snoc (set views id (first_hart c)) (other_harts c) u j there)

    pub each_join : (other : ℕ) (d : SeatNotes S D) → ¬ (other ≡ id) → get_elem? (slice_set views id (together c d)) other ≡ some d
        → Everywhere P views → Everywhere P (slice_set (slice_set views id (together c d)) other nobody)
    each_join other d ne there all j u i v got here =
        let theirs : get_elem? views other ≡ some d =
        ⊎_elim (λ (t : (other ≡ id) × (together c d ≡ d)). absurd (ne t.0)) (λ (t : (other ≢ id) × (get_elem? views other ≡ some d)). t.1) (at_set views id other (together c d) d there) in
        ⊎_elim
        (λ (t : (j ≡ other) × (nobody ≡ u)). absurd (some-ne-none v (sym (subst (λ (w : SeatNotes S D). get_elem? w.harts i ≡ some v) (sym t.1) here))))
        (λ (t : (j ≢ other) × (get_elem? (set views id (together c d)) j ≡ some u)). ⊎_elim
        (λ (t : (j ≡ id) × (together c d ≡ u)). ⊎_elim
        (λ (mine : get_elem? c.harts i ≡ some v). all id c i v at mine)
        (λ (its : (k : ℕ) × (get_elem? d.harts k ≡ some v)). all other d its.0 v theirs its.1)
        (in_append c.harts d.harts i v (subst (λ (w : SeatNotes S D). get_elem? w.harts i ≡ some v) (sym t.1) here)))
        (λ (t : (j ≢ id) × (get_elem? views j ≡ some u)). all j u i v t.1 here)
        (at_set views id j (together c d) u t.1))
        (at_set (set views id (together c d)) other j nobody u got)

  pub each_open : (stage : ℕ → S) (P : HartNotes S D → Type 0) (harts : ℕ) → ((h : ℕ) → h < harts → P (hart_notes h (stage h) [] [])) → Everywhere P (seat_notes (opening_from stage 0 harts) ∷ [])
  each_open stage P harts all zero u i v there here =
      opens_each D stage P harts all i v (subst (λ (w : SeatNotes S D). get_elem? w.harts i ≡ some v) (sym (some-injective (seat_notes (opening_from stage 0 harts)) u there)) here)
  each_open stage P harts all (suc j) u i v there here = absurd (some-ne-none u (sym there))

-- ---- the seats of the harts
module _ {S D : Type 0} (harts : ℕ) (views : List (SeatNotes S D)) (seated : AreSeated harts views) (id : ℕ) (c : SeatNotes S D) (at : get_elem? views id ≡ some c) where
  -- a hart of a seat is one of the board
  pub under : (h : ℕ) → 0 < seats h c → h < harts
  under h has = elim (dec_le (suc h) harts) [ yes l ↦ l | no n ↦ (let z = seated.none_else h (omega arith) in let m = at_most_total (seats h) views id c at in absurd (omega arith)) ]

  -- and in no other seat
  pub alone : (h : ℕ) → 0 < seats h c → (j : ℕ) (u : SeatNotes S D) → j ≢ id → get_elem? views j ≡ some u → seats h u ≡ 0
  alone h has j u ne other = let o = seated.once h (under h has) in let m = two_at_most_total (seats h) views id j c u ne at other in omega arith

  -- where a seat has every hart, the others have none
  pub others_empty : ((h : ℕ) → h < harts → 0 < seats h c) → (j : ℕ) (u : SeatNotes S D) → j ≢ id → get_elem? views j ≡ some u → u.harts ≡ []
  others_empty whole j u ne there = none_left u.harts (λ k. elim (dec_le (suc k) harts) [
    | yes l ↦ alone k (whole k l) j u ne there
    | no n ↦ (let z = seated.none_else k (omega arith) in let m = at_most_total (seats k) views j u there in omega arith)
  ])

-- a hart that stands in a seat is one of the board
pub under_at : {S D : Type 0} (harts : ℕ) (views : List (SeatNotes S D)) → AreSeated harts views → (j : ℕ) (u : SeatNotes S D) (i : ℕ) (v : HartNotes S D) → get_elem? views j ≡ some u → get_elem? u.harts i ≡ some v → v.hart < harts
under_at harts views seated j u i v there here =
    let a = at_most_total (is_of v.hart) u.harts i v here in
    let o = is_of_same v.hart v refl in
    under harts views seated j u there v.hart (omega arith)

-- ---- a step of one hart of the seat id
module _ {S D : Type 0} (harts : ℕ) (views : List (SeatNotes S D)) (seated : AreSeated harts views) (id : ℕ) (c : SeatNotes S D) (at : get_elem? views id ≡ some c) (h : ℕ) (p : Spot h c.harts) where
  pub has : 0 < seats h c
  has = let a = at_most_total (is_of h) c.harts p.k p.v p.there in let o = is_of_same h p.v p.own in omega arith

  -- the acting hart and another
  pub both : (f : HartNotes S D → ℕ) (j : ℕ) (u : SeatNotes S D) (i : ℕ) (v : HartNotes S D) → get_elem? views j ≡ some u → get_elem? u.harts i ≡ some v → (j ≢ id) ⊎ ((j ≡ id) × (i ≢ p.k))
      → f p.v + f v ≤ total (λ (w : SeatNotes S D). total f w.harts) views
  both f j u i v there here apart =
      let F : SeatNotes S D → ℕ = λ w. total f w.harts in
      let a = at_most_total f c.harts p.k p.v p.there in
      let b = at_most_total f u.harts i v here in
      ⊎_elim
      (λ (ne : j ≢ id). let t = two_at_most_total F views id j c u ne at there in omega arith)
      (λ (same : (j ≡ id) × (i ≢ p.k)).
      let e : c ≡ u = some-injective c u (sym at ∙ (ap (get_elem? views) (sym same.0) ∙ there)) in
      let t = two_at_most_total f c.harts p.k i p.v v same.1 p.there (subst (λ (w : SeatNotes S D). get_elem? w.harts i ≡ some v) (sym e) here) in
      let z = at_most_total F views id c at in
      omega arith)
      apart

  -- which has another number
  pub another : (j : ℕ) (u : SeatNotes S D) (i : ℕ) (v : HartNotes S D) → get_elem? views j ≡ some u → get_elem? u.harts i ≡ some v → (j ≢ id) ⊎ ((j ≡ id) × (i ≢ p.k)) → v.hart ≢ h
  another j u i v there here apart e =
      let one = seated.once h (under harts views seated id c at h has) in
      let b = both (is_of h) j u i v there here apart in
      let o = is_of_same h p.v p.own in
      let w = is_of_same h v e in
      omega arith

  module _ (st : S) (n : ℕ) (x : D) where
    new : HartNotes S D
    new = hart_notes h st (x ∷ p.v.actions) (n ∷ p.v.places)

    after : SeatNotes S D
    after = seat_notes (noted h st n x c.harts)

    -- the harts of the seats after the step
    pub each_after : (P Q : HartNotes S D → Type 0) → Q (hart_notes h st (x ∷ p.v.actions) (n ∷ p.v.places))
        → ((j : ℕ) (u : SeatNotes S D) (i : ℕ) (v : HartNotes S D) → get_elem? views j ≡ some u → get_elem? u.harts i ≡ some v → (j ≢ id) ⊎ ((j ≡ id) × (i ≢ p.k)) → v.hart ≢ h → P v → Q v)
        → ((j : ℕ) (u : SeatNotes S D) (i : ℕ) (v : HartNotes S D) → get_elem? views j ≡ some u → get_elem? u.harts i ≡ some v → P v)
        → (j : ℕ) (u : SeatNotes S D) (i : ℕ) (v : HartNotes S D) → get_elem? (set views id (seat_notes (noted h st n x c.harts))) j ≡ some u → get_elem? u.harts i ≡ some v → Q v
    each_after P Q mine others all j u i v there here = ⊎_elim
        (λ (t : (j ≡ id) × (seat_notes (noted h st n x c.harts) ≡ u)). ⊎_elim
        (λ (r : (i ≡ p.k) × (hart_notes h st (x ∷ p.v.actions) (n ∷ p.v.places) ≡ v)). subst Q r.1 mine)
        (λ (r : (i ≢ p.k) × (get_elem? c.harts i ≡ some v)). other id c i v at r.1 (inr (refl, r.0)))
        (at_set c.harts p.k i (hart_notes h st (x ∷ p.v.actions) (n ∷ p.v.places)) v
        (subst (λ (vs : List (HartNotes S D)). get_elem? vs i ≡ some v) (p.then_noted st n x) (subst (λ (w : SeatNotes S D). get_elem? w.harts i ≡ some v) (sym t.1) here))))
        (λ (t : (j ≢ id) × (get_elem? views j ≡ some u)). other j u i v t.1 here (inl t.0))
        (at_set views id j (seat_notes (noted h st n x c.harts)) u there)
      where
        other : (j : ℕ) (u : SeatNotes S D) (i : ℕ) (v : HartNotes S D) → get_elem? views j ≡ some u → get_elem? u.harts i ≡ some v → (j ≢ id) ⊎ ((j ≡ id) × (i ≢ p.k)) → Q v
        other j u i v there here apart = others j u i v there here apart (another j u i v there here apart) (all j u i v there here)

    pub seated_next : AreSeated harts (set views id (seat_notes (noted h st n x c.harts)))
    seated_next = record {
      once = λ k lt. seats_then k ∙ seated.once k lt;
      none_else = λ k ge. seats_then k ∙ seated.none_else k ge;
    }
      where
        seats_then : (k : ℕ) → total (seats k) (set views id (seat_notes (noted h st n x c.harts))) ≡ total (seats k) views
        seats_then k =
            let a = total-set (seats k) views id c (seat_notes (noted h st n x c.harts)) at in
            let b = seats_noted k h st n x c.harts in
            omega arith

module _ {S D : Type 0} (r : Reading D) (first : ℕ → ℕ) (harts words : ℕ) where
  -- One more step of a hart, on one word, with what it found there.
  pub logged_next : (s : State (Unit {0}) (SeatNotes S D)) (kept : IsLogged r first harts words s) (id : ℕ) (c : SeatNotes S D) → get_elem? s.views id ≡ some c
      → (h : ℕ) → 0 < seats h c → (st : S) (x : D) (i new : ℕ) (held : List (ℕ × Unit {0}))
      → i < words → r.word_of h x ≡ i → r.found_by x (slice_index s.words i) ≡ slice_index s.words i → r.left_by h x (slice_index s.words i) ≡ new
      → IsLogged r first harts words (stepped s i new id held (seat_notes (noted h st (length kept.log) x c.harts)) keeps)
  logged_next s kept id c at h some_of st x i new held lt word found left =
      let p = spot h c.harts some_of in
      let n = length kept.log in
      let before : slice_index s.words i ≡ word_after r first i kept.log = kept.left i lt in
      let truth : r.found_by x (word_after r first (r.word_of h x) kept.log) ≡ word_after r first (r.word_of h x) kept.log =
      subst (λ (k : ℕ). r.found_by x (word_after r first k kept.log) ≡ word_after r first k kept.log) (sym word) (subst (λ (w : ℕ). r.found_by x w ≡ w) before found) in
      let IsIn : Log D → HartNotes S D → Type 0 = λ l v. IsOfLog l v.hart v.actions v.places in
      record {
        seated = seated_next harts s.views kept.seated id c at h p st n x;
        log = (h, x) ∷ kept.log;
        is_true = (under harts s.views kept.seated id c at h some_of, truth, kept.is_true);
        entered = λ j u k v there here. each_after harts s.views kept.seated id c at h p st n x (IsIn kept.log) (IsIn ((h, x) ∷ kept.log))
            (log_mine kept.log h h x p.v.actions p.v.places refl (subst (λ (k : ℕ). IsOfLog kept.log k p.v.actions p.v.places) p.own (kept.entered id c p.k p.v at p.there)))
            (λ j u i v there here apart ne was. log_other kept.log h v.hart x v.actions v.places ne was)
            (λ j u i v there here. kept.entered j u i v there here) j u k v there here;
        wide = length-set s.words i new ∙ kept.wide;
        left = λ t tl. left_then r first s.words kept.log h x i new (let e = kept.wide in omega arith) word (ap (r.left_by h x) (sym before) ∙ left) t (kept.left t tl);
      }

  -- A seat is parted.
  pub logged_split : (s : State (Unit {0}) (SeatNotes S D)) → IsLogged r first harts words s → (id : ℕ) (c : SeatNotes S D) → get_elem? s.views id ≡ some c
      → IsLogged r first harts words record { words = s.words; homes = s.homes; views = slice_set s.views id (first_hart c) ++ other_harts c ∷ [] }
  logged_split s kept id c at =
      let sums : (k : ℕ) → total (seats k) (set s.views id (first_hart c) ++ other_harts c ∷ []) ≡ total (seats k) s.views =
      λ k. total_split (seats k) s.views id c (first_hart c) (other_harts c) at (parted (is_of k) c.harts) in
      record {
        seated = record { once = λ k lt. sums k ∙ kept.seated.once k lt; none_else = λ k ge. sums k ∙ kept.seated.none_else k ge };
        log = kept.log;
        is_true = kept.is_true;
        entered = each_split (λ v. IsOfLog kept.log v.hart v.actions v.places) s.views id c at kept.entered;
        wide = kept.wide;
        left = kept.left;
      }

  -- Two seats are joined.
  pub logged_join : (s : State (Unit {0}) (SeatNotes S D)) → IsLogged r first harts words s → (id : ℕ) (c : SeatNotes S D) (other : ℕ) (d : SeatNotes S D) → get_elem? s.views id ≡ some c → ¬ (other ≡ id)
      → get_elem? (slice_set s.views id (together c d)) other ≡ some d
      → IsLogged r first harts words record { words = s.words; homes = s.homes; views = slice_set (slice_set s.views id (together c d)) other nobody }
  logged_join s kept id c other d at ne there =
      let sums : (k : ℕ) → total (seats k) (set (set s.views id (together c d)) other nobody) ≡ total (seats k) s.views =
      λ k. total_join (seats k) s.views id other c d (together c d) nobody at there (total-append (is_of k) c.harts d.harts) refl in
      record {
        seated = record { once = λ k lt. sums k ∙ kept.seated.once k lt; none_else = λ k ge. sums k ∙ kept.seated.none_else k ge };
        log = kept.log;
        is_true = kept.is_true;
        entered = each_join (λ v. IsOfLog kept.log v.hart v.actions v.places) s.views id c at other d ne there kept.entered;
        wide = kept.wide;
        left = kept.left;
      }

  -- The table at the start.
  pub logged_open : (stage : ℕ → S) (ws : List ℕ) → length ws ≡ words → ((t : ℕ) → t < words → slice_index ws t ≡ first t) → IsLogged r first harts words (opening ws [] (seat_notes (opening_from stage 0 harts)))
  logged_open stage ws long firsts = record {
    seated = record {
      once = λ k lt. let o = opens_seated D stage harts k lt in omega arith;
      none_else = λ k ge. let o = opens_none D stage harts k ge in omega arith;
    };
    log = [];
    is_true = tt;
    entered = each_open stage (λ v. IsOfLog [] v.hart v.actions v.places) harts (λ h lt. (refl, refl));
    wide = long;
    left = firsts;
  }

-- ---- one log of all steps, by any seat
module _ {A : Type 0} (P : A → Type 0) where
  each_at : (xs : List A) → ((k : ℕ) (x : A) → get_elem? xs k ≡ some x → P x) → Each P xs
  each_at [] all = tt
  each_at (x ∷ xs) all = (all 0 x refl, each_at xs (λ k. all (suc k)))

pub has_log : {S D : Type 0} (r : Reading D) (first : ℕ → ℕ) (harts words : ℕ) (s : State (Unit {0}) (SeatNotes S D)) → IsLogged r first harts words s → (id : ℕ) (c : SeatNotes S D)
    → get_elem? s.views id ≡ some c → HasLog r first harts c.harts
has_log r first harts words s kept id c at = (kept.log, kept.is_true, each_at _ c.harts (λ k v. kept.entered id c k v at))
