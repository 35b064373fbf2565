-- A saver fills one place more of its lane, or ends.
use Rattle.std.proofs.Common.{◌≡◌, ◌∙◌, inl, inr, ℕ, ◌+◌, ◌-◌, ◌<◌, ◌≤◌, Result, Ok, Err, List, [], ◌∷◌, ◌++◌, length, slice_index, sym, ap, subst, append_assoc, add-one, arith}
use Rattle.std.{specs.Prelude.{OnOk, IsErr}, proofs.lemmas.{Bool.cases_eq, List.{get_or_push, get_or_append_left, length_push}}}
use Rattle.board_model.specs.Shapes.{Size, places_of}
use Rattle.disk.specs.{Facts.{Content, Torn, Counts, counted}, declared.device.LaneCall.LaneCall}
use Rattle.layout.specs.Sizes.{place_start}
use Rattle.savers.specs.{Calls.{place_calls, filling_calls, StopsAt, WritesPlaces}, Draws.{ticket_view, share_of, draws_each}}
use Rattle.savers.specs.{Pages.{AreFilled, Fills}, Saved.PageStands, declared.view.TicketView.TicketView}

-- a draw makes one number more
pub one_more : (drawn after : List ℕ) (number n : ℕ) → after ≡ drawn ++ number ∷ [] → length drawn ≡ n → length after ≡ n + 1
one_more drawn after number n is many = ap (λ (l : List ℕ). length l) is ∙ length_push drawn number ∙ ap (λ (k : ℕ). k + 1) many

-- and it is one fewer that may be made
module _ (v w : TicketView) (number n places : ℕ) (is : w ≡ ticket_view (v.left - 1) (v.drawn ++ number ∷ [])) (left : v.left + n ≡ draws_each) (more : n < places) (few : places ≤ draws_each) where
  pub one_fewer : w.left + (n + 1) ≡ draws_each
  one_fewer = omega (arith, ap (λ (u : TicketView). u.left) is, left, more, few)

  pub share_kept : length v.drawn ≡ n → share_of w ≡ draws_each
  share_kept many = omega (arith, one_fewer, one_more v.drawn w.drawn number n (ap (λ (u : TicketView). u.drawn) is) many)

-- the calls that fill one place more
pub calls_more : (first before after : List LaneCall) (n : ℕ) → after ≡ before ++ place_calls n → before ≡ first ++ filling_calls n → after ≡ first ++ filling_calls (n + 1)
calls_more first before after n more is =
    more ∙ ap (λ (l : List LaneCall). l ++ place_calls n) is ∙ append_assoc first (filling_calls n) (place_calls n) ∙ ap (λ (k : ℕ). first ++ filling_calls k) (sym (add-one n))

pub calls_made : {T E : Type 0} (v : T) (first now : List LaneCall) (place filled : ℕ) → filled ≡ place → now ≡ first ++ filling_calls place → WritesPlaces {T = T} {E = E} filled first now (Ok v)
calls_made v first now place filled same is = record { ok = is ∙ ap (λ (k : ℕ). first ++ filling_calls k) (sym same); err = tt }

-- a call of the lane failed
module _ {T E : Type 0} where
  pub none_done : (r : Result T E) (P : Type 0) → IsErr r → OnOk r P
  none_done (Ok v) P failed = absurd (cc)
  none_done (Err e) P failed = tt

  pub counts_failed : (r : Result T E) (a b n : ℕ) → IsErr r → b ≡ a → n ≡ counted b 1 → Counts a n r
  counts_failed (Ok v) a b n failed same is = absurd (cc)
  counts_failed (Err e) a b n failed same is = record { ok = tt; err = is ∙ ap (λ (k : ℕ). counted k 1) same }

  pub calls_failed : (r : Result T E) (first before now : List LaneCall) (place filled : ℕ) → IsErr r → filled ≡ place → before ≡ first ++ filling_calls place → StopsAt place before now
      → WritesPlaces filled first now r
  calls_failed (Ok v) first before now place filled failed same is stops = absurd (cc)
  calls_failed (Err e) first before now place filled failed same is stops = record {
    ok = tt;
    err = subst (λ (k : ℕ). StopsAt k (first ++ filling_calls k) now) (sym same) (subst (λ (l : List LaneCall). StopsAt place l now) is stops);
  }

-- a page stands on where the next place is written
stands_on : (memory : List ℕ) (n p page serial : ℕ) (before now : Content) → p < n → Torn (place_start n) 9 before now → PageStands memory before p page serial
    → PageStands memory now p page serial
stands_on memory n p page serial before now lt torn stood = record {
  head = torn.before (place_start p) (omega arith) ∙ stood.head;
  parts = λ j few. torn.before (place_start p + 1 + j) (omega arith) ∙ stood.parts j few;
}

module _ (size : Size) (memory : List ℕ) (serial : ℕ) where
  -- one number more is drawn, and the first ones stand as they did
  drawn_more : (drawn after : List ℕ) (number n : ℕ) (lane : Content) → after ≡ drawn ++ number ∷ [] → length drawn ≡ n → AreFilled size memory serial drawn n lane
      → AreFilled size memory serial after n lane
  drawn_more drawn after number n lane is many filled p lt =
      subst (λ (page : ℕ). (page < size.pages) × PageStands memory lane p page serial)
      (sym (get_or_append_left drawn (number ∷ []) 0 p (omega (arith, lt, many))) ∙ ap (λ (l : List ℕ). slice_index l p) (sym is)) (filled p lt)

  last_at : (drawn after : List ℕ) (number n : ℕ) → after ≡ drawn ++ number ∷ [] → length drawn ≡ n → number ≡ slice_index after n
  last_at drawn after number n is many = sym (get_or_push drawn number 0 n many) ∙ ap (λ (l : List ℕ). slice_index l n) (sym is)

  -- the page that was drawn last is written into the next place
  pub filled_more : (drawn after : List ℕ) (number n : ℕ) (before now : Content) → after ≡ drawn ++ number ∷ [] → length drawn ≡ n → number < size.pages
      → Torn (place_start n) 9 before now → PageStands memory now n number serial → AreFilled size memory serial drawn n before
      → AreFilled size memory serial after (n + 1) now
  filled_more drawn after number n before now is many small torn stands filled p lt = elim (cases_eq p n) [
    | inl here ↦ subst (λ (q : ℕ). (slice_index after q < size.pages) × PageStands memory now q (slice_index after q) serial) (sym here)
        (subst (λ (page : ℕ). (page < size.pages) × PageStands memory now n page serial) (last_at drawn after number n is many) (small, stands))
    | inr not ↦ (let less : p < n = omega (arith, lt, not) in
        let was = drawn_more drawn after number n before is many filled p less in
        (was.0, stands_on memory n p (slice_index after p) serial before now less torn was.1))
  ]

  -- a number past the last page was drawn
  pub ends_past : (drawn after : List ℕ) (number n places : ℕ) (lane : Content) → after ≡ drawn ++ number ∷ [] → length drawn ≡ n → places ≡ n → n < places_of size → size.pages ≤ number
      → AreFilled size memory serial drawn n lane → Fills size memory serial after places lane
  ends_past drawn after number n places lane is many same few past filled = record {
    pages = subst (λ (k : ℕ). AreFilled size memory serial after k lane) (sym same) (drawn_more drawn after number n lane is many filled);
    few = omega (arith, same, few);
    past = λ p le lt.
        let here : n ≡ p = omega (arith, le, lt, same, one_more drawn after number n is many) in
        subst (λ (k : ℕ). size.pages ≤ k) (last_at drawn after number n is many ∙ ap (λ (k : ℕ). slice_index after k) here) past;
    ended = inr (one_more drawn after number n is many ∙ ap (λ (k : ℕ). k + 1) (sym same));
  }

  -- the lane is full
  pub ends_full : (drawn : List ℕ) (n places : ℕ) (lane : Content) → length drawn ≡ n → places ≡ n → n ≡ places_of size → AreFilled size memory serial drawn n lane
      → Fills size memory serial drawn places lane
  ends_full drawn n places lane many same full filled = record {
    pages = subst (λ (k : ℕ). AreFilled size memory serial drawn k lane) (sym same) filled;
    few = omega (arith, same, full);
    past = λ p le lt. absurd (omega (arith, le, lt, many, same));
    ended = inl (same ∙ full, many ∙ sym same);
  }
