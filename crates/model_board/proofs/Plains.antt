-- The tables as plain data are those of the model.
use Rattle.std.proofs.Common.{ℕ, zero, suc, Bool, true, false, IsTrue, List, [], ◌∷◌, map, ◌≡◌, ◌≢◌, ◌+◌, ◌*◌, ◌/◌, ◌%◌, ◌^◌, ◌<◌, ◌≤◌, length, refl, sym, ap, ◌∙◌, subst, inl, inr, if◌then◌else◌, eq-eqb, ne_eqb, arith}
use Rattle.std.specs.{Prelude.{get_or, slice_set, slice_index, replicate, not, ◌==◌}, Int.{bit_at, w8}}
use Rattle.std.proofs.lemmas.{Bool.{cases_lt, cases_eq, eqb-false}, Nat.{or_lt, pow_pos, pow_below, div_below}}
use Rattle.std.proofs.lemmas.List.{get_or-map, map-set, length-map, length-set, get_or-set_same, get_or-set_other, get_or_past, ext_get_or, set-get_or, get_or_read, length-replicate, get_or-replicate}
use Rattle.std.proofs.lemmas.Nat.Bits.{bit_at-zero, same_from_bits, bit_at_set_same, bit_at_set_other}
use Rattle.tallies.{specs.Seats.numbers_from, proofs.Seatings.at_all}
use Rattle.hsm.specs.{States.{HartState, stopped, start_pending, started, suspended, is_stopped}, Copies.state_told, Views.listed}
use Rattle.hsm.specs.declared.standings.Standing.{Standing}
use Rattle.machine.specs.Machine.{only_first, none_pending}
use Rattle.hsm.specs.declared.standings.Standing.TheVariants as told
use Rattle.ipi.specs.Views.{row_of}
use Rattle.sbi_calls.specs.{Both.TableState, Answers.{with_state, row_sent, pairs_sent}}
use Rattle.turns.specs.Turns.{has_true, has_pending, after_take}
use Rattle.model_board.specs.Plain.{row_in, table_in, raised, sent_to, AreTables}

-- ---- states
pub state_at : (states : List Standing) (h : ℕ) (d : Standing) → h < length states → state_told (get_or states h d) ≡ listed (map state_told states) h
state_at states h d low = sym (get_or-map state_told states h d stopped low)

pub states_put : (states : List Standing) (pending : List ℕ) (h : ℕ) (x : Standing) → table_in (slice_set states h x) pending ≡ with_state (table_in states pending) h (state_told x)
states_put states pending h x =
    let e : map state_told (slice_set states h x) ≡ slice_set (map state_told states) h (state_told x) = map-set state_told states h x in
    let f : length (slice_set states h x) ≡ length states = length-set states h x in
    ap (λ (n : ℕ). record { states = map state_told (slice_set states h x); pairs = map (row_in n) pending }) f ∙ ap (λ (s : List HartState). record { states = s; pairs = map (row_in (length states)) pending }) e

-- ---- what is pending
row_none : (f : ℕ → Bool) (first n : ℕ) → ((k : ℕ) → f k ≡ false) → has_true (map f (numbers_from first n)) ≡ false
row_none f first zero none = refl
row_none f first (suc n) none = ap (λ (b : Bool). if b then true else has_true (map f (numbers_from (suc first) n))) (none first) ∙ row_none f (suc first) n none

true_first : (b rest : Bool) → (if b then true else rest) ≡ false → (b ≡ false) × (rest ≡ false)
true_first true rest e = absurd (let differ : true ≡ false = e in cc)
true_first false rest e = (refl, e)

none_true : (f : ℕ → Bool) (first n k : ℕ) → has_true (map f (numbers_from first n)) ≡ false → first ≤ k → k < first + n → f k ≡ false
none_true f first zero k e from to = absurd (omega arith)
none_true f first (suc n) k e from to =
    let both = true_first (f first) (has_true (map f (numbers_from (suc first) n))) e in
    elim (cases_eq k first) [
      | inl at ↦ ap f at ∙ both.0
      | inr other ↦ none_true f (suc first) n k both.1 (omega arith) (omega arith)
    ]

high_bit : (v n k : ℕ) → v < 2 ^ n → n ≤ k → bit_at v k ≡ 0
high_bit v n k small high =
    let grows : 2 ^ n ≤ 2 ^ k = elim (cases_eq n k) [ inl e ↦ (let f : 2 ^ n ≡ 2 ^ k = ap (λ (i : ℕ). 2 ^ i) e in omega (arith, f)) | inr other ↦ (let f = pow_below n k (omega (arith, high, other)) in omega (arith, f)) ] in
    let none : v / 2 ^ k < 1 = div_below v (2 ^ k) 1 (pow_pos k) (omega (arith, small, grows)) in
    omega (arith, none)

bit_none : (v k : ℕ) → (bit_at v k == 1) ≡ false → bit_at v k ≡ 0
bit_none v k e =
    let differ = eqb-false (bit_at v k) 1 e in
    omega (arith, differ)

is_some : (b : Bool) (v n : ℕ) → has_true (row_in n v) ≡ b → v < 2 ^ n → v ≢ 0 → b ≡ true
is_some true v n e small some = refl
is_some false v n e small some =
    absurd (some (same_from_bits v 0 (λ k. elim (cases_lt k n) [
      | inl low ↦ bit_none v k (none_true (λ (s : ℕ). bit_at v s == 1) 0 n k e (omega arith) (omega arith)) ∙ sym (bit_at-zero k)
      | inr high ↦ high_bit v n k small high ∙ sym (bit_at-zero k)
    ])))

zero_bit : (k : ℕ) → (bit_at 0 k == 1) ≡ false
zero_bit k = ap (λ (b : ℕ). b == 1) (bit_at-zero k)

pub row_waits : (v n : ℕ) → v < 2 ^ n → has_true (row_in n v) ≡ not (v == 0)
row_waits v n small =
    elim (cases_eq v 0) [
      | inl e ↦ ap (λ (w : ℕ). has_true (row_in n w)) e ∙ (row_none (λ (s : ℕ). bit_at 0 s == 1) 0 n zero_bit ∙ sym (ap (λ (w : ℕ). not (w == 0)) e))
      | inr some ↦ is_some (has_true (row_in n v)) v n refl small some ∙ sym (ap not (ne_eqb v 0 some))
    ]

pub row_at : (states : List Standing) (pending : List ℕ) (h : ℕ) → h < length pending → row_of (table_in states pending).pairs h ≡ row_in (length states) (slice_index pending h)
row_at states pending h low = get_or-map (row_in (length states)) pending h 0 [] low

pub waits : (states : List Standing) (pending : List ℕ) (h : ℕ) → AreTables states pending → h < length states → not (slice_index pending h == 0) ≡ has_pending h (table_in states pending).pairs
waits states pending h a low =
    let here : h < length pending = subst (λ (n : ℕ). h < n) (sym a.long) low in
    sym (ap has_true (row_at states pending h here) ∙ row_waits (slice_index pending h) (length states) (a.within h))

-- ---- it is taken
false_rows : (f g : ℕ → Bool) (xs : List ℕ) → ((k : ℕ) → g k ≡ false) → map (λ _. false) (map f xs) ≡ map g xs
false_rows f g [] none = refl
false_rows f g (x ∷ xs) none = ap (λ (b : Bool). b ∷ map (λ _. false) (map f xs)) (sym (none x)) ∙ ap (λ (bs : List Bool). g x ∷ bs) (false_rows f g xs none)

pub pending_taken : (states : List Standing) (pending : List ℕ) (h : ℕ) → h < length pending → table_in states (slice_set pending h 0) ≡ after_take (table_in states pending) h
pending_taken states pending h low =
    let n : ℕ = length states in
    let e : row_in n 0 ≡ map (λ _. false) (row_of (table_in states pending).pairs h) =
    sym (ap (λ (row : List Bool). map (λ _. false) row) (row_at states pending h low) ∙ false_rows (λ (s : ℕ). bit_at (slice_index pending h) s == 1) (λ (s : ℕ). bit_at 0 s == 1) (numbers_from 0 n) zero_bit) in
    ap (λ (pairs : List (List Bool)). record { states = map state_told states; pairs = pairs }) (map-set (row_in n) pending h 0 ∙ ap (λ (row : List Bool). slice_set (map (row_in n) pending) h row) e)

one_some : (n : ℕ) → 0 < 2 ^ n
one_some n = pow_pos n

-- ---- it is sent
row_raised : (n by v : ℕ) → by < n → n ≤ 8 → row_in n (raised by v) ≡ slice_set (row_in n v) by true
row_raised n by v low few =
    ext_get_or false (row_in n (raised by v)) (slice_set (row_in n v) by true) (row_long n (raised by v) ∙ sym (length-set (row_in n v) by true ∙ row_long n v))
    (λ k inside.
    let within : k < n = subst (λ (m : ℕ). k < m) (row_long n (raised by v)) inside in
    let here = bit_in n (raised by v) k within in
    elim (cases_eq k by) [
      | inl e ↦ (
          let bit : bit_at (raised by v) k ≡ 1 = subst (λ (i : ℕ). bit_at (raised by v) i ≡ 1) (sym e) (bit_at_set_same w8 v by (omega (arith, low, few))) in
          let set : get_or (slice_set (row_in n v) by true) k false ≡ true = subst (λ (i : ℕ). get_or (slice_set (row_in n v) by true) i false ≡ true) (sym e) (get_or-set_same (row_in n v) by true false (subst (λ (m : ℕ). by < m) (sym (row_long n v)) low)) in
          here ∙ (eq-eqb (bit_at (raised by v) k) 1 bit ∙ sym set))
      | inr other ↦ here ∙ (ap (λ (b : ℕ). b == 1) (bit_at_set_other w8 v by (omega (arith, low, few)) k other) ∙ (sym (bit_in n v k within) ∙ sym (get_or-set_other (row_in n v) by k true false other)))
    ])
  where
    numbers_long : (first n : ℕ) → length (numbers_from first n) ≡ n
    numbers_long first zero = refl
    numbers_long first (suc n) = ap (λ (k : ℕ). suc k) (numbers_long (suc first) n)

    row_long : (n v : ℕ) → length (row_in n v) ≡ n
    row_long n v = length-map (numbers_from 0 n) (λ (s : ℕ). bit_at v s == 1) ∙ numbers_long 0 n

    bit_in : (n v k : ℕ) → k < n → get_or (row_in n v) k false ≡ (bit_at v k == 1)
    bit_in n v k low = at_all (λ (s : ℕ). bit_at v s == 1) false n k low

if_sent : (b : Bool) (n by v : ℕ) → by < n → n ≤ 8 → row_in n (if b then raised by v else v) ≡ (if b then slice_set (row_in n v) by true else row_in n v)
if_sent true n by v low few = row_raised n by v low few
if_sent false n by v low few = refl

numbers_count : (first n : ℕ) → length (numbers_from first n) ≡ n
numbers_count first zero = refl
numbers_count first (suc n) = ap (λ (k : ℕ). suc k) (numbers_count (suc first) n)

-- all that the set names
pub pending_sent : (states : List Standing) (pending after : List ℕ) (by targets : ℕ) → AreTables states pending → by < length states → length after ≡ length pending → ((k : ℕ) → k < length pending → slice_index after k ≡ sent_to by targets k (slice_index pending k)) → (table_in states after).pairs ≡ pairs_sent by targets (table_in states pending).pairs
pending_sent states pending after by targets a low long each =
    let n : ℕ = length states in
    let pairs : List (List Bool) = (table_in states pending).pairs in
    let count : length pairs ≡ length pending = length-map pending (row_in n) in
    let more : length (pairs_sent by targets pairs) ≡ length pairs = length-map (numbers_from 0 (length pairs)) (row_sent by targets pairs) ∙ numbers_count 0 (length pairs) in
    let made : length (map (row_in n) after) ≡ length after = length-map after (row_in n) in
    ext_get_or [] (map (row_in n) after) (pairs_sent by targets pairs) (made ∙ (long ∙ (sym count ∙ sym more)))
    (λ k inside.
    let here : k < length after = subst (λ (m : ℕ). k < m) made inside in
    let there : k < length pending = subst (λ (m : ℕ). k < m) long here in
    let sent : get_or (pairs_sent by targets pairs) k [] ≡ row_sent by targets pairs k = at_all (row_sent by targets pairs) [] (length pairs) k (subst (λ (m : ℕ). k < m) (sym count) there) in
    let row : row_of pairs k ≡ row_in n (slice_index pending k) = row_at states pending k there in
    get_or-map (row_in n) after k 0 [] here
    ∙ (ap (row_in n) (each k there)
    ∙ (if_sent (bit_at targets k == 1) n by (slice_index pending k) low a.few
    ∙ (ap (λ (r : List Bool). if bit_at targets k == 1 then slice_set r by true else r) (sym row) ∙ sym sent))))

if_within : (b : Bool) (n by v : ℕ) → by < n → n ≤ 8 → v < 2 ^ n → (if b then raised by v else v) < 2 ^ n
if_within true n by v low few small =
    let bit : 2 ^ by < 2 ^ n = pow_below by n low in
    let most : 2 ^ by < 2 ^ 8 = pow_below by 8 (omega (arith, low, few)) in
    let is : 1 * 2 ^ by % 2 ^ 8 ≡ 2 ^ by = omega (arith, most) in
    or_lt n v (1 * 2 ^ by % 2 ^ 8) small (subst (λ (x : ℕ). x < 2 ^ n) (sym is) bit)
if_within false n by v low few small = small

pub tables_sent : (states : List Standing) (pending after : List ℕ) (by targets : ℕ) → AreTables states pending → by < length states → length after ≡ length pending → ((k : ℕ) → k < length pending → slice_index after k ≡ sent_to by targets k (slice_index pending k)) → AreTables states after
tables_sent states pending after by targets a low long each = record {
  few = a.few;
  long = long ∙ a.long;
  within = λ k. elim (cases_lt k (length pending)) [
    | inl inside ↦ subst (λ (v : ℕ). v < 2 ^ length states) (sym (each k inside)) (if_within (bit_at targets k == 1) (length states) by (slice_index pending k) low a.few (a.within k))
    | inr beyond ↦ subst (λ (v : ℕ). v < 2 ^ length states) (sym (get_or_past after k 0 (omega (arith, long, beyond)))) (one_some (length states))
  ];
}

-- ---- as the code has them
abbrev pub Known : List Standing → ℕ → Type 0
Known states h = h < length states

pub known_in : (states : List Standing) (pending : List ℕ) (t : TableState) (h : ℕ) → table_in states pending ≡ t → h < length t.states → h < length states
known_in states pending t h view low =
    let e : length (map state_told states) ≡ length t.states = ap (λ (x : TableState). length x.states) view in
    let f = length-map states state_told in
    omega (arith, e, f, low)

pub waits_by : (states : List Standing) (pending : List ℕ) (t : TableState) (h i v : ℕ) → table_in states pending ≡ t → AreTables states pending → i ≡ h → h < length t.states → v ≡ get_or pending i v → not (v == 0) ≡ has_pending h t.pairs
waits_by states pending t h i v view a at low is =
    let known : h < length states = known_in states pending t h view low in
    let here : not (slice_index pending h == 0) ≡ has_pending h (table_in states pending).pairs = waits states pending h a known in
    let inside : i < length pending = subst (λ (k : ℕ). k < length pending) (sym at) (subst (λ (n : ℕ). h < n) (sym a.long) known) in
    let value : v ≡ slice_index pending h = get_or_read pending i v inside is 0 ∙ ap (λ (k : ℕ). slice_index pending k) at in
    ap (λ (k : ℕ). not (k == 0)) value ∙ (here ∙ ap (λ (x : TableState). has_pending h x.pairs) view)

pub put_by : (states : List Standing) (pending : List ℕ) (t : TableState) (h i : ℕ) (x : Standing) → table_in states pending ≡ t → i ≡ h → table_in (slice_set states i x) pending ≡ with_state t h (state_told x)
put_by states pending t h i x view at =
    states_put states pending i x ∙ (ap (λ (k : ℕ). with_state (table_in states pending) k (state_told x)) at ∙ ap (λ (y : TableState). with_state y h (state_told x)) view)

pub taken_by : (states : List Standing) (pending : List ℕ) (t : TableState) (h i : ℕ) → table_in states pending ≡ t → AreTables states pending → i ≡ h → h < length t.states → table_in states (slice_set pending i 0) ≡ after_take t h
taken_by states pending t h i view a at low =
    let here : h < length pending = subst (λ (n : ℕ). h < n) (sym a.long) (known_in states pending t h view low) in
    ap (λ (k : ℕ). table_in states (slice_set pending k 0)) at ∙ (pending_taken states pending h here ∙ ap (λ (y : TableState). after_take y h) view)

-- so many harts were gone through: now is what was sent, and old what was pending before
pub record Sent (old now : List ℕ) (by targets i : ℕ) : Type 0 where
  pub long : length now ≡ length old
  pub done : (k : ℕ) → k < i → slice_index now k ≡ sent_to by targets k (slice_index old k)
  pub rest : (k : ℕ) → i ≤ k → slice_index now k ≡ slice_index old k

named_is : (b : Bool) (v : ℕ) → (IsTrue b → v ≡ 1) → (v ≡ 1 → IsTrue b) → b ≡ (v == 1)
named_is true v f g = sym (eq-eqb v 1 (f refl))
named_is false v f g = sym (ne_eqb v 1 (λ e. let t : false ≡ true = g e in cc))

pub one_sent : (old now : List ℕ) (by targets i n v : ℕ) (named : Bool) → Sent old now by targets i → i < length now → n ≡ i → (IsTrue named → bit_at targets n ≡ 1) → (bit_at targets n ≡ 1 → IsTrue named) → v ≡ (if named then raised by (slice_index now i) else slice_index now i) → Sent old (slice_set now i v) by targets (i + 1)
one_sent old now by targets i n v named x low at f g is =
    let here : named ≡ (bit_at targets i == 1) = named_is named (bit_at targets n) f g ∙ ap (λ (k : ℕ). bit_at targets k == 1) at in
    let value : v ≡ sent_to by targets i (slice_index old i) =
    is ∙ (ap (λ (b : Bool). if b then raised by (slice_index now i) else slice_index now i) here ∙ ap (λ (w : ℕ). sent_to by targets i w) (x.rest i (omega arith))) in
    record {
      long = length-set now i v ∙ x.long;
      done = λ k below. elim (cases_eq k i) [
        | inl e ↦ subst (λ (j : ℕ). slice_index (slice_set now i v) j ≡ sent_to by targets j (slice_index old j)) (sym e) (get_or-set_same now i v 0 low ∙ value)
        | inr other ↦ get_or-set_other now i k v 0 other ∙ x.done k (omega (arith, below, other))
      ];
      rest = λ k above. get_or-set_other now i k v 0 (λ e. omega (arith, e, above)) ∙ x.rest k (omega (arith, above));
    }

pub all_sent : (states : List Standing) (old now : List ℕ) (t : TableState) (by targets i : ℕ) → table_in states old ≡ t → AreTables states old → by < length t.states → Sent old now by targets i → length old ≤ i → (table_in states now).pairs ≡ pairs_sent by targets t.pairs
all_sent states old now t by targets i view a low x past =
    pending_sent states old now by targets a (known_in states old t by view low) x.long (λ k below. x.done k (omega (arith, below, past))) ∙ ap (λ (y : TableState). pairs_sent by targets y.pairs) view

pub still_tables : (states : List Standing) (old now : List ℕ) (t : TableState) (by targets i : ℕ) → table_in states old ≡ t → AreTables states old → by < length t.states → Sent old now by targets i → length old ≤ i → AreTables states now
still_tables states old now t by targets i view a low x past =
    tables_sent states old now by targets a (known_in states old t by view low) x.long (λ k below. x.done k (omega (arith, below, past)))

-- a state that is put again changes nothing
pub same_state : (t : TableState) (h : ℕ) (x : HartState) → listed t.states h ≡ x → with_state t h x ≡ t
same_state t h x is =
    ap (λ (y : HartState). with_state t h y) (sym is) ∙ ap (λ (s : List HartState). record { states = s; pairs = t.pairs }) (set-get_or t.states h stopped)

pub stopped_is : (x : HartState) → is_stopped x ≡ true → x ≡ stopped
stopped_is stopped e = refl
stopped_is (start_pending a o) e = absurd (cc)
stopped_is started e = absurd (cc)
stopped_is suspended e = absurd (cc)

pub not_not : (b : Bool) → not b ≡ false → b ≡ true
not_not true e = refl
not_not false e = absurd (cc)

-- the states of a board that was just made
pub told_first : (n first : ℕ) → map state_told (slice_set (replicate n told.Stopped) first told.Started) ≡ only_first n first
told_first n first = map-set state_told (replicate n told.Stopped) first told.Started ∙ ap (λ (s : List HartState). slice_set s first started) (stopped_all n)
  where
    stopped_all : (n : ℕ) → map state_told (replicate n told.Stopped) ≡ replicate n stopped
    stopped_all zero = refl
    stopped_all (suc n) = ap (λ (s : List HartState). stopped ∷ s) (stopped_all n)

-- ---- tables that are made, or made again
none_row : (f : ℕ → Bool) (first n : ℕ) → ((k : ℕ) → f k ≡ false) → map f (numbers_from first n) ≡ replicate n false
none_row f first zero none = refl
none_row f first (suc n) none = ap (λ (b : Bool). b ∷ map f (numbers_from (suc first) n)) (none first) ∙ ap (λ (bs : List Bool). false ∷ bs) (none_row f (suc first) n none)

none_rows : (n m : ℕ) → map (row_in m) (replicate n 0) ≡ replicate n (replicate m false)
none_rows zero m = refl
none_rows (suc n) m = ap (λ (r : List Bool). r ∷ map (row_in m) (replicate n 0)) (none_row (λ (s : ℕ). bit_at 0 s == 1) 0 m zero_bit) ∙ ap (λ (rs : List (List Bool)). replicate m false ∷ rs) (none_rows n m)

pub none_waits : (states : List Standing) (n : ℕ) → length states ≡ n → map (row_in (length states)) (replicate n 0) ≡ none_pending n
none_waits states n e = ap (λ (m : ℕ). map (row_in m) (replicate n 0)) e ∙ none_rows n n

pub none_tables : (states : List Standing) (n : ℕ) → length states ≡ n → n ≤ 8 → AreTables states (replicate n 0)
none_tables states n e few = record {
  few = omega (arith, e, few);
  long = length-replicate {A = ℕ} n 0 ∙ sym e;
  within = λ k. elim (cases_lt k n) [
    | inl low ↦ subst (λ (v : ℕ). v < 2 ^ length states) (sym (get_or-replicate n k 0 0 low)) (one_some (length states))
    | inr high ↦ subst (λ (v : ℕ). v < 2 ^ length states) (sym (get_or_past (replicate n 0) k 0 (let f = length-replicate {A = ℕ} n 0 in omega (arith, f, high)))) (one_some (length states))
  ];
}

pub first_long : (n first : ℕ) → length (slice_set (replicate n told.Stopped) first told.Started) ≡ n
first_long n first = length-set (replicate n told.Stopped) first told.Started ∙ length-replicate n told.Stopped

pub made_tables : (now : List Standing) (after : List ℕ) (n i : ℕ) → n ≤ 8 → now ≡ replicate n told.Stopped → after ≡ replicate n 0 → AreTables (slice_set now i told.Started) after
made_tables now after n i few e f =
    subst (λ (xs : List Standing). AreTables (slice_set xs i told.Started) after) (sym e)
    (subst (λ (ps : List ℕ). AreTables (slice_set (replicate n told.Stopped) i told.Started) ps) (sym f)
    (none_tables (slice_set (replicate n told.Stopped) i told.Started) n (first_long n i) few))

pub made_states : (now : List Standing) (n i first m : ℕ) → now ≡ replicate n told.Stopped → i ≡ first → n ≡ m → map state_told (slice_set now i told.Started) ≡ only_first m first
made_states now n i first m e at is =
    ap (λ (xs : List Standing). map state_told (slice_set xs i told.Started)) e
    ∙ (told_first n i ∙ (ap (λ (k : ℕ). only_first n k) at ∙ ap (λ (k : ℕ). only_first k first) is))

pub made_pairs : (now : List Standing) (after : List ℕ) (n i m : ℕ) → now ≡ replicate n told.Stopped → after ≡ replicate n 0 → n ≡ m → map (row_in (length (slice_set now i told.Started))) after ≡ none_pending m
made_pairs now after n i m e f is =
    let long : length (slice_set now i told.Started) ≡ n = ap (λ (xs : List Standing). length (slice_set xs i told.Started)) e ∙ first_long n i in
    ap (λ (ps : List ℕ). map (row_in (length (slice_set now i told.Started))) ps) f
    ∙ (none_waits (slice_set now i told.Started) n long ∙ ap none_pending is)

pub states_count : (states : List Standing) (pending : List ℕ) (t : TableState) → table_in states pending ≡ t → length states ≡ length t.states
states_count states pending t view = sym (length-map states state_told) ∙ ap (λ (x : TableState). length x.states) view
