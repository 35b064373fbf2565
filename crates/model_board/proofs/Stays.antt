-- What a turn of one hart leaves of the state of another that is STARTED, and of what is pending for it.
use Rattle.std.proofs.Common.{ℕ, zero, suc, Bool, true, false, IsTrue, List, [], ◌∷◌, map, ◌≡◌, ◌≢◌, ◌<◌, ◌≤◌, length, refl, sym, ap, ◌∙◌, subst, inl, inr, if◌then◌else◌, ne_eqb, arith}
use Rattle.std.{specs.{Prelude.{slice_set, Ok, Err, ◌==◌}, Int.bit_at}, proofs.lemmas.Bool.cases_lt}
use Rattle.std.proofs.lemmas.List.{get_or-set_other, set-get_or, get_or_past, length-map}
use Rattle.tallies.{specs.Seats.numbers_from, proofs.Seatings.at_all}
use Rattle.board_model.specs.HartSets.{Has}
use Rattle.hart.proofs.Decided.{either, same_number}
use Rattle.hsm.specs.{States.{HartState, stopped, started, suspended, grant}, Views.listed}
use Rattle.ipi.specs.Views.{row_of}
use Rattle.sbi_calls.specs.{Both.TableState, Answers.{row, row_sent, pairs_sent, with_state}, Requests.Checked}
use Rattle.sbi_calls.specs.declared.requests.Request.TheVariants.{Value, Start, Stop, Status, Suspend, SuspendAfresh, Send, Command}
use Rattle.turns.specs.Turns.{has_true, has_pending, after_take}

-- y is x but for what another hart did: the hart h is STARTED still, nothing that was pending for it is gone, and where
-- none was sent it is the same
pub record Leaves (h : ℕ) (x y : TableState) (Sent : Type 0) : Type 0 where
  pub runs : listed y.states h ≡ started
  pub more : IsTrue (has_pending h x.pairs) → IsTrue (has_pending h y.pairs)
  pub same : (Sent → ⊥) → has_pending h y.pairs ≡ has_pending h x.pairs

pub leaves : (h : ℕ) (x : TableState) (Sent : Type 0) → listed x.states h ≡ started → Leaves h x x Sent
leaves h x Sent runs = record { runs = runs; more = λ p. p; same = λ none. refl }

-- another hart's state changes
pub state_leaves : (h by : ℕ) (x : TableState) (state : HartState) (Sent : Type 0) → h ≢ by → listed x.states h ≡ started → Leaves h x (with_state x by state) Sent
state_leaves h by x state Sent other runs =
    record { runs = get_or-set_other x.states by h state stopped other ∙ runs; more = λ p. p; same = λ none. refl }

-- another hart takes what is pending for it
pub take_leaves : (h by : ℕ) (x : TableState) (Sent : Type 0) → h ≢ by → listed x.states h ≡ started → Leaves h x (after_take x by) Sent
take_leaves h by x Sent other runs =
    let e : row_of (after_take x by).pairs h ≡ row_of x.pairs h = get_or-set_other x.pairs by h (map (λ _. false) (row_of x.pairs by)) [] other in
    let f : has_pending h (after_take x by).pairs ≡ has_pending h x.pairs = ap has_true e in
    record { runs = runs; more = λ p. f ∙ p; same = λ none. f }

-- a start of a hart that is STARTED changes nothing
start_leaves : (h target a o : ℕ) (x : TableState) (Sent : Type 0) → listed x.states h ≡ started → Leaves h x (with_state x target (grant a o (listed x.states target))) Sent
start_leaves h target a o x Sent runs =
    either (same_number h target)
    (λ at.
    let there : listed x.states target ≡ started = subst (λ (k : ℕ). listed x.states k ≡ started) at runs in
    let stays : grant a o (listed x.states target) ≡ listed x.states target = ap (grant a o) there ∙ sym there in
    let e : slice_set x.states target (grant a o (listed x.states target)) ≡ x.states = ap (λ (v : HartState). slice_set x.states target v) stays ∙ set-get_or x.states target stopped in
    record { runs = ap (λ (states : List HartState). listed states h) e ∙ runs; more = λ p. p; same = λ none. refl })
    (λ other. state_leaves h target x (grant a o (listed x.states target)) Sent other runs)

-- ---- an interrupt is sent
set_true : (bs : List Bool) (i : ℕ) → IsTrue (has_true bs) → IsTrue (has_true (slice_set bs i true))
set_true [] i p = p
set_true (b ∷ bs) zero p = refl
set_true (true ∷ bs) (suc i) p = refl
set_true (false ∷ bs) (suc i) p = set_true bs i p

sent_row : (by targets : ℕ) (pairs : List (List Bool)) (h : ℕ) → h < length pairs → row_of (pairs_sent by targets pairs) h ≡ row_sent by targets pairs h
sent_row by targets pairs h low = at_all (row_sent by targets pairs) [] (length pairs) h low

no_row : (by targets : ℕ) (pairs : List (List Bool)) (h : ℕ) → length pairs ≤ h → row_of (pairs_sent by targets pairs) h ≡ row_of pairs h
no_row by targets pairs h high =
    get_or_past (pairs_sent by targets pairs) h [] (numbers_past by targets pairs h high) ∙ sym (get_or_past pairs h [] high)
  where
    numbers_long : (first n : ℕ) → length (numbers_from first n) ≡ n
    numbers_long first zero = refl
    numbers_long first (suc n) = ap (λ (k : ℕ). suc k) (numbers_long (suc first) n)

    numbers_past : (by targets : ℕ) (pairs : List (List Bool)) (h : ℕ) → length pairs ≤ h → length (pairs_sent by targets pairs) ≤ h
    numbers_past by targets pairs h high =
        let e = length-map (numbers_from 0 (length pairs)) (row_sent by targets pairs) in
        let f = numbers_long 0 (length pairs) in
        omega (arith, e, f, high)

if_more : (b : Bool) (xs ys : List Bool) → (IsTrue (has_true ys) → IsTrue (has_true xs)) → IsTrue (has_true ys) → IsTrue (has_true (if b then xs else ys))
if_more true xs ys f p = f p
if_more false xs ys f p = p

row_more : (by targets : ℕ) (pairs : List (List Bool)) (h : ℕ) → IsTrue (has_true (row_of pairs h)) → IsTrue (has_true (row_sent by targets pairs h))
row_more by targets pairs h p = if_more (bit_at targets h == 1) (slice_set (row_of pairs h) by true) (row_of pairs h) (set_true (row_of pairs h) by) p

row_same : (by targets : ℕ) (pairs : List (List Bool)) (h : ℕ) → (Has h targets → ⊥) → row_sent by targets pairs h ≡ row_of pairs h
row_same by targets pairs h never =
    let e : (bit_at targets h == 1) ≡ false = ne_eqb (bit_at targets h) 1 never in
    ap (λ (b : Bool). if b then slice_set (row_of pairs h) by true else row_of pairs h) e

send_leaves : (h by targets : ℕ) (x : TableState) → listed x.states h ≡ started → Leaves h x (record x { pairs = pairs_sent by targets x.pairs }) (Has h targets)
send_leaves h by targets x runs =
    elim (cases_lt h (length x.pairs)) [
      | inl low ↦ (
          let e = sent_row by targets x.pairs h low in
          record {
            runs = runs;
            more = λ p. ap has_true e ∙ row_more by targets x.pairs h p;
            same = λ none. ap has_true e ∙ ap has_true (row_same by targets x.pairs h none);
          })
      | inr high ↦ (
          let e = no_row by targets x.pairs h high in
          record { runs = runs; more = λ p. ap has_true e ∙ p; same = λ none. ap has_true e })
    ]

-- ---- a request of another hart
-- it sends to the hart h
abbrev pub SendsBy : ℕ → Checked → Type 0
SendsBy h asked = (targets : ℕ) × (asked ≡ Ok (Send targets)) × Has h targets

sent_by : (h : ℕ) (x y : TableState) (P Q : Type 0) → (P → Q) → Leaves h x y P → Leaves h x y Q
sent_by h x y P Q f l = record { runs = l.runs; more = l.more; same = λ none. l.same (λ p. none (f p)) }

pub row_leaves : (h by : ℕ) (asked : Checked) (x : TableState) → h ≢ by → listed x.states h ≡ started → Leaves h x (row by asked x).table (SendsBy h asked)
row_leaves h by (Err e) x other runs = leaves h x _ runs
row_leaves h by (Ok (Value v)) x other runs = leaves h x _ runs
row_leaves h by (Ok (Start target a o)) x other runs = start_leaves h target a o x _ runs
row_leaves h by (Ok Stop) x other runs = state_leaves h by x stopped _ other runs
row_leaves h by (Ok (Status target)) x other runs = leaves h x _ runs
row_leaves h by (Ok Suspend) x other runs = state_leaves h by x suspended _ other runs
row_leaves h by (Ok (SuspendAfresh a o)) x other runs = state_leaves h by x suspended _ other runs
row_leaves h by (Ok (Send targets)) x other runs =
    sent_by h x (record x { pairs = pairs_sent by targets x.pairs }) (Has h targets) (SendsBy h (Ok (Send targets))) (λ named. (targets, refl, named)) (send_leaves h by targets x runs)
row_leaves h by (Ok Command) x other runs = leaves h x _ runs
