-- One target after another.
use Rattle.std.proofs.Common.{◌≡◌, ◌≢◌, ℕ, zero, suc, ◌+◌, ◌<◌, ◌≤◌, Bool, true, List, [], refl, sym, ap, ◌∙◌, subst, arith, eq-eqb, ne_eqb, length, get_or, ◌==◌, if◌then◌else◌}
use Rattle.std.{specs.{Prelude.slice_set, Int.bit_at}, proofs.lemmas.List.{get_or-set_other, get_or-set_same, length-set}}
use mathlib.Core.Logic.{dite}
use native.Mathlib.Decide.{ℕ_discrete}
use Rattle.tallies.proofs.Seatings.{map_all}
use Rattle.ipi.specs.{Ledger.{PendingSeatView, PendingView}, Pairs.SameHarts, Views.{ArePairs, row_of}}
use Rattle.sbi_calls.specs.{Answers.{row_sent, pairs_sent, pairs_to}, Steps.{Sends, SendsTo}}

abbrev pub Pairs : Type 0
Pairs = List (List Bool)

-- the targets below k, one after another
abbrev pub sent_below : ℕ → ℕ → ℕ → Pairs → Pairs
sent_below by set zero pairs = pairs
sent_below by set (suc k) pairs = pairs_to by set k (sent_below by set k pairs)

-- ---- which rows that leaves
one_other : (by set k j : ℕ) (x : Pairs) → j ≢ k → get_or (pairs_to by set k x) j [] ≡ get_or x j []
one_other by set k j x ne =
    dite (ℕ_discrete (bit_at set k) 1)
    (λ e. rw (eq-eqb (bit_at set k) 1 e) (get_or-set_other x k j (slice_set (row_of x k) by true) [] ne))
    (λ n. rw (ne_eqb (bit_at set k) 1 n) refl)

one_same : (by set k : ℕ) (x : Pairs) → k < length x → get_or (pairs_to by set k x) k [] ≡ row_sent by set x k
one_same by set k x lt =
    dite (ℕ_discrete (bit_at set k) 1)
    (λ e. rw (eq-eqb (bit_at set k) 1 e) (get_or-set_same x k (slice_set (row_of x k) by true) [] lt))
    (λ n. rw (ne_eqb (bit_at set k) 1 n) refl)

one_long : (by set k : ℕ) (x : Pairs) → length (pairs_to by set k x) ≡ length x
one_long by set k x =
    dite (ℕ_discrete (bit_at set k) 1)
    (λ e. rw (eq-eqb (bit_at set k) 1 e) (length-set x k (slice_set (row_of x k) by true)))
    (λ n. rw (ne_eqb (bit_at set k) 1 n) refl)

long : (by set k : ℕ) (pairs : Pairs) → length (sent_below by set k pairs) ≡ length pairs
long by set zero pairs = refl
long by set (suc k) pairs = one_long by set k (sent_below by set k pairs) ∙ long by set k pairs

above : (by set k j : ℕ) (pairs : Pairs) → k ≤ j → get_or (sent_below by set k pairs) j [] ≡ get_or pairs j []
above by set zero j pairs le = refl
above by set (suc k) j pairs le =
    let ne : j ≢ k = λ e. omega arith in
    one_other by set k j (sent_below by set k pairs) ne ∙ above by set k j pairs (omega arith)

below : (by set k j : ℕ) (pairs : Pairs) → j < k → j < length pairs → get_or (sent_below by set k pairs) j [] ≡ row_sent by set pairs j
below by set zero j pairs lt in_range = absurd (omega arith)
below by set (suc k) j pairs lt in_range =
    dite (ℕ_discrete j k)
    (λ e.
    let x = sent_below by set k pairs in
    let l = long by set k pairs in
    let here : get_or (pairs_to by set k x) k [] ≡ row_sent by set x k = one_same by set k x (omega arith) in
    let kept : row_sent by set x k ≡ row_sent by set pairs k = ap (λ (r : List Bool). if bit_at set k == 1 then slice_set r by true else r) (above by set k k pairs (omega arith)) in
    subst (λ (n : ℕ). get_or (pairs_to by set k x) n [] ≡ row_sent by set pairs n) (sym e) (here ∙ kept))
    (λ ne. one_other by set k j (sent_below by set k pairs) ne ∙ below by set k j pairs (omega arith) in_range)

pub sent_all : (by set : ℕ) (pairs : Pairs) → sent_below by set (length pairs) pairs ≡ pairs_sent by set pairs
sent_all by set pairs =
    sym (map_all (row_sent by set pairs) [] (length pairs) (sent_below by set (length pairs) pairs) (long by set (length pairs) pairs) (λ k lt. sym (below by set (length pairs) k pairs lt lt)))

-- ---- what the loop keeps, after the targets below k
abbrev pub Sent : ℕ → ℕ → ℕ → ℕ → PendingSeatView → PendingSeatView → Type 0
Sent n by set k before c = (pairs : Pairs) → ArePairs n before pairs → ArePairs n c (sent_below by set k pairs)

pub sent_next : (n by set k target : ℕ) (before c c' : PendingSeatView) → target ≡ k → Sent n by set k before c → ((pairs : Pairs) → ArePairs n c pairs → ArePairs n c' (pairs_to by set target pairs)) → Sent n by set (k + 1) before c'
sent_next n by set k target before c c' at so raised =
    let e : suc k ≡ k + 1 = omega arith in
    subst (λ (j : ℕ). Sent n by set j before c') e
    (λ pairs are. subst (λ (j : ℕ). ArePairs n c' (pairs_to by set j (sent_below by set k pairs))) at (raised (sent_below by set k pairs) (so pairs are)))

pub sends_next : (by set k target : ℕ) (ds mid ds' : List PendingView) → target ≡ k → Sends by set k ds mid → SendsTo by set target mid ds' → Sends by set (k + 1) ds ds'
sends_next by set k target ds mid ds' at so sends =
    let e : suc k ≡ k + 1 = omega arith in
    subst (λ (j : ℕ). Sends by set j ds ds') e (mid, so, subst (λ (j : ℕ). SendsTo by set j mid ds') at sends)

-- after the last target
pub sent_last : (n by set k : ℕ) (before c : PendingSeatView) → k ≡ n → Sent n by set k before c → (pairs : Pairs) → ArePairs n before pairs → ArePairs n c (pairs_sent by set pairs)
sent_last n by set k before c last so pairs are =
    let e : k ≡ length pairs = last ∙ sym are.0.0 in
    subst (λ (x : Pairs). ArePairs n c x) (ap (λ (j : ℕ). sent_below by set j pairs) e ∙ sent_all by set pairs) (so pairs are)

pub same_then : (a b c : PendingSeatView) → SameHarts a b → SameHarts b c → SameHarts a c
same_then a b c p q = record { harts = q.harts ∙ p.harts; each = λ h. q.each h ∙ p.each h }
