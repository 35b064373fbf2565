-- The table at the start, and seats that are parted and joined.
use Rattle.std.proofs.Common.{◌≡◌, ℕ, zero, suc, ◌<◌, false, true≢false, eqb, List, [], ◌∷◌, ◌++◌, length, set, refl, sym, ap, arith}
use Rattle.std.{specs.{Prelude.slice_index, Int.bit_at}, proofs.lemmas.Nat.Bits.bit_at-zero}
use Rattle.atomic_table.specs.Table.{Splits, Joins, opening}
use Rattle.ipi.{specs.{declared.view.IpiAction.IpiAction, Pairs.Shows}, proofs.Keeps.{nothing, weight}}
use Rattle.ipi.specs.Ledger.{raise_of, take_of, raised_by, taken_by, IsOwed, PendingInvariant, reading, first_word, opening_pending_view, PendingView, PendingSeatView}
use Rattle.tallies.specs.{Notes.{first_hart, other_harts, together, nobody, opening_from}, Sums.total}
use Rattle.tallies.proofs.{Noted.{parted, opens_seated}, Rules.{each_split, each_join, each_open, logged_split, logged_join, logged_open}}
use Rattle.tallies.proofs.Totals.{total_split, total_join, total-append}

-- ---- the start
fresh_weight : (key : ℕ) (g : IpiAction → ℕ) (first n : ℕ) → total (weight key g) (opening_from (λ _. tt) first n) ≡ 0
fresh_weight key g first zero = refl
fresh_weight key g first (suc n) = let z = nothing (eqb first key) in let more = fresh_weight key g (suc first) n in omega arith

pub opens : (harts : ℕ) (words : List ℕ) → length words ≡ harts → ((i : ℕ) → i < harts → slice_index words i ≡ 0) → PendingInvariant harts (opening words [] (opening_pending_view harts))
opens harts words long zeros = record {
  steps = logged_open reading first_word harts harts (λ _. tt) words long zeros;
  ledger = λ sd t lt.
      let a = fresh_weight sd (raise_of sd t) 0 harts in
      let b = fresh_weight t (take_of sd) 0 harts in
      let z = ap (λ (k : ℕ). bit_at k sd) (zeros t lt) in
      let n = bit_at-zero sd in
      omega arith;
  owed = each_open (λ _. tt) (IsOwed words) harts (λ h lt o. absurd (true≢false (sym o)));
}

pub opens_shown : (harts : ℕ) → Shows harts (opening_pending_view harts) (λ _ _. false)
opens_shown harts = (
  opens_seated IpiAction (λ _. tt) harts,
  (λ s t. (
    (λ yes. absurd (true≢false (sym yes))),
    (λ p. let a = fresh_weight s (raise_of s t) 0 harts in let b = fresh_weight t (take_of s) 0 harts in absurd (omega arith)),
  )),
)

-- ---- seats are parted and joined
pub splits : (harts id : ℕ) (c : PendingSeatView) → Splits (PendingInvariant harts) id c (first_hart c) (other_harts c)
splits harts id c s kept at =
    let sums : (f : PendingView → ℕ) → total (λ (v : PendingSeatView). total f v.harts) (set s.views id (first_hart c) ++ other_harts c ∷ []) ≡ total (λ (v : PendingSeatView). total f v.harts) s.views =
    λ f. total_split (λ (v : PendingSeatView). total f v.harts) s.views id c (first_hart c) (other_harts c) at (parted f c.harts) in
    record {
      steps = logged_split reading first_word harts harts s kept.steps id c at;
      ledger = λ sd t lt. let l = kept.ledger sd t lt in let a = sums (raised_by sd t) in let b = sums (taken_by sd t) in omega arith;
      owed = each_split (IsOwed s.words) s.views id c at kept.owed;
    }

pub joins : (harts id : ℕ) (c : PendingSeatView) (other : ℕ) (d : PendingSeatView) → Joins (PendingInvariant harts) id c other d (together c d) nobody
joins harts id c other d s kept at ne there =
    let sums : (f : PendingView → ℕ) → total (λ (v : PendingSeatView). total f v.harts) (set (set s.views id (together c d)) other nobody) ≡ total (λ (v : PendingSeatView). total f v.harts) s.views =
    λ f. total_join (λ (v : PendingSeatView). total f v.harts) s.views id other c d (together c d) nobody at there (total-append f c.harts d.harts) refl in
    record {
      steps = logged_join reading first_word harts harts s kept.steps id c other d at ne there;
      ledger = λ sd t lt. let l = kept.ledger sd t lt in let a = sums (raised_by sd t) in let b = sums (taken_by sd t) in omega arith;
      owed = each_join (IsOwed s.words) s.views id c at other d ne there kept.owed;
    }
