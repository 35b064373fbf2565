-- A table that is made of another's pairs, pair by pair.
use Rattle.std.proofs.Common.{◌≡◌, ◌↔◌, ℕ, ◌+◌, ◌<◌, ◌≤◌, Bool, false, true≢false, IsTrue, IfSome, Option, Some, List, [], get_or, sym, ap, subst, ◌∙◌, arith}
use Rattle.std.{specs.Int.bit_at, proofs.lemmas.{Nat.Bits.bit_at-lt, List.get_or_past}}
use mathlib.Core.Logic.{dite}
use native.Mathlib.Decide.{ℕ_discrete, dec_le}
use Rattle.tallies.specs.{Seats.numbers_from, Notes.numbers}
use Rattle.ipi.specs.{Ledger.{PendingSeatView, raised, taken}, Pairs.Shows, Views.{pair_in, pairs_in, pair_at, ArePairs}, Copies.IsMade}
use Rattle.ipi.proofs.Computed.{lt_told, seat_determines_pairs, same_bool, in_range, shows_as, shows_seen, whole_of}
use Rattle.board_model.specs.HartSets.{Has}

-- the senders in the word of a target are those of its pairs
pub senders_are : (target found : ℕ) (c : PendingSeatView) → ((sender : ℕ) → raised sender target c ≡ taken sender target c + bit_at found sender) → (sender : ℕ) → Has sender found ↔ IsTrue (pair_in c sender target)
senders_are target found c tells sender =
    let e = tells sender in
    let bit = bit_at-lt found sender in
    let told = lt_told (taken sender target c) (raised sender target c) in
    ((λ one. told.1 (omega arith)), (λ p. let lt = told.0 p in omega arith))

-- a target has the same pairs in two views by whose words the same senders raised for it
pub same_row : (target found : ℕ) (c d : PendingSeatView) → ((sender : ℕ) → Has sender found ↔ IsTrue (pair_in c sender target)) → ((sender : ℕ) → Has sender found ↔ IsTrue (pair_in d sender target))
    → (sender : ℕ) → pair_in c sender target ≡ pair_in d sender target
same_row target found c d in_c in_d s = same_bool (pair_in c s target) (pair_in d s target) (λ p. (in_d s).0 ((in_c s).1 p)) (λ p. (in_c s).0 ((in_d s).1 p))

-- all rows are made
module _ (harts : ℕ) (old c : PendingSeatView) (shows : ArePairs harts old (pairs_in harts old)) (all : numbers old.harts ≡ numbers_from 0 harts) (made : IsMade harts harts 0 old c) where
  past : (s t : ℕ) → harts ≤ t → pair_at (pairs_in harts old) s t ≡ false
  past s t le = let e = shows.0.0 in ap (λ (row : List Bool). get_or row s false) (get_or_past (pairs_in harts old) t [] (omega arith))

  none_past : (s t : ℕ) → harts ≤ t → pair_in c s t ≡ false
  none_past s t le = dite (ℕ_discrete t harts)
      (λ e. ap (pair_in c s) e ∙ made.rest s (omega arith))
      (λ ne. made.none s t (omega arith))

  same_pair : (s t : ℕ) → pair_at (pairs_in harts old) s t ≡ pair_in c s t
  same_pair s t = dite (dec_le harts t)
      (λ above. past s t above ∙ sym (none_past s t above))
      (λ under. sym (seat_determines_pairs harts old (pair_at (pairs_in harts old)) shows.1 s t) ∙ dite (dec_le harts s)
      (λ out. in_range harts old all s t out ∙ sym (in_range harts c made.numbered s t out))
      (λ within. sym (made.rows s t (omega arith) (omega arith))))

  pub ends : ArePairs harts c (pairs_in harts old)
  ends = (shows.0, shows_as harts c (pair_in c) (pair_at (pairs_in harts old)) same_pair (shows_seen harts c (whole_of harts c made.numbered)))

-- ---- hart by hart
pub hart_of : (r : Option ℕ) (h n harts : ℕ) → r ≡ Some h → IfSome r (λ x. (x ≡ n) × (n < harts)) → (h ≡ n) × (n < harts)
hart_of r h n harts is some = subst (λ (o : Option ℕ). IfSome o (λ x. (x ≡ n) × (n < harts))) is some

pub hart_below : (r : Option ℕ) (h n harts all : ℕ) → r ≡ Some h → IfSome r (λ x. (x ≡ n) × (n < harts)) → all ≡ harts → h < all
hart_below r h n harts all is some same = (let at = hart_of r h n harts is some in omega (arith, at.0, at.1, same))

-- nothing is pending yet
pub made_none : (harts all : ℕ) (old c : PendingSeatView) → numbers c.harts ≡ numbers_from 0 all → all ≡ harts → Shows harts c (λ _ _. false) → IsMade harts 0 0 old c
made_none harts all old c numbered same shows =
    let none : (s t : ℕ) → pair_in c s t ≡ false = (λ s t. same_bool (pair_in c s t) false (λ p. (shows.1 s t).1 ((lt_told (taken s t c) (raised s t c)).0 p)) (λ f. absurd (true≢false (sym f)))) in record {
      numbered = numbered ∙ ap (λ (n : ℕ). numbers_from 0 n) same;
      rows = λ s t _ lt. absurd (omega (arith, lt));
      row = λ s lt. absurd (omega (arith, lt));
      rest = λ s _. none s 0;
      none = λ s t _. none s t;
    }

-- so many rows are made of one view, and of another that is the same
pub made_at : (harts k t : ℕ) (old new c : PendingSeatView) → t ≡ k → new ≡ old → IsMade harts k 0 old c → IsMade harts t 0 new c
made_at harts k t old new c is same made = subst (λ (j : ℕ). IsMade harts j 0 new c) (sym is) (subst (λ (d : PendingSeatView). IsMade harts k 0 d c) (sym same) made)
