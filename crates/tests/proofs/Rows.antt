-- The harts of a seat that is parted and joined.
use Rattle.std.proofs.Common.{◌≡◌, ℕ, ◌+◌, List, [], ◌∷◌, ◌++◌, length, refl, sym, ap, ◌∙◌, take, drop, arith, eq-eqb}
use Rattle.std.proofs.lemmas.List.{map-append, take-append-drop}
use Rattle.tallies.{specs.{Sums.total, Notes.{numbers, is_of, seats, first_hart, other_harts, together}}, proofs.Totals.total-append}
use Rattle.ipi.specs.{Ledger.{PendingView, PendingSeatView}, Pairs.SameHarts}
use Rattle.tests.specs.Crowd.{AreFrom}

-- a seat of the first hart alone has it
pub sits_alone : (first : ℕ) (ds : List PendingView) → AreFrom first ds → length ds ≡ 1 → total (is_of first) ds ≡ 1
sits_alone first [] row one = absurd (omega arith)
sits_alone first (d ∷ []) row one = let e : is_of first d ≡ 1 = rw (eq-eqb d.hart first row.0) refl in omega arith
sits_alone first (d ∷ e ∷ ds) row one = absurd (omega arith)

-- both parts kept their harts, so the whole keeps them
pub same_whole : (c one others one' others' c' : PendingSeatView) → one ≡ first_hart c → others ≡ other_harts c → SameHarts one one' → SameHarts others others' → c' ≡ together one' others' → SameHarts c c'
same_whole c one others one' others' c' is_one is_others same more is = record {
  harts =
      ap (λ (d : PendingSeatView). numbers d.harts) is
      ∙ (map-append (λ (d : PendingView). d.hart) one'.harts others'.harts
      ∙ (ap (λ (l : List ℕ). l ++ numbers others'.harts) (same.harts ∙ ap (λ (d : PendingSeatView). numbers d.harts) is_one)
      ∙ (ap (λ (l : List ℕ). numbers (take 1 c.harts) ++ l) (more.harts ∙ ap (λ (d : PendingSeatView). numbers d.harts) is_others)
      ∙ (sym (map-append (λ (d : PendingView). d.hart) (take 1 c.harts) (drop 1 c.harts)) ∙ ap numbers (take-append-drop 1 c.harts)))));
  each = λ h.
      ap (seats h) is
      ∙ (total-append (is_of h) one'.harts others'.harts
      ∙ (let p = same.each h in let q = more.each h in
      let r : total (is_of h) one.harts + total (is_of h) others.harts ≡ total (is_of h) c.harts =
      ap (λ (d : PendingSeatView). total (is_of h) d.harts + total (is_of h) others.harts) is_one
      ∙ (ap (λ (d : PendingSeatView). total (is_of h) (take 1 c.harts) + total (is_of h) d.harts) is_others
      ∙ (sym (total-append (is_of h) (take 1 c.harts) (drop 1 c.harts)) ∙ ap (λ (ds : List PendingView). total (is_of h) ds) (take-append-drop 1 c.harts))) in
      omega arith));
}
