-- A view of all harts shows one set of pairs, which `pair_in` computes.
use Rattle.std.proofs.Common.{rules, ◌≡◌, ◌≢◌, ◌↔◌, ℕ, zero, suc, ◌<◌, ◌≤◌, Bool, true, false, true≢false, IsTrue, List, [], ◌∷◌, map, length, refl, sym, ap, ◌∙◌, subst, arith, ⊎_elim, eq-eqb, ne_eqb}
use Rattle.std.{specs.Prelude.{nat_lt, get_or, slice_set}, proofs.lemmas.{Bool.cases_lt, Grind.get_or-set_at}}
use Rattle.std.proofs.lemmas.List.{length-set, length-map, get_or-set_same, get_or-set_other}
use mathlib.Core.Logic.{dite}
use native.Mathlib.Decide.{ℕ_discrete}
use Rattle.tallies.{specs.{Seats.numbers_from, Notes.{numbers, is_of}}, proofs.Seatings.{map_all, at_all, total_beyond, total_once}}
use Rattle.ipi.specs.Ledger.{raised_by, raised, taken, HasEveryHart, PendingView, PendingSeatView}
use Rattle.ipi.specs.Pairs.{IsPending, Shows, with_pair, without_target}
use Rattle.ipi.specs.Views.{pair_in, pairs_in, row_of, pair_at, AreRows, ArePairs, pairs_with, pairs_without}

lt_true : (m n : ℕ) → m < n → nat_lt m n ≡ true
lt_true m n lt = search (arith, rules)

lt_false : (m n : ℕ) → n ≤ m → nat_lt m n ≡ false
lt_false m n le = search (arith, rules)

pub lt_told : (m n : ℕ) → IsTrue (nat_lt m n) ↔ (m < n)
lt_told m n = ((λ t. ⊎_elim (λ (l : m < n). l) (λ (g : n ≤ m). absurd (true≢false (sym t ∙ lt_false m n g))) (cases_lt m n)), lt_true m n)

pub same_bool : (a b : Bool) → (IsTrue a → IsTrue b) → (IsTrue b → IsTrue a) → a ≡ b
same_bool true true f g = refl
same_bool true false f g = sym (f refl)
same_bool false true f g = g refl
same_bool false false f g = refl

pub seat_determines_pairs : (harts : ℕ) (c : PendingSeatView) (pairs : ℕ → ℕ → Bool) → Shows harts c pairs → (sender target : ℕ) → pair_in c sender target ≡ pairs sender target
seat_determines_pairs harts c pairs shown s t =
    let told = lt_told (taken s t c) (raised s t c) in
    same_bool (pair_in c s t) (pairs s t) (λ p. (shown.1 s t).1 (told.0 p)) (λ p. told.1 ((shown.1 s t).0 p))

pub shows_seen : (harts : ℕ) (c : PendingSeatView) → HasEveryHart harts c → Shows harts c (pair_in c)
shows_seen harts c whole = (whole, (λ s t. lt_told (taken s t c) (raised s t c)))

pub in_range : (harts : ℕ) (c : PendingSeatView) → numbers c.harts ≡ numbers_from 0 harts → (sender target : ℕ) → harts ≤ sender → pair_in c sender target ≡ false
in_range harts c all s t le =
    let none : raised s t c ≡ 0 = total_beyond (λ (d : PendingView). d.hart) (raised_by s t) s harts c.harts (λ d ne. rw (ne_eqb d.hart s ne) refl) all le in
    lt_false (taken s t c) (raised s t c) (omega arith)

-- ---- the pairs as a list
pub one_list : (harts : ℕ) (c : PendingSeatView) (pairs : List (List Bool)) → ArePairs harts c pairs → pairs_in harts c ≡ pairs
one_list harts c pairs are =
    map_all (λ t. map (λ s. pair_in c s t) (numbers_from 0 harts)) [] harts pairs are.0.0
    (λ t lt. map_all (λ s. pair_in c s t) false harts (row_of pairs t) (are.0.1 t lt) (λ s _. seat_determines_pairs harts c (pair_at pairs) are.1 s t))

pub at_pairs : (harts : ℕ) (c : PendingSeatView) (sender target : ℕ) → sender < harts → target < harts → pair_at (pairs_in harts c) sender target ≡ pair_in c sender target
at_pairs harts c s t ls lt =
    ap (λ (row : List Bool). get_or row s false) (at_all (λ t. map (λ s. pair_in c s t) (numbers_from 0 harts)) [] harts t lt) ∙ at_all (λ s. pair_in c s t) false harts s ls

pub shows_as : (harts : ℕ) (c : PendingSeatView) (p q : ℕ → ℕ → Bool) → ((s t : ℕ) → q s t ≡ p s t) → Shows harts c p → Shows harts c q
shows_as harts c p q same shown = (shown.0, (λ s t. subst (λ (b : Bool). IsTrue b ↔ IsPending c s t) (sym (same s t)) (shown.1 s t)))

-- one row is another
module _ (harts target : ℕ) (pairs : List (List Bool)) (rows : AreRows harts pairs) (lt : target < harts) (row : List Bool) where
  there : target < length pairs
  there = let e = rows.0 in omega arith

  row_here : row_of (slice_set pairs target row) target ≡ row
  row_here = get_or-set_same pairs target row [] there

  row_else : (t : ℕ) → t ≢ target → row_of (slice_set pairs target row) t ≡ row_of pairs t
  row_else t ne = get_or-set_other pairs target t row [] ne

  same_rows : length row ≡ harts → AreRows harts (slice_set pairs target row)
  same_rows long = (
    length-set pairs target row ∙ rows.0,
    (λ t below. dite (ℕ_discrete t target)
        (λ is. ap (λ (n : ℕ). length (row_of (slice_set pairs target row) n)) is ∙ (ap (λ (r : List Bool). length r) row_here ∙ long))
        (λ ne. ap (λ (r : List Bool). length r) (row_else t ne) ∙ rows.1 t below)),
  )

  at_here : (s t : ℕ) → t ≡ target → pair_at (slice_set pairs target row) s t ≡ get_or row s false
  at_here s t is = ap (λ (n : ℕ). pair_at (slice_set pairs target row) s n) is ∙ ap (λ (r : List Bool). get_or r s false) row_here

  at_else : (s t : ℕ) → t ≢ target → pair_at (slice_set pairs target row) s t ≡ pair_at pairs s t
  at_else s t ne = ap (λ (r : List Bool). get_or r s false) (row_else t ne)

pub one_more : (harts : ℕ) (c : PendingSeatView) (sender target : ℕ) (pairs : List (List Bool)) → AreRows harts pairs → sender < harts → target < harts
    → Shows harts c (with_pair sender target (pair_at pairs)) → ArePairs harts c (pairs_with sender target pairs)
one_more harts c sender target pairs rows ls lt shown =
    let old = row_of pairs target in
    let row = slice_set old sender true in
    let room : sender < length old = let e = rows.1 target lt in omega arith in (
      same_rows harts target pairs rows lt row (length-set old sender true ∙ rows.1 target lt),
      shows_as harts c (with_pair sender target (pair_at pairs)) (pair_at (pairs_with sender target pairs)) (λ s t. dite (ℕ_discrete t target)
          (λ is. at_here harts target pairs rows lt row s t is ∙ dite (ℕ_discrete s sender)
          (λ own. rw (eq-eqb s sender own, eq-eqb t target is) (get_or-set_at old sender s true false own room))
          (λ ne. rw (ne_eqb s sender ne) (get_or-set_other old sender s true false ne ∙ ap (λ (n : ℕ). pair_at pairs s n) (sym is))))
          (λ far. at_else harts target pairs rows lt row s t far ∙ dite (ℕ_discrete s sender)
          (λ own. rw (eq-eqb s sender own, ne_eqb t target far) refl)
          (λ ne. rw (ne_eqb s sender ne) refl)))
          shown,
    )

none_of : (row : List Bool) (s : ℕ) → get_or (map (λ (_ : Bool). false) row) s false ≡ false
none_of [] s = refl
none_of (b ∷ row) zero = refl
none_of (b ∷ row) (suc s) = none_of row s

pub one_less : (harts : ℕ) (c : PendingSeatView) (target : ℕ) (pairs : List (List Bool)) → AreRows harts pairs → target < harts
    → Shows harts c (without_target target (pair_at pairs)) → ArePairs harts c (pairs_without target pairs)
one_less harts c target pairs rows lt shown =
    let old = row_of pairs target in
    let row = map (λ (_ : Bool). false) old in (
      same_rows harts target pairs rows lt row (length-map old (λ (_ : Bool). false) ∙ rows.1 target lt),
      shows_as harts c (without_target target (pair_at pairs)) (pair_at (pairs_without target pairs)) (λ s t. dite (ℕ_discrete t target)
          (λ is. at_here harts target pairs rows lt row s t is ∙ rw (eq-eqb t target is) (none_of old s))
          (λ far. at_else harts target pairs rows lt row s t far ∙ rw (ne_eqb t target far) refl))
          shown,
    )

-- a seat of every hart, in the order of their numbers, has each once
pub whole_of : (harts : ℕ) (c : PendingSeatView) → numbers c.harts ≡ numbers_from 0 harts → HasEveryHart harts c
whole_of harts c all h lt = total_once (λ (d : PendingView). d.hart) (is_of h) h (λ d e. rw (eq-eqb d.hart h e) refl) (λ d ne. rw (ne_eqb d.hart h ne) refl) c.harts harts all lt
