-- What a successor costs, and rows with what is left.
use Rattle.std.proofs.Common.{◌≡◌, ◌⊎◌, ⊎_elim, inl, inr, ℕ, ◌+◌, ◌≤◌, Bool, true, false, List, Option, Some, None, refl, sym, ap, ◌∙◌, subst, arith}
use Rattle.std.{specs.Prelude.{◌-◌, drop, take, length}, proofs.lemmas.{List.take_all, Bool.cases_eq}}
use Rattle.state_space.specs.{Bounded.{Budget, IsFreeBy, PaysBy, Richer}, Successors.{found_count, found_event, found_row}}
use Rattle.state_space.specs.Switched.{within_rules, last_number, row_within, StandsWithin, IsPriced, IsSaid, AreListed}
use Rattle.state_space.specs.{Systems.{Rules, IsExpanded, Stay, UnlessHalts}, declared.systems.Expansion.Expansion}
use Rattle.state_space.specs.declared.{systems.Expansion.TheVariants.{Goes, Ends, Halts}, found.Successors.Successors}

-- ---- one number stands for one process
last_one : (a b : Option ℕ) → last_number a ≡ last_number b → a ≡ b
last_one None None is = refl
last_one None (Some q) is = absurd (omega (arith, is))
last_one (Some p) None is = absurd (omega (arith, is))
last_one (Some p) (Some q) is = ap (λ (n : ℕ). Some n) (omega (arith, is))

true_false : (x : Bool) → x ≡ true → x ≡ false → ⊥
true_false x is was = let e : true ≡ false = sym is ∙ was in cc

own_free : {State : Type 0} (waits : ℕ → State → Type 0) (o : Option ℕ) (p : ℕ) (b : State) → o ≡ Some p → IsFreeBy waits o p b
own_free waits o p b is = subst (λ (x : Option ℕ). IsFreeBy waits x p b) (sym is) (inl refl)

pub priced_pays : {State : Type 0} (waits : ℕ → State → Type 0) (free : Bool) (w : Budget) (b : State) (who : Option ℕ) (u : Budget) → IsSaid waits free w b → IsPriced free w who u → PaysBy waits who b w u
priced_pays waits free w b None u said priced = priced
priced_pays waits free w b (Some p) u said priced = (
  priced.0,
  ⊎_elim
      (λ x. inl (⊎_elim (λ is. said.all is p) (λ own. own_free waits w.last p b own) x.0, x.1))
      (λ x. inr x.2)
      priced.1,
)

pub can_pay : {State : Type 0} (waits : ℕ → State → Type 0) (free : Bool) (w : Budget) (b : State) (who : Option ℕ) (v : Budget) → IsSaid waits free w b → PaysBy waits who b w v → (u : Budget) × IsPriced free w who u × Richer u v
can_pay waits free w b None v said pays = (v, pays, (refl, omega arith))
can_pay waits free w b (Some p) v said pays = by free refl
  where
    stays : Budget
    stays = record { last = Some p; left = w.left }

    low : v.left ≤ w.left
    low = ⊎_elim (λ x. omega (arith, x.1)) (λ x. omega (arith, x)) pays.1

    by : (f : Bool) → free ≡ f → (u : Budget) × IsPriced free w (Some p) u × Richer u v
    by true is = (record { last = Some p; left = w.left }, (refl, inl (inl is, refl)), (sym pays.0, low))
    by false is =
        let g = said.some is in
        elim (cases_eq g.0 p) [
          | inl e ↦ (record { last = Some p; left = w.left }, (refl, inl (inr (g.1 ∙ ap (λ (n : ℕ). Some n) e), refl)), (sym pays.0, low))
          | inr other ↦ ⊎_elim
              (λ x.
              let free_by : IsFreeBy waits (Some g.0) p b = subst (λ (o : Option ℕ). IsFreeBy waits o p b) g.1 x.0 in
              absurd (⊎_elim other g.2 free_by))
              (λ x. (v, (pays.0, inr (is, (λ own. let e : Some g.0 ≡ Some p = sym g.1 ∙ own in let k : g.0 ≡ p = cc in other k), x)), (refl, omega arith)))
              pays.1
        ]

-- ---- all of them
pub expanded_within : {State : Type 0} (rules : Rules State) (by : ℕ → Option ℕ) (waits : ℕ → State → Type 0) (switches : ℕ) (stands : List ℕ → State → Type 0) (free : Bool) (w : Budget) (b : State) (inner found : Successors)
    → IsSaid waits free w b → IsExpanded rules stands (found_count inner) (found_event inner) (found_row inner) b → AreListed by free w inner found (found_count inner)
    → IsExpanded (within_rules rules by waits switches) (StandsWithin stands) (found_count found) (found_event found) (found_row found) (record { state = b; budget = w })
expanded_within rules by waits switches stands free w b inner found said expanded listed = record {
  keeps = expanded.keeps;
  complete = λ e mid step.
      let was = expanded.complete e mid.state step.0 in
      let pay = can_pay waits free w b (by e) mid.budget said step.1 in
      let priced : IsPriced free w (by (found_event inner was.0)) pay.0 = subst (λ (n : ℕ). IsPriced free w (by n) pay.0) (sym was.3) pay.1 in
      let k = listed.complete was.0 pay.0 was.2 priced in
      (k.0, record { state = was.1; budget = pay.0 }, k.1.within, k.1.event ∙ was.3, (was.4, pay.2), (found_row inner was.0, k.1.row, was.5));
  sound = λ k lt.
      let i = listed.sound k lt in
      let to = expanded.sound i.0 i.2 in (
        record { state = to.0; budget = i.1 },
        (
          record { state = to.1.0; budget = i.1 },
          (subst (λ (n : ℕ). rules.steps n b to.1.0) (sym i.4.event) to.1.1, subst (λ (n : ℕ). PaysBy waits (by n) b w i.1) (sym i.4.event) (priced_pays waits free w b (by (found_event inner i.0)) i.1 said i.3)),
          (to.1.2, (refl, omega arith)),
        ),
        (found_row inner i.0, i.4.row, to.2),
      );
}

-- ---- the price as two numbers
abbrev pub IsPaid : Bool → ℕ → ℕ → Option ℕ → ℕ → ℕ → Type 0
IsPaid free last left who a b =
    (w : Budget) → last ≡ last_number w.last → left ≡ w.left → (u : Budget) × (a ≡ last_number u.last) × (b ≡ u.left) × IsPriced free w who u

pub none_paid : (free : Bool) (last left : ℕ) → IsPaid free last left None 0 left
none_paid free last left w is has = (record { last = None; left = w.left }, refl, has, refl)

pub own_paid : (free : Bool) (last left p : ℕ) → (free ≡ true) ⊎ (last ≡ p + 1) → IsPaid free last left (Some p) (p + 1) left
own_paid free last left p so w is has = (
  record { last = Some p; left = w.left },
  omega arith,
  has,
  (refl, inl (⊎_elim (λ x. inl x) (λ x. inr (last_one w.last (Some p) (sym is ∙ (x ∙ omega arith)))) so, refl)),
)

pub other_paid : (free : Bool) (last left p rest : ℕ) → free ≡ false → (last ≡ p + 1 → ⊥) → left ≡ rest + 1 → IsPaid free last left (Some p) (p + 1) rest
other_paid free last left p rest not other one w is has = (
  record { last = Some p; left = rest },
  omega arith,
  refl,
  (refl, inr (not, (λ own. other (is ∙ (ap last_number own ∙ omega arith))), (sym has ∙ (one ∙ omega arith)))),
)

pub none_left : (free : Bool) (last left p : ℕ) → free ≡ false → (last ≡ p + 1 → ⊥) → left ≡ 0 → (w u : Budget) → last ≡ last_number w.last → left ≡ w.left → IsPriced free w (Some p) u → ⊥
none_left free last left p not other none w u is has priced = ⊎_elim
    (λ x. ⊎_elim (λ so. true_false free so not) (λ own. other (is ∙ (ap last_number own ∙ omega arith))) x.0)
    (λ x. omega (arith, none, has, x.2))
    priced.1

-- ---- a row without its first two numbers
pub after_two : (row : List ℕ) (w : Budget) (inner : List ℕ) → row ≡ row_within w inner → take (length row - 2) (drop 2 row) ≡ inner
after_two row w inner is = ap (λ (r : List ℕ). take (length r - 2) (drop 2 r)) is ∙ take_all (length (row_within w inner) - 2) inner (omega arith)

pub lifted : (said : Expansion) (P Q : Type 0) → (P → Q) → UnlessHalts said P → UnlessHalts said Q
lifted Goes P Q so is = so is
lifted Ends P Q so is = so is
lifted Halts P Q so is = is

-- ---- what rows stand for stays
pub stays_on : {State : Type 0} (a b c : List ℕ → State → Type 0) → Stay a b → Stay b c → Stay a c
stays_on a b c first second r x y has =
    let forth = (second r x y ((first r x x has).0 has)) in
    (λ at. forth.0 ((first r x y has).0 at), λ at. (first r x y has).1 (forth.1 at))

pub stays_within : {State : Type 0} (old new : List ℕ → State → Type 0) → Stay old new → Stay (StandsWithin old) (StandsWithin new)
stays_within old new stays row x y has = (
  λ at. (at.0, at.1, (stays at.0 y.state y.state at.2).0 at.2),
  λ at.
      let same : has.0 ≡ at.0 = ap (λ (r : List ℕ). drop 2 r) (sym has.1 ∙ at.1) in
      (at.0, at.1, (stays at.0 x.state y.state (subst (λ (r : List ℕ). old r x.state) same has.2)).1 at.2),
)
