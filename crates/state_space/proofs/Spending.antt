-- Rows with how many events are left, and every order within such a number.
use Rattle.std.proofs.Common.{◌≡◌, ⊎_elim, inl, inr, ℕ, zero, suc, ◌-◌, ◌≤◌, Bool, true, false, List, [], ◌∷◌, refl, sym, ap, ◌∙◌, subst, arith}
use Rattle.std.{specs.Prelude.{drop, take, length}, proofs.lemmas.List.take_all}
use Rattle.state_space.specs.Counted.{Counted, DoesCounted, LocalCounted, Spends, AreCounted, StandsCounted, counted_rules, how_many, one_more_if, row_counted}
use Rattle.state_space.specs.{Orders.{Runs, Chain, Reduction}, Successors.{found_count, found_event, found_row}}
use Rattle.state_space.specs.{Systems.{Rules, IsExpanded, Stay}, declared.found.Successors.Successors}

-- ---- what is left
pub one_left : (counts : Bool) (left u v : ℕ) → Spends counts left u → Spends counts left v → v ≡ u
one_left true left u v a b = omega (arith, a, b)
one_left false left u v a b = b ∙ sym a

-- ---- a row without its first number
pub after_one : (row : List ℕ) (left : ℕ) (inner : List ℕ) → row ≡ row_counted left inner → take (length row - 1) (drop 1 row) ≡ inner
after_one row left inner is = ap (λ (r : List ℕ). take (length r - 1) (drop 1 r)) is ∙ take_all (length (row_counted left inner) - 1) inner (omega arith)

-- ---- what rows stand for stays
pub stays_counted : {State : Type 0} (old new : List ℕ → State → Type 0) → Stay old new → Stay (StandsCounted old) (StandsCounted new)
stays_counted old new stays row x y has = (
  λ at. (at.0, at.1, (stays at.0 y.state y.state at.2).0 at.2),
  λ at.
      let same : has.0 ≡ at.0 = ap (λ (r : List ℕ). drop 1 r) (sym has.1 ∙ at.1) in
      (at.0, at.1, (stays at.0 x.state y.state (subst (λ (r : List ℕ). old r x.state) same has.2)).1 at.2),
)

-- ---- all successors
pub expanded_counted : {State : Type 0} (rules : Rules State) (counts : ℕ → Bool) (most : ℕ) (stands : List ℕ → State → Type 0) (b : Counted State) (inner found : Successors)
    → IsExpanded rules stands (found_count inner) (found_event inner) (found_row inner) b.state → AreCounted counts b.left inner found (found_count inner)
    → IsExpanded (counted_rules rules counts most) (StandsCounted stands) (found_count found) (found_event found) (found_row found) b
expanded_counted rules counts most stands b inner found expanded listed = record {
  keeps = expanded.keeps;
  complete = λ e mid step.
      let was = expanded.complete e mid.state step.0 in
      let spent : Spends (counts (found_event inner was.0)) b.left mid.left = subst (λ (n : ℕ). Spends (counts n) b.left mid.left) (sym was.3) step.1 in
      let k = listed.complete was.0 mid.left was.2 spent in
      (k.0, record { state = was.1; left = mid.left }, k.1.within, k.1.event ∙ was.3, (was.4, refl), (found_row inner was.0, k.1.row, was.5));
  sound = λ k lt.
      let i = listed.sound k lt in
      let to = expanded.sound i.0 i.2 in (
        record { state = to.0; left = i.1 },
        (
          record { state = to.1.0; left = i.1 },
          (subst (λ (n : ℕ). rules.steps n b.state to.1.0) (sym i.4.event) to.1.1, subst (λ (n : ℕ). Spends (counts n) b.left i.1) (sym i.4.event) i.3),
          (to.1.2, refl),
        ),
        (found_row inner i.0, i.4.row, to.2),
      );
}

-- ---- every order within such a number
same_counted : {State : Type 0} (b c : Counted State) → b.state ≡ c.state → b.left ≡ c.left → b ≡ c
same_counted {State} b c state left =
    ap (λ (s : State). record { state = s; left = b.left }) state ∙ ap (λ (n : ℕ). record { state = c.state; left = n }) left

module _ {State Event : Type 0} (does : Event → State → State → Type 0) (counts : Event → Bool) where
  abbrev CountedTo : List Event → State → State → ℕ → Type 0
  CountedTo events b c left = (after : ℕ) × Runs (DoesCounted does counts) events (record { state = b; left = left }) (record { state = c; left = after })

  one_more : (e : Event) (events : List Event) (b mid c : State) (left : ℕ) → does e b mid → (x : Bool) → counts e ≡ x → how_many counts (e ∷ events) ≤ left → ((k : ℕ) → how_many counts events ≤ k → CountedTo events mid c k) → CountedTo (e ∷ events) b c left
  one_more e events b mid c left did true is le on =
      let low : suc (how_many counts events) ≤ left = subst (λ (t : Bool). one_more_if t (how_many counts events) ≤ left) is le in
      let then = on (left - 1) (omega (arith, low)) in
      (then.0, (record { state = mid; left = left - 1 }, (did, subst (λ (t : Bool). Spends t left (left - 1)) (sym is) (omega (arith, low))), then.1))
  one_more e events b mid c left did false is le on =
      let low : how_many counts events ≤ left = subst (λ (t : Bool). one_more_if t (how_many counts events) ≤ left) is le in
      let then = on left low in
      (then.0, (record { state = mid; left = left }, (did, subst (λ (t : Bool). Spends t left left) (sym is) refl), then.1))

  -- so many events lead there, and what they cost was left
  pub counted_run : (events : List Event) (b c : State) (left : ℕ) → Runs does events b c → how_many counts events ≤ left → CountedTo events b c left
  counted_run [] b c left run le = (left, ap (λ (s : State). record { state = s; left = left }) run)
  counted_run (e ∷ events) b c left run le =
      one_more e events b run.0 c left run.1 (counts e) refl le (λ k low. counted_run events run.0 c k run.2 low)

-- ---- local turns
pub chain_counted : {State : Type 0} (local : ℕ → State → State → Type 0) (n : ℕ) (b c : Counted State) → Chain local n b.state c.state → c.left ≡ b.left → Chain (LocalCounted local) n b c
chain_counted local zero b c chain left = same_counted c b chain left
chain_counted {State} local (suc n) b c chain left =
    let mid : Counted State = record { state = chain.1; left = b.left } in
    (chain.0, mid, (chain.2, refl), chain_counted local n mid c chain.3 left)

pub counted_reduction : {State Event : Type 0} (does : Event → State → State → Type 0) (counts : Event → Bool) (turn : ℕ → Event) (ends : State → Type 0) (keeps : Event → State → Type 0) (local : ℕ → State → State → Type 0) → ((p : ℕ) → counts (turn p) ≡ false) → Reduction does turn ends keeps local → Reduction (DoesCounted does counts) turn (λ b. ends b.state) (λ e b. keeps e b.state) (LocalCounted local)
counted_reduction does counts turn ends keeps local free reduction = record {
  turns = λ p b c is. (reduction.turns p b.state c.state is.0, subst (λ (t : Bool). Spends t b.left c.left) (sym (free p)) is.1);
  only = λ p b c d is did. same_counted d c (reduction.only p b.state c.state d.state is.0 did.0) (subst (λ (t : Bool). Spends t b.left d.left) (free p) did.1 ∙ sym is.1);
  own = λ p b c is. reduction.own p b.state c.state is.0;
  moves = λ p b c is end. reduction.moves p b.state c.state is.0 end;
  decides = reduction.decides;
  before = λ p e b c is other kept. reduction.before p e b.state c.state is.0 other kept;
  swaps = λ p e b c d is other kept did.
      let spent : Spends (counts e) c.left d.left = subst (λ (n : ℕ). Spends (counts e) n d.left) (sym is.1) did.1 in
      ⊎_elim
      (λ lost. inl (lost, spent))
      (λ met. inr (record { state = met.0; left = d.left }, (met.1, spent), (met.2, refl)))
      (reduction.swaps p e b.state c.state d.state is.0 other kept did.0);
}
