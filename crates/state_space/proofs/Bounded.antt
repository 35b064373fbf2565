-- A set that is closed within a number of switches speaks of each state that events within it lead to.
use Rattle.std.proofs.Common.{◌≡◌, ⊎_elim, inl, inr, ℕ, zero, suc, ◌+◌, ◌-◌, ◌<◌, ◌≤◌, List, [], ◌∷◌, ◌++◌, Option, Some, None, length, refl, sym, ap, ◌∙◌, subst, arith, length-append}
use Rattle.std.proofs.lemmas.Bool.{cases_eq}
use Rattle.state_space.{specs.Orders.{Leads, Only, Chain, Reduction, CanEnd}, proofs.AllOrders.{leads_by, leads_on}}
use Rattle.state_space.specs.Bounded.{Budget, Turns, Waits, IsFree, Pays, Within, Richer, Switching, IsClosedWithin, MeetsWithin}

-- One step more: a turn of the process that made the last one, or an event that is paid.
pub data Step (Event : Type 0) : Type 0 where
  Own : Step Event
  Other : Event → Step Event

-- how many of them are paid
abbrev pub weight : {Event : Type 0} → List (Step Event) → ℕ
weight [] = 0
weight (Own ∷ steps) = weight steps
weight (Other e ∷ steps) = suc (weight steps)

abbrev pub offer_weight : {Event : Type 0} → Option (Step Event) → ℕ
offer_weight None = 0
offer_weight (Some Own) = 0
offer_weight (Some (Other e)) = 1

abbrev pub offer_length : {Event : Type 0} → Option (Step Event) → ℕ
offer_length None = 0
offer_length (Some step) = 1

weight_on : {Event : Type 0} (u v : List (Step Event)) → weight (u ++ v) ≡ weight u + weight v
weight_on [] v = omega arith
weight_on (Own ∷ u) v = weight_on u v
weight_on (Other e ∷ u) v = omega (arith, weight_on u v)

abbrev owns : {Event : Type 0} → ℕ → List (Step Event)
owns zero = []
owns (suc n) = Own ∷ owns n

weight_owns : (Event : Type 0) (n : ℕ) → weight (owns {Event = Event} n) ≡ 0
weight_owns Event zero = refl
weight_owns Event (suc n) = weight_owns Event n

module _ {State Event : Type 0} (does : Event → State → State → Type 0) (turn : ℕ → Event) (by : Event → Option ℕ) (most : ℕ) where
  abbrev pub Cost : Option ℕ → State → Budget → Budget → Type 0
  Cost who b w v = Pays does turn most who b w v

  abbrev pub Walked : List (Step Event) → State → Budget → State → Budget → Type 0
  Walked [] b w c v = (c ≡ b) × (v ≡ w)
  Walked (Own ∷ steps) b w c v =
      (p : ℕ) × (mid : State) × (w.last ≡ Some p) × does (turn p) b mid × Walked steps mid w c v
  Walked (Other e ∷ steps) b w c v =
      (mid : State) × (m : Budget) × does e b mid × Cost (by e) b w m × Walked steps mid m c v

  walked_on : (u v : List (Step Event)) (b : State) (w : Budget) (c : State) (m : Budget) (d : State) (r : Budget) → Walked u b w c m → Walked v c m d r → Walked (u ++ v) b w d r
  walked_on [] v b w c m d r first then =
      subst (λ x. Walked v x w d r) first.0 (subst (λ x. Walked v c x d r) first.1 then)
  walked_on (Own ∷ u) v b w c m d r first then =
      (first.0, first.1, first.2, first.3, walked_on u v first.1 w c m d r first.4 then)
  walked_on (Other e ∷ u) v b w c m d r first then =
      (first.0, first.1, first.2, first.3, walked_on u v first.0 first.1 c m d r first.4 then)

  turns_on : (n p : ℕ) (b c d : State) → Turns does turn p n b c → does (turn p) c d → Turns does turn p (suc n) b d
  turns_on zero p b c d first did = (d, subst (λ x. does (turn p) x d) first did, refl)
  turns_on (suc n) p b c d first did = (first.0, first.1, turns_on n p first.0 c d first.2 did)

  owned : (n p : ℕ) (b c : State) (w : Budget) → w.last ≡ Some p → Turns does turn p n b c → Walked (owns n) b w c w
  owned zero p b c w is turns = (turns, refl)
  owned (suc n) p b c w is turns = (p, turns.0, is, turns.1, owned n p turns.0 c w is turns.2)

  -- ---- what more switches pay
  richer_pays : (who : Option ℕ) (b : State) (w v u : Budget) → Richer w v → Cost who b v u → (t : Budget) × Cost who b w t × Richer t u
  richer_pays None b w v u rich paid = (
    record { last = None; left = w.left },
    refl,
    (sym (ap (λ (x : Budget). x.last) paid), omega (arith, rich.1, ap (λ (x : Budget). x.left) paid)),
  )
  richer_pays (Some p) b w v u rich paid =
      ⊎_elim
      (λ free. (
        record { last = Some p; left = w.left },
        (refl, inl (subst (λ o. IsFree does turn most o p b) (sym rich.0) free.0, refl)),
        (sym paid.0, omega (arith, rich.1, free.1)),
      ))
      (λ cost. (
        record { last = Some p; left = w.left - 1 },
        (refl, inr (omega (arith, rich.1, cost))),
        (sym paid.0, omega (arith, rich.1, cost)),
      ))
      paid.1

  -- whatever is paid from v can be paid from w, and as much is left
  abbrev Better : State → Budget → Budget → Type 0
  Better b w v = (who : Option ℕ) (u : Budget) → Cost who b v u → (t : Budget) × Cost who b w t × Richer t u

  -- each turn is free from w
  freely : (b : State) (w v : Budget) → v.left ≤ w.left → ((p : ℕ) → IsFree does turn most w.last p b) → Better b w v
  freely b w v le free None u paid = (
    record { last = None; left = w.left },
    refl,
    (sym (ap (λ (x : Budget). x.last) paid), omega (arith, le, ap (λ (x : Budget). x.left) paid)),
  )
  freely b w v le free (Some p) u paid = (
    record { last = Some p; left = w.left },
    (refl, inl (free p, refl)),
    (sym paid.0, ⊎_elim (λ none. omega (arith, le, none.1)) (λ cost. omega (arith, le, cost)) paid.1),
  )

  -- a turn of p was made for one switch
  paying : (b : State) (w v : Budget) → w.left ≡ suc v.left → Better b w v
  paying b w v cost None u paid = (
    record { last = None; left = w.left },
    refl,
    (sym (ap (λ (x : Budget). x.last) paid), omega (arith, cost, ap (λ (x : Budget). x.left) paid)),
  )
  paying b w v cost (Some p) u paid = (
    record { last = Some p; left = v.left },
    (refl, inr cost),
    (sym paid.0, ⊎_elim (λ none. omega (arith, none.1)) (λ more. omega (arith, more)) paid.1),
  )

  -- A turn of p was made at b, before which w was left, and v after it. Where it is made earlier, w is as good as v at c.
  skipped : (p : ℕ) (b c : State) (w v : Budget) → ((g : ℕ) → w.last ≡ Some g → Waits does turn most g b → Waits does turn most g c) → Cost (Some p) b w v → Better c w v
  skipped p b c w v carried paid =
      ⊎_elim (λ free. by_last w.last refl free.0 free.1) (λ cost. paying c w v cost) paid.1
    where
      by_last : (o : Option ℕ) → w.last ≡ o → IsFree does turn most o p b → v.left ≡ w.left → Better c w v
      by_last None is free left =
          freely c w v (omega (arith, left)) (λ h. subst (λ o. IsFree does turn most o h c) (sym is) tt)
      by_last (Some g) is free left =
          ⊎_elim
          (λ same who u pays. richer_pays who c w v u (is ∙ ap (λ (x : ℕ). Some x) same ∙ sym paid.0, omega (arith, left)) pays)
          (λ waits. freely c w v (omega (arith, left)) (λ h. subst (λ o. IsFree does turn most o h c) (sym is) (inr (carried g is waits))))
          free

  -- the same steps from a richer budget
  more : (u : List (Step Event)) (b c : State) (t m r : Budget) → Richer t m → Walked u b m c r → (q : Budget) × Walked u b t c q × Richer q r
  more [] b c t m r rich run = (t, (run.0, refl), subst (λ x. Richer t x) (sym run.1) rich)
  more (Own ∷ u) b c t m r rich run =
      let on = more u run.1 c t m r rich run.4 in
      (on.0, (run.0, run.1, rich.0 ∙ run.2, run.3, on.1), on.2)
  more (Other e ∷ u) b c t m r rich run =
      let paid = richer_pays (by e) b t m run.1 rich run.3 in
      let on = more u run.0 c paid.0 run.1 r paid.2 run.4 in
      (on.0, (run.0, paid.0, run.2, paid.1, on.1), on.2)

  module _ (goes : Event → Type 0) (ends : State → Type 0) (keeps : Event → State → Type 0) (set : State → Budget → Type 0) where
    pub record Joined (z : State) : Type 0 where
      pub joins : (x : State) × Leads (Only goes does) z x × ((v : Budget) × set x v)
      pub ended : ends z → (v : Budget) × set z v

    -- what is claimed of a state, and of the step that is offered there
    abbrev pub Claim : State → Budget → Option (Step Event) → Type 0
    Claim z w None = Joined z
    Claim z w (Some Own) = (p : ℕ) → w.last ≡ Some p → keeps (turn p) z
    Claim z w (Some (Other e)) = (v : Budget) → Cost (by e) z w v → keeps e z

    poorer : (z : State) (q r : Budget) (o : Option (Step Event)) → Richer q r → Claim z q o → Claim z r o
    poorer z q r None rich claim = claim
    poorer z q r (Some Own) rich claim = λ p is. claim p (rich.0 ∙ is)
    poorer z q r (Some (Other e)) rich claim =
        λ v paid. let pays = richer_pays (by e) z q r v rich paid in claim pays.0 pays.1

    -- the rest of an order, once the turn of p before it was made earlier
    pub record Rest (v : List (Step Event)) (o : Option (Step Event)) (y z : State) (w r : Budget) : Type 0 where
      pub steps : List (Step Event)
      pub offer : Option (Step Event)
      pub left : Budget
      pub walked : Walked steps y w z left
      pub claimed : Claim z left offer → Claim z r o
      pub weighs : weight steps + offer_weight offer ≤ suc (weight v + offer_weight o)
      pub as_long : length steps + offer_length offer ≡ length v + offer_length o

    rest_offered : ((p : ℕ) → by (turn p) ≡ Some p) → (o : Option (Step Event)) (z : State) (w m : Budget) → Better z w m → Rest [] o z z w m
    rest_offered whose None z w m better = record {
      steps = [];
      offer = None;
      left = w;
      walked = (refl, refl);
      claimed = λ claim. claim;
      weighs = omega arith;
      as_long = refl;
    }
    rest_offered whose (Some Own) z w m better = by_last m.last refl
      where
        by_last : (l : Option ℕ) → m.last ≡ l → Rest [] (Some Own) z z w m
        by_last None is = record {
          steps = [];
          offer = Some Own;
          left = w;
          walked = (refl, refl);
          claimed = λ claim p was. let e = sym is ∙ was in absurd (cc);
          weighs = omega arith;
          as_long = refl;
        }
        by_last (Some g) is =
            let paid = better (Some g) m (is, inl (subst (λ o. IsFree does turn most o g z) (sym is) (inl refl), refl)) in
            record {
              steps = [];
              offer = Some (Other (turn g));
              left = w;
              walked = (refl, refl);
              claimed = λ claim p was.
                  let same : g ≡ p = (let e : Some g ≡ Some p = sym is ∙ was in cc) in
                  subst (λ x. keeps (turn x) z) same
                  (claim paid.0 (subst (λ x. Cost x z w paid.0) (sym (whose g)) paid.1));
              weighs = omega arith;
              as_long = refl;
            }
    rest_offered whose (Some (Other e)) z w m better = record {
      steps = [];
      offer = Some (Other e);
      left = w;
      walked = (refl, refl);
      claimed = λ claim v paid. let pays = better (by e) v paid in claim pays.0 pays.1;
      weighs = omega arith;
      as_long = refl;
    }

    rest : ((p : ℕ) → by (turn p) ≡ Some p) → (v : List (Step Event)) (o : Option (Step Event)) (y z : State) (w m r : Budget) → Better y w m → Walked v y m z r → Rest v o y z w r
    rest whose [] o y z w m r better run =
        subst (λ x. Rest [] o y x w r) (sym run.0)
        (subst (λ x. Rest [] o y y w x) (sym run.1) (rest_offered whose o y w m better))
    rest whose (Own ∷ v) o y z w m r better run =
        let paid = better (Some run.0) m (run.2, inl (subst (λ l. IsFree does turn most l run.0 y) (sym run.2) (inl refl), refl)) in
        let on = more v run.1 z paid.0 m r paid.2 run.4 in
        record {
          steps = Other (turn run.0) ∷ v;
          offer = o;
          left = on.0;
          walked = (run.1, paid.0, run.3, subst (λ x. Cost x y w paid.0) (sym (whose run.0)) paid.1, on.1);
          claimed = poorer z on.0 r o on.2;
          weighs = omega arith;
          as_long = refl;
        }
    rest whose (Other e ∷ v) o y z w m r better run =
        let paid = better (by e) run.1 run.3 in
        let on = more v run.0 z paid.0 run.1 r paid.2 run.4 in
        record {
          steps = Other e ∷ v;
          offer = o;
          left = on.0;
          walked = (run.0, paid.0, run.2, paid.1, on.1);
          claimed = poorer z on.0 r o on.2;
          weighs = omega arith;
          as_long = refl;
        }

    module _ (local : ℕ → State → State → Type 0) (reduction : Reduction does turn ends keeps local) (off : State → Type 0) (switching : Switching does turn keeps local by off) (turns_go : (p : ℕ) → goes (turn p)) where
      same_after : (p : ℕ) (e : Event) (b c d : State) → local p b c → e ≡ turn p → does e b d → d ≡ c
      same_after p e b c d is_local is did = reduction.only p b c d is_local (subst (λ x. does x b d) is did)

      off_stays : (n p : ℕ) (b c : State) → off b → Turns does turn p n b c → off c
      off_stays zero p b c is turns = subst off (sym turns) is
      off_stays (suc n) p b c is turns = off_stays n p turns.0 c (switching.stays p b turns.0 is turns.1) turns.2

      -- a process that waits before its local turn waits after it
      rotated : (p : ℕ) (b c : State) → local p b c → Waits does turn most p b → Waits does turn most p c
      rotated p b c is_local waits =
          let first = waits.2 in
          let is : first.0 ≡ c = reduction.only p b c first.0 is_local first.1 in
          (waits.0, waits.1, turns_on waits.0 p c b c (subst (λ x. Turns does turn p waits.0 x b) is first.2) (reduction.turns p b c is_local))

      keeps_before : (p : ℕ) (e : Event) (b c : State) → local p b c → keeps e c → keeps e b
      keeps_before p e b c is_local kept =
          ⊎_elim (λ is. subst (λ x. keeps x b) (sym is) (reduction.own p b c is_local)) (λ other. reduction.before p e b c is_local other kept) (reduction.decides p e)

      -- ---- a walk along an order from s, which begins after a local turn
      module _ (k l p : ℕ) (s : State) (w0 : Budget) (inner : (u : List (Step Event)) (o : Option (Step Event)) (z : State) (r : Budget) → weight u + offer_weight o < suc k → length u + offer_length o < suc l → Walked u s w0 z r → Claim z r o) (tails : (u : List (Step Event)) (o : Option (Step Event)) (z : State) (r : Budget) → weight u + offer_weight o < k → Walked u s w0 z r → Claim z r o) where
        module _ (u : List (Step Event)) (b c : State) (m : Budget) (light : weight u < k) (run : Walked u s w0 c m) (is_local : local p b c) where
          -- another process that waits before the local turn waits after it
          module _ (g : ℕ) (is : m.last ≡ Some g) (apart : g ≡ p → ⊥) where
            mirror : (n t : ℕ) (x y : State) → local p x y → Turns does turn g t c y → Turns does turn g n x b → (z : State) × Turns does turn g n y z × local p b z
            mirror zero t x y there turns back = (y, refl, subst (λ i. local p i y) (sym back) there)
            mirror (suc n) t x y there turns back =
                let kept : keeps (turn g) y = tails (u ++ owns t) (Some Own) y m (omega (arith, light, weight_on u (owns t), weight_owns Event t)) (walked_on u (owns t) s w0 c m y m run (owned t g c y m is turns)) g is in
                ⊎_elim
                (λ merged. absurd (switching.is_on p b c is_local (off_stays n g back.0 b merged.1 back.2)))
                (λ swapped.
                let on = mirror n (suc t) back.0 swapped.0 swapped.2 (turns_on t g c y swapped.0 turns swapped.1) back.2 in
                (on.0, (swapped.0, swapped.1, on.1), on.2))
                (switching.swaps p (turn g) x y back.0 there (λ e. apart (other_turn e)) kept back.1)
              where
                other_turn : turn g ≡ turn p → g ≡ p
                other_turn e = let same : Some g ≡ Some p = sym (switching.whose g) ∙ ap by e ∙ switching.whose p in cc

          carried : (g : ℕ) → m.last ≡ Some g → Waits does turn most g b → Waits does turn most g c
          carried g is waits =
              ⊎_elim
              (λ same. subst (λ x. Waits does turn most x c) (sym same) (rotated p b c is_local (subst (λ x. Waits does turn most x b) same waits)))
              (λ apart.
              let back = mirror g is apart (suc waits.0) zero b c is_local refl waits.2 in
              let is_c : back.0 ≡ c = reduction.only p b c back.0 is_local (reduction.turns p b back.0 back.2) in
              (waits.0, waits.1, subst (λ x. Turns does turn g (suc waits.0) c x) is_c back.1))
              (cases_eq g p)

          free_carried : (o : Option ℕ) (h : ℕ) → m.last ≡ o → IsFree does turn most o h b → IsFree does turn most o h c
          free_carried None h is free = tt
          free_carried (Some g) h is free = ⊎_elim (λ same. inl same) (λ waits. inr (carried g is waits)) free

          paid_after : (who : Option ℕ) (v : Budget) → Cost who b m v → Cost who c m v
          paid_after None v paid = paid
          paid_after (Some h) v paid =
              (paid.0, ⊎_elim (λ free. inl (free_carried m.last h refl free.0, free.1)) (λ cost. inr cost) paid.1)

        claim_before : (u : List (Step Event)) (o : Option (Step Event)) (b c : State) (m : Budget) → weight u + offer_weight o < suc k → Walked u s w0 c m → local p b c → Claim c m o → Claim b m o
        claim_before u None b c m light run is_local claim = record {
          joins = (claim.joins.0, leads_by (Only goes does) (turn p) b c claim.joins.0 (turns_go p, reduction.turns p b c is_local) claim.joins.1, claim.joins.2);
          ended = λ end. absurd (reduction.moves p b c is_local end);
        }
        claim_before u (Some Own) b c m light run is_local claim =
            λ g is. keeps_before p (turn g) b c is_local (claim g is)
        claim_before u (Some (Other e)) b c m light run is_local claim =
            λ v paid.
            keeps_before p e b c is_local (claim v (paid_after u b c m (omega (arith, light)) run is_local (by e) v paid))

        walk : (v u : List (Step Event)) (o : Option (Step Event)) (b c z : State) (m r : Budget) → weight u + (weight v + offer_weight o) < suc k → length u + (length v + offer_length o) < suc l → Walked u s w0 c m → local p b c → Walked v b m z r → Claim z r o
        walk [] u o b c z m r light short run is_local left =
            subst (λ x. Claim x r o) (sym left.0)
            (subst (λ x. Claim b x o) (sym left.1)
            (claim_before u o b c m (omega (arith, light)) run is_local (inner u o c m (omega (arith, light)) (omega (arith, short)) run)))
        walk (Own ∷ v) u o b c z m r light short run is_local left =
            ⊎_elim
            (λ is. inner (u ++ v) o z r (omega (arith, light, weight_on u v)) (omega (arith, short, length-append u v))
            (walked_on u v s w0 c m z r run
            (subst (λ x. Walked v x m z r) (same_after p (turn left.0) b c left.1 is_local is left.3) left.4)))
            (λ other. ⊎_elim
            (λ merged. inner (u ++ Own ∷ v) o z r (omega (arith, light, weight_on u (Own ∷ v))) (omega (arith, short, length-append u (Own ∷ v)))
            (walked_on u (Own ∷ v) s w0 c m z r run (left.0, left.1, left.2, merged.0, left.4)))
            (λ swapped. walk v (u ++ Own ∷ []) o left.1 swapped.0 z m r (omega (arith, light, weight_on u (Own ∷ []))) (omega (arith, short, length-append u (Own ∷ [])))
            (walked_on u (Own ∷ []) s w0 c m swapped.0 m run (left.0, swapped.0, left.2, swapped.1, (refl, refl)))
            swapped.2 left.4)
            (switching.swaps p (turn left.0) b c left.1 is_local other
            (inner u (Some Own) c m (omega (arith, light)) (omega (arith, short)) run left.0 left.2)
            left.3))
            (reduction.decides p (turn left.0))
        walk (Other e ∷ v) u o b c z m r light short run is_local left =
            ⊎_elim
            (λ is.
            let paid : Cost (Some p) b m left.1 = subst (λ x. Cost x b m left.1) (ap by is ∙ switching.whose p) left.3 in
            let then = rest switching.whose v o c z m left.1 r (skipped p b c m left.1 (carried u b c m (omega (arith, light)) run is_local) paid) (subst (λ x. Walked v x left.1 z r) (same_after p e b c left.0 is_local is left.2) left.4) in
            then.claimed
            (inner (u ++ then.steps) then.offer z then.left (omega (arith, light, weight_on u then.steps, then.weighs)) (omega (arith, short, length-append u then.steps, then.as_long))
            (walked_on u then.steps s w0 c m z then.left run then.walked)))
            (λ other.
            let paid = paid_after u b c m (omega (arith, light)) run is_local (by e) left.1 left.3 in
            ⊎_elim
            (λ merged. inner (u ++ Other e ∷ v) o z r (omega (arith, light, weight_on u (Other e ∷ v))) (omega (arith, short, length-append u (Other e ∷ v)))
            (walked_on u (Other e ∷ v) s w0 c m z r run (left.0, left.1, merged.0, paid, left.4)))
            (λ swapped. walk v (u ++ Other e ∷ []) o left.0 swapped.0 z left.1 r (omega (arith, light, weight_on u (Other e ∷ []))) (omega (arith, short, length-append u (Other e ∷ [])))
            (walked_on u (Other e ∷ []) s w0 c m swapped.0 left.1 run (swapped.0, left.1, swapped.1, paid, (refl, refl)))
            swapped.2 left.4)
            (switching.swaps p e b c left.0 is_local other
            (inner u (Some (Other e)) c m (omega (arith, light)) (omega (arith, short)) run left.1 paid)
            left.2))
            (reduction.decides p e)

      module _ (closed : IsClosedWithin does turn by most keeps local set) where
        -- all orders of fewer paid steps, and of fewer steps, from a state that so many local turns lead from into the set
        abbrev Below : ℕ → ℕ → ℕ → Type 0
        Below k l n =
            (u : List (Step Event)) (o : Option (Step Event)) (b d z : State) (w v r : Budget) → weight u + offer_weight o < k → length u + offer_length o < l → Chain local n b d → set d v → Richer v w → Walked u b w z r → Claim z r o

        own_free : (p : ℕ) (d : State) (w v : Budget) → Richer v w → w.last ≡ Some p → Cost (Some p) d v v
        own_free p d w v rich is =
            let last : v.last ≡ Some p = rich.0 ∙ is in
            (last, inl (subst (λ o. IsFree does turn most o p d) (sym last) (inl refl), refl))

        in_set : (o : Option (Step Event)) (d : State) (w v : Budget) → set d v → Richer v w → Claim d w o
        in_set None d w v has rich = record { joins = (d, ([], refl), (v, has)); ended = λ end. (v, has) }
        in_set (Some Own) d w v has rich =
            λ p is. (closed d v has (turn p) v (subst (λ x. Cost x d v v) (sym (switching.whose p)) (own_free p d w v rich is))).0
        in_set (Some (Other e)) d w v has rich =
            λ t paid. let pays = richer_pays (by e) d v w t rich paid in (closed d v has e pays.0 pays.1).0

        from_set : (k l : ℕ) → ((n : ℕ) → Below k l n) → Below k (suc l) zero
        from_set k l shorter [] o b d z w v r light short is has rich run =
            subst (λ x. Claim x r o) (sym run.0)
            (subst (λ x. Claim b x o) (sym run.1) (in_set o b w v (subst (λ x. set x v) is has) rich))
        from_set k l shorter (Own ∷ u) o b d z w v r light short is has rich run =
            let at = subst (λ x. set x v) is has in
            let next = (closed b v at (turn run.0) v (subst (λ x. Cost x b v v) (sym (switching.whose run.0)) (own_free run.0 b w v rich run.2))).1 run.1 run.3 in
            shorter next.0 u o run.1 next.1 z w next.2 r (omega (arith, light)) (omega (arith, short)) next.3 next.4 (next.5.0 ∙ rich.0, omega (arith, next.5.1, rich.1)) run.4
        from_set k l shorter (Other e ∷ u) o b d z w v r light short is has rich run =
            let at = subst (λ x. set x v) is has in
            let pays = richer_pays (by e) b v w run.1 rich run.3 in
            let next = (closed b v at e pays.0 pays.1).1 run.0 run.2 in
            shorter next.0 u o run.0 next.1 z run.1 next.2 r (omega (arith, light)) (omega (arith, short)) next.3 next.4 (next.5.0 ∙ pays.2.0, omega (arith, next.5.1, pays.2.1)) run.4

        level : (k l : ℕ) → ((i n : ℕ) → Below k i n) → ((n : ℕ) → Below (suc k) l n) → (n : ℕ) → Below (suc k) (suc l) n
        level k l lighter shorter zero u o b d z w v r light short chain has rich run =
            from_set (suc k) l shorter u o b d z w v r light short chain has rich run
        level k l lighter shorter (suc n) u o b d z w v r light short chain has rich run =
            walk k l chain.0 chain.1 w
            (λ x y c q less fewer ran. level k l lighter shorter n x y chain.1 d c w v q less fewer chain.3 has rich ran)
            (λ x y c q less ran. lighter (suc (length x + offer_length y)) n x y chain.1 d c w v q less (omega arith) chain.3 has rich ran)
            u [] o b chain.1 z w r (omega (arith, light)) (omega (arith, short)) (refl, refl) chain.2 run

        by_length : (k : ℕ) → ((i n : ℕ) → Below k i n) → (l n : ℕ) → Below (suc k) l n
        by_length k lighter zero n u o b d z w v r light short chain has rich run = absurd (omega (arith, short))
        by_length k lighter (suc l) n u o b d z w v r light short chain has rich run =
            level k l lighter (by_length k lighter l) n u o b d z w v r light short chain has rich run

        below : (k l n : ℕ) → Below k l n
        below zero l n u o b d z w v r light short chain has rich run = absurd (omega (arith, light))
        below (suc k) l n u o b d z w v r light short chain has rich run =
            by_length k (below k) l n u o b d z w v r light short chain has rich run

        abbrev paid_steps : List Event → List (Step Event)
        paid_steps [] = []
        paid_steps (e ∷ events) = Other e ∷ paid_steps events

        walked_within : (events : List Event) (b c : State) (w r : Budget) → Within does turn by most events b w c r → Walked (paid_steps events) b w c r
        walked_within [] b c w r run = run
        walked_within (e ∷ events) b c w r run =
            (run.0, run.1, run.2, run.3, walked_within events run.0 c run.1 r run.4)

        pub bounded_orders : (n : ℕ) (start first last : State) (w v r : Budget) (events : List Event) → Chain local n start first → set first v → Richer v w → Within does turn by most events start w last r → MeetsWithin does turn by most goes ends keeps set last r
        bounded_orders n start first last w v r events chain has rich run =
            let steps = paid_steps events in
            let claim : (o : Option (Step Event)) → Claim last r o = λ o. below (suc (weight steps + offer_weight o)) (suc (length steps + offer_length o)) n steps o start first last w v r (omega arith) (omega arith) chain has rich (walked_within events start last w r run) in
            let joined = claim None in
            record {
              kept = λ e t paid. claim (Some (Other e)) t paid;
              joins = joined.joins;
              ended = joined.ended;
            }

-- where each state of the set can end, so can one of which the set speaks
pub can_end_within : {State Event : Type 0} (does : Event → State → State → Type 0) (turn : ℕ → Event) (by : Event → Option ℕ) (most : ℕ) (goes : Event → Type 0) (ends : State → Type 0) (keeps : Event → State → Type 0) (set : State → Budget → Type 0) → ((x : State) (u : Budget) → set x u → CanEnd does goes ends x) → (z : State) (r : Budget) → MeetsWithin does turn by most goes ends keeps set z r → CanEnd does goes ends z
can_end_within does turn by most goes ends keeps set each z r met =
    let last = each met.joins.0 met.joins.2.0 met.joins.2.1 in
    (last.0, leads_on (Only goes does) z met.joins.0 last.0 met.joins.1 last.1, last.2)
