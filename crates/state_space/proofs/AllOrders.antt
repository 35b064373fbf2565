-- A set that is closed but for local turns speaks of each state that any events lead to.
use Rattle.std.proofs.Common.{⊎_elim, ℕ, zero, suc, ◌+◌, ◌<◌, List, [], ◌∷◌, ◌++◌, length, refl, sym, ap, subst, arith, length-append}
use Rattle.state_space.specs.Orders.{Runs, Leads, Only, Chain, Reduction, IsClosed, Meets, CanEnd}

pub runs_on : {State Event : Type 0} (does : Event → State → State → Type 0) (u v : List Event) (b c d : State) → Runs does u b c → Runs does v c d → Runs does (u ++ v) b d
runs_on does [] v b c d first then = subst (λ x. Runs does v x d) first then
runs_on does (e ∷ u) v b c d first then = (first.0, first.1, runs_on does u v first.0 c d first.2 then)

pub leads_on : {State Event : Type 0} (does : Event → State → State → Type 0) (b c d : State) → Leads does b c → Leads does c d → Leads does b d
leads_on does b c d first then = (first.0 ++ then.0, runs_on does first.0 then.0 b c d first.1 then.1)

-- one event more
pub leads_by : {State Event : Type 0} (does : Event → State → State → Type 0) (e : Event) (b c d : State) → does e b c → Leads does c d → Leads does b d
leads_by does e b c d did then = (e ∷ then.0, (c, did, then.1))

-- where each step of one kind is some events of another, so is each list of such steps
pub leads_lifted : {State Event Step : Type 0} (does : Event → State → State → Type 0) (steps : Step → State → State → Type 0) → ((s : Step) (b c : State) → steps s b c → Leads does b c) → (w : List Step) (b c : State) → Runs steps w b c → Leads does b c
leads_lifted does steps lift [] b c run = ([], run)
leads_lifted does steps lift (s ∷ w) b c run =
    leads_on does b run.0 c (lift s b run.0 run.1) (leads_lifted does steps lift w run.0 c run.2)

-- the same events, of what is looked at of each state
pub runs_along : {A B Event : Type 0} (does : Event → A → A → Type 0) (seen : Event → B → B → Type 0) (look : A → B) → ((e : Event) (b c : A) → does e b c → seen e (look b) (look c)) → (w : List Event) (b c : A) → Runs does w b c → Runs seen w (look b) (look c)
runs_along does seen look each [] b c is = ap look is
runs_along does seen look each (e ∷ w) b c run =
    (look run.0, each e b run.0 run.1, runs_along does seen look each w run.0 c run.2)

module _ {State Event : Type 0} (does : Event → State → State → Type 0) (turn : ℕ → Event) (ends : State → Type 0) (keeps : Event → State → Type 0) (local : ℕ → State → State → Type 0) (reduction : Reduction does turn ends keeps local) where
  -- local turns are events
  pub chain_leads : (n : ℕ) (b c : State) → Chain local n b c → Leads does b c
  chain_leads zero b c chain = ([], chain)
  chain_leads (suc n) b c chain =
      leads_by does (turn chain.0) b chain.1 c (reduction.turns chain.0 b chain.1 chain.2) (chain_leads n chain.1 c chain.3)

  module _ (goes : Event → Type 0) (turns_go : (p : ℕ) → goes (turn p)) (set : State → Type 0) (closed : IsClosed does keeps local set) where
    -- all words of fewer events than that, from a state that so many local turns lead from into the set
    abbrev pub Below : ℕ → ℕ → Type 0
    Below l n =
        (w : List Event) (b d z : State) → length w < l → Chain local n b d → set d → Runs does w b z
        → Meets does goes ends keeps set z

    in_set : (z : State) → set z → Meets does goes ends keeps set z
    in_set z has = record {
      kept = λ e. (closed z has e).0;
      joins = (z, ([], refl), has);
      ended = λ _. has;
    }

    -- what holds after a local turn holds before it
    met_before : (p : ℕ) (b c : State) → local p b c → Meets does goes ends keeps set c → Meets does goes ends keeps set b
    met_before p b c is_local met = record {
      kept = λ e. ⊎_elim (λ is. subst (λ x. keeps x b) (sym is) (reduction.own p b c is_local)) (λ other. reduction.before p e b c is_local other (met.kept e)) (reduction.decides p e);
      joins = (met.joins.0, leads_by (Only goes does) (turn p) b c met.joins.0 (turns_go p, reduction.turns p b c is_local) met.joins.1, met.joins.2);
      ended = λ end. absurd (reduction.moves p b c is_local end);
    }

    -- From a local turn's state: the events u were walked along, before the turn to b and after it to c, and v are left.
    walk : (l p : ℕ) (s : State) → ((w : List Event) (z : State) → length w < l → Runs does w s z → Meets does goes ends keeps set z) → (v u : List Event) (b c z : State) → length u + length v < l → Runs does u s c → local p b c → Runs does v b z → Meets does goes ends keeps set z
    walk l p s inner [] u b c z lt run is_local is =
        subst (λ x. Meets does goes ends keeps set x) (sym is)
        (met_before p b c is_local (inner u c (omega arith) run))
    walk l p s inner (e ∷ v) u b c z lt run is_local left =
        ⊎_elim
        (λ is. inner (u ++ v) z (omega (arith, length-append u v))
        (runs_on does u v s c z run
        (subst (λ x. Runs does v x z)
        (reduction.only p b c left.0 is_local (subst (λ x. does x b left.0) is left.1))
        left.2)))
        (λ other. ⊎_elim
        (λ meets. inner (u ++ e ∷ v) z (omega (arith, length-append u (e ∷ v)))
        (runs_on does u (e ∷ v) s c z run (left.0, meets, left.2)))
        (λ swapped. walk l p s inner v (u ++ e ∷ []) left.0 swapped.0 z (omega (arith, length-append u (e ∷ [])))
        (runs_on does u (e ∷ []) s c swapped.0 run (swapped.0, swapped.1, refl))
        swapped.2 left.2)
        (reduction.swaps p e b c left.0 is_local other ((inner u c (omega arith) run).kept e) left.1))
        (reduction.decides p e)

    from_set : (l : ℕ) → ((n : ℕ) → Below l n) → Below (suc l) zero
    from_set l smaller [] b d z lt is has run = in_set z (subst set (sym run) (subst set is has))
    from_set l smaller (e ∷ w) b d z lt is has run =
        let next = (closed b (subst set is has) e).1 run.0 run.1 in
        smaller next.0 w run.0 next.1 z (omega arith) next.2 next.3 run.2

    level : (l : ℕ) → ((n : ℕ) → Below l n) → (n : ℕ) → Below (suc l) n
    level l smaller zero w b d z lt chain has run = from_set l smaller w b d z lt chain has run
    level l smaller (suc n) w b d z lt chain has run =
        walk (suc l) chain.0 chain.1
        (λ u y less ran. level l smaller n u chain.1 d y less chain.3 has ran)
        w [] b chain.1 z (omega arith) refl chain.2 run

    below : (l n : ℕ) → Below l n
    below zero n w b d z lt chain has run = absurd (omega arith)
    below (suc l) n w b d z lt chain has run = level l (below l) n w b d z lt chain has run

    pub all_orders : (n : ℕ) (start first last : State) (events : List Event) → Chain local n start first → set first → Runs does events start last → Meets does goes ends keeps set last
    all_orders n start first last events chain has run =
        below (suc (length events)) n events start first last (omega arith) chain has run

-- where each state of the set can end, so can one of which the set speaks
pub can_end : {State Event : Type 0} (does : Event → State → State → Type 0) (goes : Event → Type 0) (ends : State → Type 0) (keeps : Event → State → Type 0) (set : State → Type 0) → ((x : State) → set x → CanEnd does goes ends x) → (z : State) → Meets does goes ends keeps set z → CanEnd does goes ends z
can_end does goes ends keeps set each z met =
    let last = each met.joins.0 met.joins.2 in
    (last.0, leads_on (Only goes does) z met.joins.0 last.0 met.joins.1 last.1, last.2)
