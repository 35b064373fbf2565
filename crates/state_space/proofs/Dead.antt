-- Rows that reach a goal, and rows that reach none.
use Rattle.std.proofs.Common.{◌≡◌, ⊎_elim, ℕ, ◌+◌, ◌<◌, ◌≤◌, Bool, true, false, ◌||◌, List, [], ◌∷◌, ◌++◌, length, get_or, refl, sym, ap, subst, ◌∙◌, arith, length-append}
use Rattle.std.proofs.{Math.ListN.{set, replicate, length-replicate}, lemmas.Bool.{cases_eq, cases_lt, cases_Bool, true≢false}}
use Rattle.std.proofs.lemmas.List.{get_or-set_other, get_or-replicate, get_or_past}
use Rattle.state_space.specs.{declared.graph.Graph.Graph, Orders.{Runs, Only}, Deads.{IsMarked, Reaches, AreReaching, IsStuck, AreStuck}}
use Rattle.state_space.specs.Graphs.{count_of, expanded_of, first_step, end_step, target_of, event_of, StepOf, IsWhole}
use Rattle.state_space.proofs.{AllOrders.leads_by, Growth.{earlier_one, last_one}}

pub reaches_goal : (goes : ℕ → Type 0) (graph : Graph) (goals : List Bool) (row : ℕ) → get_or goals row false ≡ true → Reaches goes graph goals row
reaches_goal goes graph goals row goal = (row, ([], refl), goal)

pub reaches_by : (goes : ℕ → Type 0) (graph : Graph) (goals marks : List Bool) (row step : ℕ) → AreReaching goes graph goals marks → row < expanded_of graph → first_step graph row ≤ step → step < end_step graph row → goes (event_of graph step) → get_or marks (target_of graph step) false ≡ true → Reaches goes graph goals row
reaches_by goes graph goals marks row step reaching lt from to by marked =
    let on = reaching (target_of graph step) marked in
    (on.0, leads_by (Only (λ i. goes (event_of graph i)) (StepOf graph)) step row (target_of graph step) on.0 (by, (lt, from, to, refl)) on.1, on.2)

pub stuck_made : (goes : ℕ → Type 0) (graph : Graph) (goals marks : List Bool) (row : ℕ) → get_or goals row false ≡ false → ((j : ℕ) → first_step graph row ≤ j → j < end_step graph row → goes (event_of graph j) → get_or marks (target_of graph j) false ≡ true → ⊥) → IsStuck goes graph goals marks row
stuck_made goes graph goals marks row other none = (
  λ goal. let both : true ≡ false = sym goal ∙ other in absurd (cc),
  λ i j step by marked. none i step.1 step.2 by (ap (λ k. get_or marks k false) (sym step.3) ∙ marked),
)

-- a row that is not expanded has no steps
pub stuck_open : (goes : ℕ → Type 0) (graph : Graph) (goals marks : List Bool) (row : ℕ) → get_or goals row false ≡ false → expanded_of graph ≤ row → IsStuck goes graph goals marks row
stuck_open goes graph goals marks row other past = (
  λ goal. let both : true ≡ false = sym goal ∙ other in absurd (cc),
  λ i j step by marked. omega (arith, step.0, past),
)

-- one more that reaches an end is marked
pub reaching_more : (goes : ℕ → Type 0) (graph : Graph) (goals marks : List Bool) (row : ℕ) → AreReaching goes graph goals marks → Reaches goes graph goals row → AreReaching goes graph goals (set marks row true)
reaching_more goes graph goals marks row reaching reaches k marked =
    ⊎_elim
    (λ is. subst (Reaches goes graph goals) (sym is) reaches)
    (λ other. reaching k (sym (get_or-set_other marks row k true false other) ∙ marked))
    (cases_eq k row)

-- none is marked at first
pub reaching_none : (goes : ℕ → Type 0) (graph : Graph) (goals : List Bool) (n : ℕ) → AreReaching goes graph goals (replicate n false)
reaching_none goes graph goals n k marked =
    let both : true ≡ false = sym marked ∙ none k in
    absurd (cc)
  where
    none : (i : ℕ) → get_or (replicate n false) i false ≡ false
    none i = ⊎_elim
        (λ lt. get_or-replicate n i false false lt)
        (λ le. get_or_past (replicate n false) i false (subst (λ m. m ≤ i) (sym (length-replicate n false)) le))
        (cases_lt i n)

-- no step before the next one leads to a row that is marked
pub none_more : (goes : ℕ → Type 0) (graph : Graph) (marks : List Bool) (first step : ℕ) → ((j : ℕ) → first ≤ j → j < step → goes (event_of graph j) → get_or marks (target_of graph j) false ≡ true → ⊥) → (goes (event_of graph step) → get_or marks (target_of graph step) false ≡ true → ⊥) → (j : ℕ) → first ≤ j → j < step + 1 → goes (event_of graph j) → get_or marks (target_of graph j) false ≡ true → ⊥
none_more goes graph marks first step before here j from to =
    ⊎_elim
    (λ less. before j from less)
    (λ last.
    let is : step ≡ j = omega arith in
    subst (λ n. goes (event_of graph n) → get_or marks (target_of graph n) false ≡ true → ⊥) is here)
    (cases_lt j step)

-- a row that reaches a goal is no stuck one, nor is one that it leads to
along : (goes : ℕ → Type 0) (graph : Graph) (goals marks : List Bool) → AreStuck goes graph goals marks → IsWhole graph → length marks ≡ count_of graph → (w : List ℕ) (k last : ℕ) → k < length marks → Runs (Only (λ i. goes (event_of graph i)) (StepOf graph)) w k last → IsMarked goals last → get_or marks k false ≡ false → ⊥
along goes graph goals marks stuck whole each [] k last lt is goal none = (stuck k lt none).0 (subst (IsMarked goals) is goal)
along goes graph goals marks stuck whole each (i ∷ w) k last lt run goal none =
    let step = run.1.1 in
    let within : run.0 < length marks = target_within i k run.0 step in
    ⊎_elim
    (λ marked. (stuck k lt none).1 i run.0 step run.1.0 marked)
    (λ unmarked. along goes graph goals marks stuck whole each w run.0 last within run.2 goal unmarked)
    (cases_Bool (get_or marks run.0 false))
  where
    target_within : (i' k' j' : ℕ) → StepOf graph i' k' j' → j' < length marks
    target_within i' k' j' step' = subst (λ n. j' < n) (sym each) (subst (λ n. n < count_of graph) (sym step'.3) (whole.lead i' (omega (arith, step'.2, whole.within k' step'.0))))

pub dead_row : (goes : ℕ → Type 0) (graph : Graph) (goals marks : List Bool) (k : ℕ) → AreStuck goes graph goals marks → IsWhole graph → length marks ≡ count_of graph → k < length marks → get_or marks k false ≡ false → Reaches goes graph goals k → ⊥
dead_row goes graph goals marks k stuck whole each lt none reaches =
    along goes graph goals marks stuck whole each reaches.1.0 k reaches.0 lt reaches.1.1 reaches.2 none

or_false : (a b : Bool) → (a || b) ≡ false → (a ≡ false) × (b ≡ false)
or_false true b none = absurd (true≢false none)
or_false false b none = (refl, none)

-- one row more is no new one, where none before it was
pub stuck_more : (goes : ℕ → Type 0) (graph : Graph) (goals old new : List Bool) (any marked : Bool) (row : ℕ) → (any ≡ false → (k : ℕ) → k < row → get_or old k false ≡ false → IsStuck goes graph goals old k) → (marked ≡ false → new ≡ old) → (marked ≡ false → get_or old row false ≡ false → IsStuck goes graph goals old row) → (any || marked) ≡ false → (k : ℕ) → k < row + 1 → get_or new k false ≡ false → IsStuck goes graph goals new k
stuck_more goes graph goals old new any marked row before same here none k lt unmarked =
    let both = or_false any marked none in
    let is : new ≡ old = same both.1 in
    let was : get_or old k false ≡ false = ap (λ l. get_or l k false) (sym is) ∙ unmarked in
    subst (λ l. IsStuck goes graph goals l k) (sym is)
    (⊎_elim
    (λ less. before both.0 k less was)
    (λ last.
    let at : k ≡ row = omega arith in
    subst (IsStuck goes graph goals old) (sym at) (here both.1 (ap (λ n. get_or old n false) (sym at) ∙ was)))
    (cases_lt k row))

-- of each mark so far a property holds; with one more it does too
pub marked_more : (P : ℕ → Type 0) (marks : List Bool) (x : Bool) → ((k : ℕ) → get_or marks k false ≡ true → P k) → (x ≡ true → P (length marks)) → (k : ℕ) → get_or (marks ++ x ∷ []) k false ≡ true → P k
marked_more P marks x before last k marked =
    ⊎_elim
    (λ below. before k (sym (earlier_one marks (marks ++ x ∷ []) x false k refl below) ∙ marked))
    (λ past. ⊎_elim
    (λ is. subst P (sym is) (last (sym (last_one marks (marks ++ x ∷ []) x false k refl is) ∙ marked)))
    (λ other.
    let both : true ≡ false = sym marked ∙ get_or_past (marks ++ x ∷ []) k false (omega (arith, past, other, length-append marks (x ∷ []))) in
    absurd (cc))
    (cases_eq k (length marks)))
    (cases_lt k (length marks))
