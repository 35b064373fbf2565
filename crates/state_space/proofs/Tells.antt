-- What a graph that is all expanded tells of the states.
use Rattle.std.proofs.Common.{◌≡◌, ⊎_elim, ℕ, zero, suc, ◌+◌, ◌-◌, ◌<◌, List, [], ◌∷◌, map, refl, sym, ap, subst, ◌∙◌, arith}
use Rattle.std.proofs.lemmas.Bool.{cases_lt}
use Rattle.state_space.specs.{declared.graph.Graph.Graph, Orders.{Runs, Leads, Only, Chain, IsClosed, CanEnd}, Systems.{Rules, Moves}}
use Rattle.state_space.specs.Graphs.{count_of, expanded_of, row_at, first_step, end_step, target_of, event_of, StepOf, IsEnd, IsSearched, IsFound, IsCovered, IsEndless}
use Rattle.state_space.{specs.{Deads.ReachesEnd, Ways.IsWay}, proofs.AllOrders.{leads_on, leads_by}}

module _ {State : Type 0} (rules : Rules State) (stands : List ℕ → State → Type 0) (graph : Graph) (searched : IsSearched rules stands graph) where
  -- a step of the graph is a move of the state
  pub stepped : (i j k : ℕ) (b : State) → StepOf graph i j k → stands (row_at graph j) b → (to : State) × Moves rules (event_of graph i) b to × stands (row_at graph k) to
  stepped i j k b step has =
      let at : first_step graph j + (i - first_step graph j) ≡ i = omega (arith, step.1) in
      let to = (searched.expanded j b step.0 has).sound (i - first_step graph j) (omega (arith, step.1, step.2)) in (
        to.0,
        subst (λ n. Moves rules (event_of graph n) b to.0) at to.1,
        subst (λ n. stands (row_at graph n) to.0) (ap (target_of graph) at ∙ sym step.3) to.2,
      )

  -- so some steps are moves by their events
  steps_move : (w : List ℕ) (k last : ℕ) (b : State) → Runs (StepOf graph) w k last → stands (row_at graph k) b → (c : State) × Runs (Moves rules) (map (event_of graph) w) b c × stands (row_at graph last) c
  steps_move [] k last b is has = (b, refl, subst (λ n. stands (row_at graph n) b) (sym is) has)
  steps_move (i ∷ w) k last b run has =
      let to = stepped i k run.0 b run.1 has in
      let on = steps_move w run.0 last to.0 run.2 to.2 in
      (on.0, (to.0, to.1, on.1), on.2)

  -- and a way to a row leads to its state
  pub way_moves : (way : List ℕ) (row : ℕ) → IsWay graph way row → (first : State) × (b : State) × rules.settles rules.start first × Runs (Moves rules) way first b × stands (row_at graph row) b
  way_moves way row is =
      let first = searched.start in
      let to = steps_move is.0 0 row first.0 is.1 first.2 in
      (first.0, to.0, first.1, subst (λ w. Runs (Moves rules) w first.0 to.0) is.2 to.1, to.2)

  -- each step of the state of an expanded row is one of the graph
  pub stepped_out : (k : ℕ) (b : State) → k < expanded_of graph → stands (row_at graph k) b → (e : ℕ) (mid : State) → rules.steps e b mid → (i : ℕ) × (j : ℕ) × (to : State) × StepOf graph i k j × (event_of graph i ≡ e) × (j < count_of graph) × rules.settles mid to × stands (row_at graph j) to
  stepped_out k b expanded has e mid did =
      let was = (searched.expanded k b expanded has).complete e mid did in
      let i : ℕ = first_step graph k + was.0 in
      let within : i < end_step graph k = omega (arith, was.2) in
      (i, target_of graph i, was.1, (expanded, omega arith, within, refl), was.3, searched.whole.lead i (omega (arith, searched.whole.within k expanded)), was.4, was.5)

  abbrev IsReached : ℕ → Type 0
  IsReached k = (b : State) × stands (row_at graph k) b × Leads (Moves rules) searched.start.0 b

  reach_below : (n k : ℕ) → k < n → k < count_of graph → IsReached k
  reach_below zero k lt within = absurd (omega arith)
  reach_below (suc n) k lt within =
      ⊎_elim
      (λ some.
      let from = searched.reached k within some in
      let before = reach_below n from.0 (omega (arith, from.1)) (omega (arith, from.1)) in
      let to = stepped from.2.0 from.0 k before.0 from.2.1 before.1 in (
        to.0,
        to.2,
        leads_on (Moves rules) searched.start.0 before.0 to.0 before.2 (event_of graph from.2.0 ∷ [], (to.0, to.1, refl)),
      ))
      (λ none.
      let is : k ≡ 0 = omega arith in
      subst IsReached (sym is) (searched.start.0, searched.start.2, ([], refl)))
      (cases_lt 0 k)

  -- some state of each row is reached from the start
  pub row_reached : (k : ℕ) → k < count_of graph → IsReached k
  row_reached k within = reach_below (suc k) k (omega arith) within

  -- where steps lead from a row to one of a kind, whose states are of another, moves lead from its state to such a state
  pub kind_reached : (Row : ℕ → Type 0) (Is : State → Type 0) → ((m : ℕ) (c : State) → Row m → stands (row_at graph m) c → Is c) → (k : ℕ) (b : State) → CanEnd (StepOf graph) (λ i. rules.goes (event_of graph i)) Row k → stands (row_at graph k) b → CanEnd (Moves rules) rules.goes Is b
  kind_reached Row Is each k b reaches has = along reaches.1.0 k b reaches.0 reaches.1.1 reaches.2 has
    where
      along : (w : List ℕ) (k : ℕ) (b : State) (last : ℕ) → Runs (Only (λ i. rules.goes (event_of graph i)) (StepOf graph)) w k last → Row last → stands (row_at graph k) b → CanEnd (Moves rules) rules.goes Is b
      along [] k b last is end has = (b, ([], refl), each k b (subst Row is end) has)
      along (i ∷ w) k b last run end has =
          let to = stepped i k run.0 b run.1.1 has in
          let on = along w run.0 to.0 last run.2 end to.2 in
          (on.0, leads_by (Only rules.goes (Moves rules)) (event_of graph i) b to.0 on.0 (run.1.0, to.1) on.1, on.2)

  -- where a row reaches an end, so does its state
  pub end_reached : (k : ℕ) (b : State) → ReachesEnd rules.goes graph k → stands (row_at graph k) b → CanEnd (Moves rules) rules.goes rules.is_end b
  end_reached k b reaches has =
      kind_reached (IsEnd graph) rules.is_end (λ m c end at. (searched.ends m c end.0 at).0 end) k b reaches has

  module _ (all : expanded_of graph ≡ count_of graph) where
    -- A set of rows from which each step of a kind leads back into it makes a set of states that is closed under such steps.
    pub covered_by : (kind set : ℕ → Type 0) → ((i j k : ℕ) → set j → StepOf graph i j k → kind (event_of graph i) → set k) → (b : State) → (k : ℕ) × (k < count_of graph) × set k × stands (row_at graph k) b → rules.keeps b × ((e : ℕ) (mid : State) → kind e → rules.steps e b mid → (to : State) × rules.settles mid to × ((k : ℕ) × (k < count_of graph) × set k × stands (row_at graph k) to))
    covered_by kind set closed b found =
        let k : ℕ = found.0 in
        let expanded : k < expanded_of graph = omega (arith, found.1, all) in
        let here = searched.expanded k b expanded found.3 in (
          here.keeps,
          λ e mid is_kind did.
              let out = stepped_out k b expanded found.3 e mid did in
              (out.2, out.6, (out.1, out.5, closed out.0 k out.1 found.2 out.3 (subst kind (sym out.4) is_kind), out.7)),
        )

    -- the states found
    pub found_covered : IsCovered rules (IsFound stands graph)
    found_covered b found =
        let here = covered_by (λ e. Unit {0}) (λ k. Unit {0}) (λ i j k has step kind. tt) b (found.0, found.1, tt, found.2) in
        (here.0, λ e mid did. let to = here.1 e mid tt did in (to.0, to.1, (to.2.0, to.2.1, to.2.3)))

    -- the states of rows that reach no end have none
    pub dead_endless : IsEndless rules (λ b. (k : ℕ) × (k < count_of graph) × (ReachesEnd rules.goes graph k → ⊥) × stands (row_at graph k) b)
    dead_endless b found = (
      λ end. found.2 (found.0, ([], refl), (searched.ends found.0 b (omega (arith, found.1, all)) found.3).1 end),
      (covered_by rules.goes (λ k. ReachesEnd rules.goes graph k → ⊥)
          (λ i j k dead step goes reaches. dead (reaches.0, leads_by (Only (λ n. rules.goes (event_of graph n)) (StepOf graph)) i j k reaches.0 (goes, step) reaches.1, reaches.2)) b found).1,
    )

-- Where the events' steps are those of the rules, and what they settle to is reached by local turns, a set that is covered is closed: so
-- what a search found speaks of every order (`all_orders`).
pub closed_by_cover : {State Event : Type 0} (does : Event → State → State → Type 0) (keeps : Event → State → Type 0) (local : ℕ → State → State → Type 0) (rules : Rules State) (number : Event → ℕ) (set : State → Type 0) → ((e : Event) (b c : State) → does e b c → rules.steps (number e) b c) → ((b : State) → rules.keeps b → (e : Event) → keeps e b) → ((c d : State) → rules.settles c d → (n : ℕ) × Chain local n c d) → IsCovered rules set → IsClosed does keeps local set
closed_by_cover does keeps local rules number set steps kept settles cover b has e = (
  kept b (cover b has).0 e,
  λ c did.
      let to = (cover b has).1 (number e) c (steps e b c did) in
      let chain = settles c to.0 to.1 in
      (chain.0, to.0, chain.1, to.2),
)
