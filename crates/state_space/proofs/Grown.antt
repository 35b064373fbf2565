-- What a search found, with one row more that is expanded.
use Rattle.std.proofs.Common.{◌≡◌, ⊎_elim, ℕ, ◌+◌, ◌-◌, ◌<◌, ◌≤◌, Bool, true, false, List, length, get_or, refl, sym, ap, subst, ◌∙◌, arith}
use Rattle.std.{proofs.lemmas.Bool.{cases_lt, false≢true}, specs.Prelude.{◌↔◌}}
use Rattle.state_space.specs.declared.{found.Successors.Successors, graph.Graph.Graph, systems.Expansion.Expansion}
use Rattle.state_space.specs.{declared.systems.Expansion.TheVariants.{Goes, Ends}, Successors.{found_count, found_event, found_row}}
use Rattle.state_space.specs.Systems.{Rules, Moves, IsExpanded, Says, Stay, UnlessHalts}
use Rattle.state_space.specs.Graphs.{count_of, expanded_of, row_at, first_step, end_step, target_of, event_of, StepOf, IsEnd, IsWhole, IsAdded, IsSearched}

-- the same successors, told by other tables
pub expanded_moved : {State : Type 0} (rules : Rules State) (stands stands' : List ℕ → State → Type 0) (count count' : ℕ) (event event' : ℕ → ℕ) (row row' : ℕ → List ℕ) (b : State) → ((r : List ℕ) (c : State) → stands r c → stands' r c) → count' ≡ count → ((i : ℕ) → i < count → event' i ≡ event i) → ((i : ℕ) → i < count → row' i ≡ row i) → IsExpanded rules stands count event row b → IsExpanded rules stands' count' event' row' b
expanded_moved rules stands stands' count count' event event' row row' b stays counts events rows old = record {
  keeps = old.keeps;
  complete = λ e mid did.
      let was = old.complete e mid did in
      (was.0, was.1, subst (λ n. was.0 < n) (sym counts) was.2, events was.0 was.2 ∙ was.3, was.4, subst (λ r. stands' r was.1) (sym (rows was.0 was.2)) (stays (row was.0) was.1 was.5));
  sound = λ i lt.
      let less : i < count = subst (λ n. i < n) counts lt in
      let was = old.sound i less in
      (was.0, subst (λ e. Moves rules e b was.0) (sym (events i less)) was.1, subst (λ r. stands' r was.0) (sym (rows i less)) (stays (row i) was.0 was.2));
}

module _ {State : Type 0} (rules : Rules State) (stands stands' : List ℕ → State → Type 0) (old new : Graph) (found : Successors) (is_end : Bool) where
  module _ (stays : Stay stands stands') (was : IsSearched rules stands old) (whole : IsWhole new) (added : IsAdded old new found is_end) (next : expanded_of old < count_of old) where
    -- what an old row stands for stays, both ways
    later : (k : ℕ) (b : State) → k < count_of old → stands (row_at old k) b → stands' (row_at new k) b
    later k b lt has = subst (λ r. stands' r b) (sym (added.rows k lt)) ((stays (row_at old k) b b has).0 has)

    earlier : (k : ℕ) (b : State) → k < count_of old → stands' (row_at new k) b → stands (row_at old k) b
    earlier k b lt has =
        let known = was.known k lt in
        (stays (row_at old k) known.0 b known.1).1 (subst (λ r. stands' r b) (added.rows k lt) has)

    module _ (told : (b : State) → stands (row_at old (expanded_of old)) b → IsExpanded rules stands' (found_count found) (found_event found) (found_row found) b) (ended : (b : State) → stands (row_at old (expanded_of old)) b → (is_end ≡ true) ↔ rules.is_end b) where
      known : (k : ℕ) → k < count_of new → (b : State) × stands' (row_at new k) b
      known k lt =
          ⊎_elim
          (λ before. let b = was.known k before in (b.0, later k b.0 before b.1))
          (λ after.
          let from = was.known (expanded_of old) next in
          let step = added.new_rows k after lt in
          let to = (told from.0 from.1).sound step.0 step.1 in
          (to.0, subst (λ r. stands' r to.0) (sym ((added.successors step.0 step.1).1) ∙ ap (row_at new) step.2) to.2))
          (cases_lt k (count_of old))

      reached : (k : ℕ) → k < count_of new → 0 < k → (j : ℕ) × (j < k) × ((i : ℕ) × StepOf new i j k)
      reached k lt some =
          ⊎_elim
          (λ before.
          let from = was.reached k before some in
          let step = from.2.1 in
          let i : ℕ = from.2.0 in
          let expanded : from.0 < expanded_of old = step.0 in
          let within = was.whole.within from.0 expanded in (
            from.0,
            from.1,
            (
              i,
              (
                omega (arith, added.one),
                subst (λ n. n ≤ i) (sym (added.begins from.0 expanded).0) step.1,
                subst (λ n. i < n) (sym (added.begins from.0 expanded).1) step.2,
                step.3 ∙ sym (added.steps i (omega (arith, within, step.2))).0,
              ),
            ),
          ))
          (λ after.
          let step = added.new_rows k after lt in
          let i : ℕ = length old.targets.items + step.0 in (
            expanded_of old,
            omega arith,
            (
              i,
              (
                omega (arith, added.one),
                omega (arith, added.first),
                omega (arith, added.last, step.1),
                sym step.2,
              ),
            ),
          ))
          (cases_lt k (count_of old))

      steps : (k : ℕ) (b : State) → k < expanded_of new → stands' (row_at new k) b → IsExpanded rules stands' (end_step new k - first_step new k) (λ i. event_of new (first_step new k + i)) (λ i. row_at new (target_of new (first_step new k + i))) b
      steps k b lt has =
          ⊎_elim
          (λ before.
          let in_old : k < count_of old = omega arith in
          let begins = added.begins k before in
          let within = was.whole.within k before in
          expanded_moved rules stands stands' (end_step old k - first_step old k) (end_step new k - first_step new k)
          (λ i. event_of old (first_step old k + i)) (λ i. event_of new (first_step new k + i))
          (λ i. row_at old (target_of old (first_step old k + i))) (λ i. row_at new (target_of new (first_step new k + i)))
          b (λ r c here. (stays r c c here).0 here)
          (omega (arith, begins.0, begins.1))
          (λ i less. ap (λ n. event_of new (n + i)) begins.0 ∙ (added.steps (first_step old k + i) (omega (arith, within, less))).1)
          (λ i less.
          let in_steps : first_step old k + i < length old.targets.items = omega (arith, within, less) in
          ap (λ n. row_at new (target_of new (n + i))) begins.0
          ∙ ap (row_at new) (added.steps (first_step old k + i) in_steps).0
          ∙ added.rows (target_of old (first_step old k + i)) (was.whole.lead (first_step old k + i) in_steps))
          (was.expanded k b before (earlier k b in_old has)))
          (λ after.
          let is : k ≡ expanded_of old = omega (arith, added.one) in
          let first : first_step new k ≡ length old.targets.items = ap (first_step new) is ∙ added.first in
          let last : end_step new k ≡ length old.targets.items + found_count found = ap (end_step new) is ∙ added.last in
          expanded_moved rules stands' stands' (found_count found) (end_step new k - first_step new k)
          (found_event found) (λ i. event_of new (first_step new k + i))
          (found_row found) (λ i. row_at new (target_of new (first_step new k + i)))
          b (λ r c has'. has')
          (omega (arith, first, last))
          (λ i less. ap (λ n. event_of new (n + i)) first ∙ (added.successors i less).0)
          (λ i less. ap (λ n. row_at new (target_of new (n + i))) first ∙ (added.successors i less).1)
          (told b (subst (λ n. stands (row_at old n) b) is (earlier k b (omega arith) has))))
          (cases_lt k (expanded_of old))

      ends : (k : ℕ) (b : State) → k < expanded_of new → stands' (row_at new k) b → IsEnd new k ↔ rules.is_end b
      ends k b lt has =
          ⊎_elim
          (λ before.
          let now = was.ends k b before (earlier k b (omega arith) has) in
          (λ end. now.0 (before, sym (added.ends k before) ∙ end.1), λ end. (lt, added.ends k before ∙ (now.1 end).1)))
          (λ after.
          let is : k ≡ expanded_of old = omega (arith, added.one) in
          let now = ended b (subst (λ n. stands (row_at old n) b) is (earlier k b (omega arith) has)) in
          let mark : get_or new.is_end.items k false ≡ is_end = ap (λ n. get_or new.is_end.items n false) is ∙ added.end in
          (λ end. now.0 (sym mark ∙ end.1), λ end. (lt, mark ∙ now.1 end)))
          (cases_lt k (expanded_of old))

      pub searched_grown : IsSearched rules stands' new
      searched_grown = record {
        whole = whole;
        some = omega (arith, was.some, added.grown);
        most = omega (arith, next, added.one, added.grown);
        start = (was.start.0, was.start.1, later 0 was.start.0 was.some was.start.2);
        known = known;
        reached = reached;
        expanded = steps;
        ends = ends;
      }

  -- where the search stops at a row, more may stand in the system's tables
  pub searched_kept : Stay stands stands' → IsSearched rules stands old → IsSearched rules stands' old
  searched_kept stays was =
      let back : (k : ℕ) (b : State) → k < count_of old → stands' (row_at old k) b → stands (row_at old k) b = λ k b lt has.
      let known = was.known k lt in
      (stays (row_at old k) known.0 b known.1).1 has in
      let forth : (r : List ℕ) (c : State) → stands r c → stands' r c = λ r c here. (stays r c c here).0 here in
      record {
        whole = was.whole;
        some = was.some;
        most = was.most;
        start = (was.start.0, was.start.1, forth (row_at old 0) was.start.0 was.start.2);
        known = λ k lt. ((was.known k lt).0, forth (row_at old k) (was.known k lt).0 (was.known k lt).1);
        reached = was.reached;
        expanded = λ k b lt has. expanded_moved rules stands stands' (end_step old k - first_step old k) (end_step old k - first_step old k) (λ i. event_of old (first_step old k + i)) (λ i. event_of old (first_step old k + i)) (λ i. row_at old (target_of old (first_step old k + i))) (λ i. row_at old (target_of old (first_step old k + i))) b forth refl (λ i less. refl) (λ i less. refl) (was.expanded k b lt (back k b (in_count k lt) has));
        ends = λ k b lt has. was.ends k b lt (back k b (in_count k lt) has);
      }
    where
      in_count : (k : ℕ) → k < expanded_of old → k < count_of old
      in_count k lt = omega (arith, was.most)

-- what is said of a row, by what was answered
pub unless_goes : (said : Expansion) (P : Type 0) → said ≡ Goes → UnlessHalts said P → P
unless_goes said P is told = let F : Expansion → Type 0 = λ s. UnlessHalts s P in subst F is told

pub unless_ends : (said : Expansion) (P : Type 0) → said ≡ Ends → UnlessHalts said P → P
unless_ends said P is told = let F : Expansion → Type 0 = λ s. UnlessHalts s P in subst F is told

pub ended_goes : (said : Expansion) (E : Type 0) → said ≡ Goes → Says said E → (false ≡ true) ↔ E
ended_goes said E is says =
    let F : Expansion → Type 0 = λ s. Says s E in
    let not_at : E → ⊥ = subst F is says in
    (λ e. absurd (false≢true e), λ end. absurd (not_at end))

pub ended_ends : (said : Expansion) (E : Type 0) → said ≡ Ends → Says said E → (true ≡ true) ↔ E
ended_ends said E is says =
    let F : Expansion → Type 0 = λ s. Says s E in
    let at_end : E = subst F is says in
    (λ e. at_end, λ end. refl)

-- the start alone
pub searched_first : {State : Type 0} (rules : Rules State) (stands : List ℕ → State → Type 0) (graph : Graph) (start : List ℕ) → count_of graph ≡ 1 → row_at graph 0 ≡ start → expanded_of graph ≡ 0 → IsWhole graph → ((b : State) × rules.settles rules.start b × stands start b) → IsSearched rules stands graph
searched_first rules stands graph start one is none whole first =
    let here = subst (λ r. stands r first.0) (sym is) first.2 in
    record {
      whole = whole;
      some = omega arith;
      most = omega arith;
      start = (first.0, first.1, here);
      known = λ k lt.
          let zeroth : k ≡ 0 = omega arith in
          (first.0, subst (λ n. stands (row_at graph n) first.0) (sym zeroth) here);
      reached = λ k lt some. absurd (omega arith);
      expanded = λ k b lt has. absurd (omega arith);
      ends = λ k b lt has. absurd (omega arith);
    }
