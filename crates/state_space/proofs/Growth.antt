-- A graph that grows by one step after another.
use Rattle.std.proofs.Common.{◌≡◌, ⊎_elim, ℕ, ◌+◌, ◌-◌, ◌<◌, ◌≤◌, Bool, false, List, [], ◌∷◌, ◌++◌, length, get_or, refl, sym, ap, subst, ◌∙◌, arith, length-append, add-one}
use Rattle.std.proofs.lemmas.{Bool.cases_lt, List.{get_or_append_left, get_or-append_right}}
use Rattle.state_space.specs.{declared.{found.Successors.Successors, graph.Graph.Graph}, Begins.begin_of, Growing.{IsStepAdded, IsGrowing}}
use Rattle.state_space.specs.{Numbered.{row_count, row_of, row_width}, Successors.{found_count, found_event, found_row}}
use Rattle.state_space.specs.Graphs.{count_of, expanded_of, row_at, first_step, end_step, target_of, event_of, IsWhole, IsAdded}
use Rattle.state_space.proofs.Parts.{begin_stays}

-- an element of a list with one more at the end
pub earlier_one : {X : Type 0} (xs ys : List X) (x d : X) (i : ℕ) → ys ≡ xs ++ x ∷ [] → i < length xs → get_or ys i d ≡ get_or xs i d
earlier_one xs ys x d i is lt = ap (λ l. get_or l i d) is ∙ get_or_append_left xs (x ∷ []) d i lt

pub last_one : {X : Type 0} (xs ys : List X) (x d : X) (i : ℕ) → ys ≡ xs ++ x ∷ [] → i ≡ length xs → get_or ys i d ≡ x
last_one xs ys x d i is at =
    ap (λ l. get_or l i d) is
    ∙ get_or-append_right xs (x ∷ []) (length xs) i d refl (omega arith)
    ∙ ap (λ n. get_or (x ∷ []) n d) (zero_gap i at)
  where
    zero_gap : (n : ℕ) → n ≡ length xs → n - length xs ≡ 0
    zero_gap n e = omega arith

one_longer : {X : Type 0} (xs ys : List X) (x : X) → ys ≡ xs ++ x ∷ [] → length ys ≡ length xs + 1
one_longer xs ys x is = ap length is ∙ length-append xs (x ∷ [])

grown_by : (old new : Graph) (event : ℕ) (row : List ℕ) → IsStepAdded old new event row → count_of old ≤ count_of new
grown_by old new event row step =
    ⊎_elim (λ same. omega (arith, same)) (λ more. omega (arith, more.0)) step.put.added

module _ (old mid new : Graph) (found : Successors) (n : ℕ) (was : IsGrowing old mid found n) (step : IsStepAdded mid new (found_event found n) (found_row found n)) where
  target_stays : (i : ℕ) → i < length mid.targets.items → target_of new i ≡ target_of mid i
  target_stays i lt = earlier_one mid.targets.items new.targets.items step.number 0 i step.targets lt

  target_last : (i : ℕ) → i ≡ length mid.targets.items → target_of new i ≡ step.number
  target_last i is = last_one mid.targets.items new.targets.items step.number 0 i step.targets is

  event_stays : (i : ℕ) → i < length mid.events.items → event_of new i ≡ event_of mid i
  event_stays i lt = earlier_one mid.events.items new.events.items (found_event found n) 0 i step.events lt

  new_row : (k : ℕ) → count_of old ≤ k → k < count_of new → (i : ℕ) × (i < n + 1) × (target_of new (length old.targets.items + i) ≡ k)
  new_row k le lt =
      ⊎_elim
      (λ before.
      let at = was.new_rows k le before in
      (at.0, omega (arith, at.1), target_stays (length old.targets.items + at.0) (omega (arith, at.1, was.targets)) ∙ at.2))
      (λ after.
      let is : step.number ≡ k = ⊎_elim (λ same. absurd (omega (arith, same))) (λ more. omega (arith, more.0, more.1)) step.put.added in
      (n, omega arith, target_last (length old.targets.items + n) (sym was.targets) ∙ is))
      (cases_lt k (count_of mid))

  pub growing_more : IsGrowing old new found (n + 1)
  growing_more = record {
    rows = λ k lt. step.stay k (omega (arith, was.grown)) ∙ was.rows k lt;
    grown = omega (arith, was.grown, grown_by mid new (found_event found n) (found_row found n) step);
    width = step.width ∙ was.width;
    ends_at = step.ends_at ∙ was.ends_at;
    is_end = step.is_end ∙ was.is_end;
    targets = omega (arith, one_longer mid.targets.items new.targets.items step.number step.targets, was.targets);
    events = omega (arith, one_longer mid.events.items new.events.items (found_event found n) step.events, was.events);
    steps = λ i lt. target_stays i (omega (arith, was.targets)) ∙ was.steps i lt;
    marks = λ i lt. event_stays i (omega (arith, was.events)) ∙ was.marks i lt;
    lead = λ i lt. ⊎_elim
        (λ less. subst (λ m. m < count_of new) (sym (target_stays (length old.targets.items + i) (omega (arith, was.targets)))) (omega (arith, was.lead i less, grown_by mid new (found_event found n) (found_row found n) step)))
        (λ last. subst (λ m. m < count_of new) (sym (target_last (length old.targets.items + i) (omega (arith, was.targets)))) step.put.within)
        (cases_lt i n);
    successors = λ i lt. ⊎_elim
        (λ less. ap (row_at new) (target_stays (length old.targets.items + i) (omega (arith, was.targets))) ∙ step.stay (target_of mid (length old.targets.items + i)) (was.lead i less) ∙ was.successors i less)
        (λ last. ap (row_at new) (target_last (length old.targets.items + i) (omega (arith, was.targets))) ∙ step.put.is ∙ ap (found_row found) (same i lt last))
        (cases_lt i n);
    their_events = λ i lt. ⊎_elim
        (λ less. event_stays (length old.events.items + i) (omega (arith, was.events)) ∙ was.their_events i less)
        (λ last. last_one mid.events.items new.events.items (found_event found n) 0 (length old.events.items + i) step.events (omega (arith, was.events)) ∙ ap (found_event found) (same i lt last))
        (cases_lt i n);
    new_rows = new_row;
  }
    where
      same : (i : ℕ) → i < n + 1 → n ≤ i → n ≡ i
      same i lt le = omega arith

pub growing_none : (old : Graph) (found : Successors) → IsGrowing old old found 0
growing_none old found = record {
  rows = λ k lt. refl;
  grown = omega arith;
  width = refl;
  ends_at = refl;
  is_end = refl;
  targets = omega arith;
  events = omega arith;
  steps = λ i lt. refl;
  marks = λ i lt. refl;
  lead = λ i lt. absurd (omega arith);
  successors = λ i lt. absurd (omega arith);
  their_events = λ i lt. absurd (omega arith);
  new_rows = λ k le lt. absurd (omega arith);
}

-- All steps were added, and then the row's end: `mid` has the steps, `new` the rest.
module _ (old mid new : Graph) (found : Successors) (is_end : Bool) (end : ℕ) (whole : IsWhole old) (was : IsGrowing old mid found (found_count found)) (ends_at : new.ends_at.items ≡ mid.ends_at.items ++ end ∷ []) (ends : new.is_end.items ≡ mid.is_end.items ++ is_end ∷ []) (is : end ≡ length mid.targets.items) (rows : new.rows ≡ mid.rows) (targets : new.targets ≡ mid.targets) (events : new.events ≡ mid.events) where
  all_ends : new.ends_at.items ≡ old.ends_at.items ++ end ∷ []
  all_ends = ends_at ∙ ap (λ l. l ++ end ∷ []) was.ends_at

  all_marks : new.is_end.items ≡ old.is_end.items ++ is_end ∷ []
  all_marks = ends ∙ ap (λ l. l ++ is_end ∷ []) was.is_end

  begins : (k : ℕ) → k ≤ expanded_of old → first_step new k ≡ first_step old k
  begins k le = ap (λ l. begin_of l k) all_ends ∙ begin_stays old.ends_at.items (end ∷ []) k le

  ends_stay : (k : ℕ) → k < expanded_of old → end_step new k ≡ end_step old k
  ends_stay k lt = earlier_one old.ends_at.items new.ends_at.items end 0 k all_ends lt

  last_end : (k : ℕ) → k ≡ expanded_of old → end_step new k ≡ length old.targets.items + found_count found
  last_end k at = last_one old.ends_at.items new.ends_at.items end 0 k all_ends at ∙ is ∙ was.targets

  row_same : (k : ℕ) → row_at new k ≡ row_at mid k
  row_same k = ap (λ r. row_of r k) rows

  target_same : (i : ℕ) → target_of new i ≡ target_of mid i
  target_same i = ap (λ t. get_or t.items i 0) targets

  event_same : (i : ℕ) → event_of new i ≡ event_of mid i
  event_same i = ap (λ t. get_or t.items i 0) events

  pub added : IsAdded old new found is_end
  added = record {
    rows = λ k lt. row_same k ∙ was.rows k lt;
    grown = subst (λ m. count_of old ≤ m) (ap row_count (sym rows)) was.grown;
    width = ap row_width rows ∙ was.width;
    one = one_longer old.ends_at.items new.ends_at.items end all_ends;
    begins = λ k lt. (begins k (omega arith), ends_stay k lt);
    steps = λ i lt. (target_same i ∙ was.steps i lt, event_same i ∙ was.marks i (omega (arith, whole.events)));
    ends = λ k lt. earlier_one old.is_end.items new.is_end.items is_end false k all_marks (omega (arith, whole.ends));
    first = begins (expanded_of old) (omega arith) ∙ whole.all;
    last = last_end (expanded_of old) refl;
    end = last_one old.is_end.items new.is_end.items is_end false (expanded_of old) all_marks (sym whole.ends);
    successors = λ i lt. (
      event_same (length old.targets.items + i) ∙ ap (λ m. event_of mid (m + i)) (sym whole.events) ∙ was.their_events i lt,
      ap (row_at new) (target_same (length old.targets.items + i)) ∙ row_same (target_of mid (length old.targets.items + i)) ∙ was.successors i lt,
    );
    new_rows = λ k le lt.
        let at = was.new_rows k le (subst (λ m. k < m) (ap row_count rows) lt) in
        (at.0, at.1, target_same (length old.targets.items + at.0) ∙ at.2);
  }

  many : length new.targets.items ≡ length old.targets.items + found_count found
  many = ap (λ t. length t.items) targets ∙ was.targets

  pub whole_added : IsWhole new
  whole_added = record {
    events = ap (λ t. length t.items) events ∙ was.events ∙ ap (λ m. m + found_count found) whole.events ∙ sym many;
    ends = one_longer old.is_end.items new.is_end.items is_end all_marks ∙ ap (λ m. m + 1) whole.ends ∙ sym (one_longer old.ends_at.items new.ends_at.items end all_ends);
    all = ap (begin_of new.ends_at.items) (one_longer old.ends_at.items new.ends_at.items end all_ends) ∙ begin_last;
    in_order = λ k lt. ⊎_elim
        (λ before. omega (arith, begins k (omega arith), ends_stay k before, whole.in_order k before))
        (λ after. omega (arith, begins k (at_most k lt), last_end k (at k lt after), ap (first_step old) (at k lt after) ∙ whole.all))
        (cases_lt k (expanded_of old));
    within = λ k lt. ⊎_elim
        (λ before. omega (arith, ends_stay k before, whole.within k before, many))
        (λ after. omega (arith, last_end k (at k lt after), many))
        (cases_lt k (expanded_of old));
    lead = λ i lt. subst (λ m. m < count_of new) (sym (target_same i)) (subst (λ m. target_of mid i < m) (ap row_count (sym rows)) (leads i (subst (λ m. i < m) many lt)));
  }
    where
      at_most : (k : ℕ) → k < expanded_of new → k ≤ expanded_of old
      at_most k lt = omega (arith, one_longer old.ends_at.items new.ends_at.items end all_ends)

      at : (k : ℕ) → k < expanded_of new → expanded_of old ≤ k → k ≡ expanded_of old
      at k lt le = omega (arith, one_longer old.ends_at.items new.ends_at.items end all_ends)

      begin_last : begin_of new.ends_at.items (length old.ends_at.items + 1) ≡ length new.targets.items
      begin_last = rw add-one (last_end (length old.ends_at.items) refl ∙ sym many)

      leads : (i : ℕ) → i < length old.targets.items + found_count found → target_of mid i < count_of mid
      leads i lt = ⊎_elim
          (λ before. subst (λ m. m < count_of mid) (sym (was.steps i before)) (omega (arith, whole.lead i before, was.grown)))
          (λ after.
          let is_sum : length old.targets.items + (i - length old.targets.items) ≡ i = omega arith in
          subst (λ m. target_of mid m < count_of mid) is_sum (was.lead (i - length old.targets.items) (omega arith)))
          (cases_lt i (length old.targets.items))
