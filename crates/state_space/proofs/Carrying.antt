-- What was found by a system beside the one that is searched is carried over, and entered.
use Rattle.std.proofs.Common.{◌≡◌, ⊎_elim, ℕ, ◌+◌, ◌<◌, Bool, true, false, if◌then◌else◌, List, [], ◌∷◌, ◌++◌, length, get_or, refl, sym, ap, subst, ◌∙◌, arith, length-append}
use Rattle.std.{specs.Prelude.{All, ◌↔◌, ◌≢◌, slice_index, slice_set}, proofs.lemmas.Bool.cases_lt}
use Rattle.std.proofs.lemmas.List.Elements.{All-push, All-same, All-set}
use Rattle.state_space.specs.declared.{found.Successors.Successors, graph.Graph.Graph, workers.{Made.Made, Worker.Worker}}
use Rattle.state_space.specs.{Carried.{AreMade, AreTargets, IsCarried, IsLater, IsMade, IsPushed, IsTarget, NOWHERE}, Numbered.row_width}
use Rattle.state_space.{specs.Graphs.{count_of, expanded_of, row_at, IsAdded, IsSearched, IsWhole}, proofs.Growth.{earlier_one, last_one}}
use Rattle.state_space.specs.{Successors.{found_count, found_event, found_row, found_width}, Systems.{Rules, Moves, IsExpanded, Stay}}
use Rattle.state_space.proofs.{Grown.{expanded_moved, searched_grown}, Priced.stays_on}

pub stays_same : {State : Type 0} (a : List ℕ → State → Type 0) → Stay a a
stays_same a r b c has = (λ x. x, λ x. x)

-- one more, where memory was there
pub pushed_each : {X : Type 0} (P : X → Type 0) (done : Bool) (before now : List X) (x : X) → now ≡ (if done then before ++ x ∷ [] else before) → All P before → P x → All P now
pushed_each P true before now x is each here = All-same P now (before ++ x ∷ []) is (All-push P before x each here)
pushed_each P false before now x is each here = All-same P now before is each

-- the tables grow, in whose numbers successors are
expanded_stays : {State : Type 0} (rules : Rules State) (stands stands' : List ℕ → State → Type 0) (found : Successors) (b : State) → Stay stands stands' → IsExpanded rules stands (found_count found) (found_event found) (found_row found) b → IsExpanded rules stands' (found_count found) (found_event found) (found_row found) b
expanded_stays rules stands stands' found b stays is =
    expanded_moved rules stands stands' (found_count found) (found_count found) (found_event found) (found_event found) (found_row found) (found_row found) b
    (λ r c here. (stays r c c here).0 here) refl (λ i less. refl) (λ i less. refl) is

module _ {State : Type 0} (rules : Rules State) where
  -- each successor stands for something
  pub made_known : (main own : List ℕ → State → Type 0) (graph : Graph) (made : Made) → ((k : ℕ) → k < count_of graph → (b : State) × main (row_at graph k) b) → IsMade rules main own graph made → made.is_known ≡ false → (i : ℕ) → i < found_count made.found → (b : State) × own (found_row made.found i) b
  made_known main own graph made each is not i lt =
      let known = each made.row is.within in
      let to = (is.told not known.0 known.1).sound i lt in
      (to.0, to.2)

  -- ---- the other system's tables grow
  pub made_stays : (main own own' : List ℕ → State → Type 0) (graph : Graph) (made : Made) → ((k : ℕ) → k < count_of graph → (b : State) × main (row_at graph k) b) → Stay own own' → IsMade rules main own graph made → IsMade rules main own' graph made
  made_stays main own own' graph made each stays is = record {
    within = is.within;
    told = λ not b has. expanded_stays rules own own' made.found b stays (is.told not b has);
    known = is.known;
    width = is.width;
    targets = is.targets;
    ended = is.ended;
  }

  pub all_stay : (main own own' : List ℕ → State → Type 0) (graph : Graph) (made : List Made) → ((k : ℕ) → k < count_of graph → (b : State) × main (row_at graph k) b) → Stay own own' → All (IsMade rules main own graph) made → All (IsMade rules main own' graph) made
  all_stay main own own' graph made each stays all k d lt = made_stays main own own' graph (get_or made k d) each stays (all k d lt)

  -- ---- the graph and the tables of the system that is searched grow
  pub made_later : (main main' own : List ℕ → State → Type 0) (old new : Graph) (made : Made) → IsSearched rules main old → IsLater main main' old new → IsMade rules main own old made → IsMade rules main' own new made
  made_later main main' own old new made searched later is = record {
    within = omega (arith, is.within, later.grown);
    told = λ not b has. is.told not b (back b has);
    known = λ here b has. expanded_stays rules main main' made.found b later.stays (is.known here b (back b has));
    width = λ here. is.width here ∙ sym later.width;
    targets = λ i lt within some.
        let was = is.targets i lt within some in
        (omega (arith, was.0, later.grown), later.rows (slice_index made.targets.items i) was.0 ∙ was.1);
    ended = λ b has. is.ended b (back b has);
  }
    where
      back : (b : State) → main' (row_at new made.row) b → main (row_at old made.row) b
      back b has =
          let known = searched.known made.row is.within in
          (later.stays (row_at old made.row) known.0 b known.1).1 (subst (λ r. main' r b) (later.rows made.row is.within) has)

  -- ---- successors are carried over
  pub expanded_carried : (own main : List ℕ → State → Type 0) (from to : Successors) (b : State) → IsCarried own main from to (found_count from) → IsExpanded rules own (found_count from) (found_event from) (found_row from) b → IsExpanded rules main (found_count to) (found_event to) (found_row to) b
  expanded_carried own main from to b carried is = record {
    keeps = is.keeps;
    complete = λ e mid did.
        let was = is.complete e mid did in
        (was.0, was.1, subst (λ n. was.0 < n) (sym carried.count) was.2, carried.events was.0 was.2 ∙ was.3, was.4, carried.rows was.0 was.1 was.2 was.5);
    sound = λ i lt.
        let less : i < found_count from = subst (λ n. i < n) carried.count lt in
        let was = is.sound i less in
        (was.0, subst (λ e. Moves rules e b was.0) (sym (carried.events i less)) was.1, carried.rows i was.0 less was.2);
  }

  -- in the numbers of the system that is searched
  pub made_carried : (main own : List ℕ → State → Type 0) (graph : Graph) (made now : Made) → IsMade rules main own graph made → made.is_known ≡ false → now.row ≡ made.row → now.is_known ≡ true → now.is_end ≡ made.is_end
      → IsCarried own main made.found now.found (found_count made.found) → found_width now.found ≡ row_width graph.rows → AreTargets graph now.found now.targets.items
      → IsMade rules main own graph now
  made_carried main own graph made now is not row is_known end carried width targets = record {
    within = subst (λ k. k < count_of graph) (sym row) is.within;
    targets = targets;
    told = λ own_is. absurd (cc (is_known, own_is));
    known = λ known b has. expanded_carried own main made.found now.found b carried (is.told not b (subst (λ k. main (row_at graph k) b) row has));
    width = λ known. width;
    ended = λ b has. subst (λ e. (e ≡ true) ↔ rules.is_end b) (sym end) (is.ended b (subst (λ k. main (row_at graph k) b) row has));
  }

  -- ---- what was made of the next row is entered
  module _ (main main' own : List ℕ → State → Type 0) (old new : Graph) (made : Made) (found : Successors) where
    pub entered : Stay main main' → IsSearched rules main old → expanded_of old < count_of old → made.row ≡ expanded_of old → made.is_known ≡ false → IsMade rules main own old made → IsCarried own main' made.found found (found_count made.found) → IsWhole new → IsAdded old new found made.is_end → IsSearched rules main' new
    entered stays searched next is not made_is carried whole added =
        searched_grown rules main main' old new found made.is_end stays searched whole added next
        (λ b has. expanded_carried own main' made.found found b carried (made_is.told not b (subst (λ k. main (row_at old k) b) (sym is) has)))
        (λ b has. made_is.ended b (subst (λ k. main (row_at old k) b) (sym is) has))

    pub entered_known : IsSearched rules main old → expanded_of old < count_of old → made.row ≡ expanded_of old → made.is_known ≡ true → IsMade rules main own old made → IsWhole new → IsAdded old new made.found made.is_end → IsSearched rules main new
    entered_known searched next is is_known made_is whole added =
        searched_grown rules main main old new made.found made.is_end (stays_same main) searched whole added next
        (λ b has. made_is.known is_known b (subst (λ k. main (row_at old k) b) (sym is) has))
        (λ b has. made_is.ended b (subst (λ k. main (row_at old k) b) (sym is) has))

-- ---- one row more that is known, or not
pub targets_none : (graph : Graph) (found : Successors) (targets : List ℕ) → targets ≡ [] → AreTargets graph found targets
targets_none graph found targets none i lt within some = let long : length targets ≡ 0 = ap length none in absurd (omega (arith, long, within))

pub targets_more : (graph : Graph) (found : Successors) (targets now : List ℕ) (n k : ℕ)
    → now ≡ targets ++ k ∷ [] → length targets ≡ n → AreTargets graph found targets
    → (k ≢ NOWHERE → IsTarget graph (found_row found n) k)
    → AreTargets graph found now
targets_more graph found targets now n k is long are one i lt within some =
    let longer : length now ≡ length targets + 1 = ap length is ∙ length-append targets (k ∷ []) in
    ⊎_elim
    (λ below.
    let e : slice_index now i ≡ slice_index targets i = earlier_one targets now k 0 i is below in
    subst (λ m. IsTarget graph (found_row found i) m) (sym e) (are i lt below (λ z. some (e ∙ z))))
    (λ last.
    let p : i ≡ length targets = omega (arith, last, within, longer) in
    let e : slice_index now i ≡ k = last_one targets now k 0 i is p in
    subst (λ m. IsTarget graph (found_row found i) m) (sym e)
    (subst (λ m. IsTarget graph (found_row found m) k) (sym (p ∙ long)) (one (λ z. some (e ∙ z)))))
    (cases_lt i (length targets))

module _ {State : Type 0} where
  pub carried_more : (own main main' : List ℕ → State → Type 0) (from old new : Successors) (n : ℕ)
      → Stay main main' → n < found_count from → IsCarried own main from old n
      → IsPushed own main' old new (found_event from n) (found_row from n)
      → IsCarried own main' from new (n + 1)
  carried_more own main main' from old new n stays within was pushed = record {
    count = pushed.counted ∙ ap (λ m. m + 1) was.count;
    events = λ i lt. ⊎_elim
        (λ below. pushed.events_stay i (subst (λ m. i < m) (sym was.count) below) ∙ was.events i below)
        (λ last.
        let is : i ≡ n = omega (arith, last, lt) in
        let place : i ≡ found_count old = is ∙ sym was.count in
        ap (found_event new) place ∙ (pushed.is_of ∙ ap (found_event from) (sym is)))
        (cases_lt i n);
    rows = λ i b lt has. ⊎_elim
        (λ below.
        let before : main (found_row old i) b = was.rows i b below has in
        subst (λ r. main' r b) (sym (pushed.rows_stay i (subst (λ m. i < m) (sym was.count) below))) ((stays (found_row old i) b b before).0 before))
        (λ last.
        let is : i ≡ n = omega (arith, last, lt) in
        subst (λ m. main' (found_row new m) b) (sym (is ∙ sym was.count)) (pushed.stands b (subst (λ m. own (found_row from m) b) is has)))
        (cases_lt i n);
  }

  -- ---- later and later
  pub later_on : (a b c : List ℕ → State → Type 0) (first mid last : Graph) → IsLater a b first mid → IsLater b c mid last → IsLater a c first last
  later_on a b c first mid last one two = record {
    stays = stays_on a b c one.stays two.stays;
    rows = λ k lt. two.rows k (omega (arith, lt, one.grown)) ∙ one.rows k lt;
    grown = omega (arith, one.grown, two.grown);
    more = omega (arith, one.more, two.more);
    width = two.width ∙ one.width;
  }

-- ---- what two systems remember of one another
abbrev KnowsOn : {S State Setting Memo : Type 0} → (S → Setting) → (S → List ℕ → State → Type 0) → (S → S → Memo → Type 0) → Type 0
KnowsOn {S} {State} {Setting} {Memo} setting stands knows =
    (from to later after : S) (memo : Memo) → setting later ≡ setting from → setting after ≡ setting to
    → Stay (stands from) (stands later) → Stay (stands to) (stands after) → knows from to memo → knows later after memo

module _ {S State Setting Memo : Type 0} (setting : S → Setting) (rules : Setting → Rules State) (stands : S → List ℕ → State → Type 0) (knows : S → S → Memo → Type 0) (on : KnowsOn setting stands knows)
    (main main' : S) (old new : Graph) (same : setting main' ≡ setting main) (searched : IsSearched (rules (setting main)) (stands main) old) (later : IsLater (stands main) (stands main') old new) where
  -- the tables and the graph of the system that is searched grow
  are_later : (worker : Worker S Memo) → AreMade setting rules stands knows main old worker → AreMade setting rules stands knows main' new worker
  are_later worker are = record {
    beside = record {
      alike = are.beside.alike ∙ sym same;
      to_own = on main worker.system main' worker.system worker.memo same refl later.stays (stays_same (stands worker.system)) are.beside.to_own;
      to_main = on worker.system main worker.system main' worker.back refl same (stays_same (stands worker.system)) later.stays are.beside.to_main;
    };
    each = λ k d lt.
        let made = get_or worker.made.items k d in
        subst (λ t. IsMade (rules t) (stands main') (stands worker.system) new made) (sym same)
        (made_later (rules (setting main)) (stands main) (stands main') (stands worker.system) old new made searched later (are.each k d lt));
  }

  -- and what it remembers of the numbers of one of the others is another
  pub all_later : (workers : List (Worker S Memo)) (i : ℕ) (worker : Worker S Memo) (back : Memo) → knows worker.system main' back → AreMade setting rules stands knows main old worker
      → All (AreMade setting rules stands knows main old) workers → All (AreMade setting rules stands knows main' new) (slice_set workers i (record worker { back = back }))
  all_later workers i worker back to_main are all =
      let was = are_later worker are in
      All-set (AreMade setting rules stands knows main' new) workers i (record worker { back = back })
      (record {
        beside = record { alike = was.beside.alike; to_own = was.beside.to_own; to_main = to_main };
        each = was.each;
      })
      (λ k d lt. are_later (get_or workers k d) (all k d lt))
