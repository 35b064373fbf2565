-- What all kinds of searches have in common.
use Rattle.std.proofs.Common.{◌≡◌, ⊎_elim, ℕ, ◌+◌, ◌<◌, Bool, true, false, List, [], ◌∷◌, ◌++◌, length, drop, refl, ap, sym, subst, ◌∙◌, arith}
use Rattle.std.proofs.lemmas.Bool.{cases_lt}
use Rattle.model_board.specs.{Boards.Board, Maps.Map}
use Rattle.state_space.specs.{declared.graph.Graph.Graph, Deads.IsMarked, Graphs.IsSearched, Orders.Runs, Switched.{Switched, StandsWithin}}
use Rattle.state_space.{specs.{Systems.Moves, Counted.{Counted, StandsCounted}}, proofs.AllOrders.runs_along}
use Rattle.state_space.proofs.Growth.{earlier_one, last_one}
use Rattle.board_space.specs.{Few.{few_rules, life_rules}, Searches.{StandsBy, board_part, IsSearch}, Space.{Asked, board_rules}}
use Rattle.board_space.specs.declared.bounds.Bound.{Bound, TheVariants.{Unbounded, Preemptions, PowerOns}}

-- ---- of every order
pub search_all : (asked : Asked) (map : Map) (stands : List ℕ → Board → Type 0) (graph : Graph) → IsSearched (board_rules asked map) stands graph → IsSearch asked map Unbounded stands graph
search_all asked map stands graph searched = record {
  by = searched;
  whole = searched.whole;
  most = searched.most;
  known = searched.known;
  ends = searched.ends;
}

-- ---- of few
pub search_few : (asked : Asked) (map : Map) (switches : ℕ) (stands : List ℕ → Board → Type 0) (graph : Graph) → IsSearched (few_rules asked map switches) (StandsWithin stands) graph → IsSearch asked map (Preemptions switches) stands graph
search_few asked map switches stands graph searched = record {
  by = searched;
  whole = searched.whole;
  most = searched.most;
  known = λ k lt. let known = searched.known k lt in (known.0.state, (known.0.budget, known.1));
  ends = λ k b lt has. searched.ends k (record { state = b; budget = has.0 }) lt has.1;
}

-- a move of the search is one of the boards
pub inner_move : (asked : Asked) (map : Map) (switches n : ℕ) (b c : Switched Board) → Moves (few_rules asked map switches) n b c → Moves (board_rules asked map) n b.state c.state
inner_move asked map switches n b c move = (move.0.state, move.1.0, move.2.0)

pub inner_run : (asked : Asked) (map : Map) (switches : ℕ) (w : List ℕ) (b c : Switched Board) → Runs (Moves (few_rules asked map switches)) w b c → Runs (Moves (board_rules asked map)) w b.state c.state
inner_run asked map switches [] b c is = ap (λ (s : Switched Board). s.state) is
inner_run asked map switches (n ∷ w) b c run =
    (run.0.state, inner_move asked map switches n b run.0 run.1, inner_run asked map switches w run.0 c run.2)

-- ---- with few power-ons
pub search_lives : (asked : Asked) (map : Map) (most : ℕ) (stands : List ℕ → Board → Type 0) (graph : Graph) → IsSearched (life_rules asked map most) (StandsCounted stands) graph → IsSearch asked map (PowerOns most) stands graph
search_lives asked map most stands graph searched = record {
  by = searched;
  whole = searched.whole;
  most = searched.most;
  known = λ k lt. let known = searched.known k lt in (known.0.state, (known.0.left, known.1));
  ends = λ k b lt has. searched.ends k (record { state = b; left = has.0 }) lt has.1;
}

pub life_move : (asked : Asked) (map : Map) (most n : ℕ) (b c : Counted Board) → Moves (life_rules asked map most) n b c → Moves (board_rules asked map) n b.state c.state
life_move asked map most n b c move = (move.0.state, move.1.0, move.2.0)

pub life_run : (asked : Asked) (map : Map) (most : ℕ) (w : List ℕ) (b c : Counted Board) → Runs (Moves (life_rules asked map most)) w b c → Runs (Moves (board_rules asked map)) w b.state c.state
life_run asked map most w b c run =
    runs_along (Moves (life_rules asked map most)) (Moves (board_rules asked map)) (λ (s : Counted Board). s.state) (λ n x y move. life_move asked map most n x y move) w b c run

-- ---- the numbers of a row that are the board's
pub part_stands : (bound : Bound) (stands : List ℕ → Board → Type 0) (row : List ℕ) (b : Board) → StandsBy bound stands row b → stands (board_part bound row) b
part_stands Unbounded stands row b has = has
part_stands (Preemptions switches) stands row b has =
    subst (λ (r : List ℕ). stands r b) (sym (ap (λ (r : List ℕ). drop 2 r) has.1.1)) has.1.2
part_stands (PowerOns most) stands row b has =
    subst (λ (r : List ℕ). stands r b) (sym (ap (λ (r : List ℕ). drop 1 r) has.1.1)) has.1.2

-- ---- one number more
pub each_below : (P : ℕ → Type 0) (n : ℕ) → ((h : ℕ) → h < n → P h) → P n → (h : ℕ) → h < n + 1 → P h
each_below P n before here h lt =
    ⊎_elim
    (λ below. before h below)
    (λ past. let is : n ≡ h = omega (arith, past, lt) in subst P is here)
    (cases_lt h n)

-- a mark more: what is known of each row that has none
pub others_more : (P : ℕ → Type 0) (marks : List Bool) (x : Bool) → ((k : ℕ) → k < length marks → (IsMarked marks k → ⊥) → P k) → (x ≡ false → P (length marks)) → (k : ℕ) → k < length marks + 1 → (IsMarked (marks ++ x ∷ []) k → ⊥) → P k
others_more P marks x before last k lt other =
    ⊎_elim
    (λ below. before k below (λ marked. other (earlier_one marks (marks ++ x ∷ []) x false k refl below ∙ marked)))
    (λ past.
    let is : k ≡ length marks = omega (arith, past, lt) in
    subst P (sym is) (last (not_true x (λ true_x. other (last_one marks (marks ++ x ∷ []) x false k refl is ∙ true_x)))))
    (cases_lt k (length marks))
  where
    not_true : (y : Bool) → (y ≡ true → ⊥) → y ≡ false
    not_true true none = absurd (none refl)
    not_true false none = refl
