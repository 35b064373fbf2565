-- A search within a number of power-ons that is closed speaks of every order that has no more of them.
use Rattle.std.proofs.{Common.{◌≡◌, ℕ, ◌+◌, ◌<◌, ◌≤◌, Bool, true, false, List, refl, sym, subst, arith}, lemmas.Bool.ne_eqb}
use Rattle.model_board.specs.{Boards.{Board, On, Off, Ended}, Events.{Event, Turn, Refused, Wake, Cut, PowerOn, Does, IsEnd, GoesOn}}
use Rattle.model_board.specs.Maps.{Map}
use Rattle.board_model.specs.Shapes.{Size}
use Rattle.state_space.specs.{declared.graph.Graph.Graph, Counted.{Counted, DoesCounted, LocalCounted, Spends, StandsCounted}}
use Rattle.state_space.specs.{Deads.{IsMarked, Reaches}, Graphs.{count_of, expanded_of, row_at, IsSearched, IsFound}, Systems.Moves}
use Rattle.state_space.{specs.Orders.{Leads, Only, Chain, IsClosed, Meets, CanEnd}, proofs.AllOrders.{all_orders, leads_on, runs_along}}
use Rattle.state_space.proofs.Spending.{chain_counted, counted_reduction, counted_run}
use Rattle.state_space.proofs.Tells.{found_covered, kind_reached, closed_by_cover}
use Rattle.board_space.specs.{Few.{IsAway, IsLastBy, RunsLives, is_power_on, is_power_on_number, life_rules}, Moving.Moving}
use Rattle.board_space.{specs.{Searches.StandsLives, declared.bounds.Bound.TheVariants.PowerOns}, proofs.EventNumbers.small}
use Rattle.board_space.specs.Space.{Asked, IsSmall, Happens, number_of, KeepsEach, IsLocalTurn, Settles, GoesBy, board_rules, start_of}
use Rattle.board_space.proofs.{Every.rules_end, Reduced.reduced, Searching.life_move}

-- ---- one that is a power-on is one by its number
pub same_power_on : (e : Event) → IsSmall e → is_power_on_number (number_of e) ≡ is_power_on e
same_power_on (Turn h) x = ne_eqb h 26 (λ is. omega (arith, x, is))
same_power_on (Refused h false) x = ne_eqb (8 + h) 26 (λ is. omega (arith, x, is))
same_power_on (Refused h true) x = ne_eqb (16 + h) 26 (λ is. omega (arith, x, is))
same_power_on Wake x = refl
same_power_on Cut x = refl
same_power_on PowerOn x = refl

pub spends_by : (e : Event) (left after : ℕ) → IsSmall e → Spends (is_power_on e) left after → Spends (is_power_on_number (number_of e)) left after
spends_by e left after x spends = subst (λ (t : Bool). Spends t left after) (sym (same_power_on e x)) spends

-- a board that a power-on comes to is off
pub powered_away : (payload : List ℕ) (size : Size) (b c : Board) → Does payload size PowerOn b c → IsAway b
powered_away payload size (On l) c did = did
powered_away payload size (Off s) c did = tt
powered_away payload size (Ended s) c did = did

module _ (moving : Moving) (asked : Asked) (map : Map) (most : ℕ) (stands : List ℕ → Board → Type 0) (graph : Graph)
    (searched : IsSearched (life_rules asked map most) (StandsCounted stands) graph) (all : expanded_of graph ≡ count_of graph) (few : asked.size.harts ≤ 8) where
  abbrev DoesLife : Event → Counted Board → Counted Board → Type 0
  DoesLife = DoesCounted (Happens asked) is_power_on

  abbrev KeepsLife : Event → Counted Board → Type 0
  KeepsLife e b = KeepsEach asked map e b.state

  abbrev Local : ℕ → Counted Board → Counted Board → Type 0
  Local = LocalCounted (IsLocalTurn asked.size map)

  abbrev Seen : Counted Board → Type 0
  Seen = IsFound (StandsCounted stands) graph

  settled : (b c : Counted Board) → Settles asked.size map b.state c.state × (c.left ≡ b.left) → (n : ℕ) × Chain Local n b c
  settled b c settles = (settles.0.0, chain_counted (IsLocalTurn asked.size map) settles.0.0 b c settles.0.1 settles.1)

  closed : IsClosed DoesLife KeepsLife Local Seen
  closed =
      closed_by_cover DoesLife KeepsLife Local (life_rules asked map most) number_of Seen
      (λ e b c did. ((e, refl, did.0), spends_by e b.left c.left (small asked e few did.0.0) did.1))
      (λ b keeps. keeps)
      settled
      (found_covered (life_rules asked map most) (StandsCounted stands) graph searched all)

  abbrev first_of : Counted Board
  first_of = record { state = start_of asked; left = most }

  -- what is met after such a list of events
  pub met : (events : List Event) (last : Board) → RunsLives asked most events last → (left : ℕ) × Meets DoesLife GoesOn (λ b. IsEnd b.state) KeepsLife Seen (record { state = last; left = left })
  met events last runs =
      let run = counted_run (Happens asked) is_power_on events (start_of asked) last most runs.0 runs.1 in
      let first = searched.start in
      let chain = settled first_of first.0 first.1 in (
        run.0,
        all_orders DoesLife Turn (λ b. IsEnd b.state) KeepsLife Local
            (counted_reduction (Happens asked) is_power_on Turn IsEnd (KeepsEach asked map) (IsLocalTurn asked.size map) (λ h. refl) (reduced moving asked map))
            GoesOn (λ h. tt) Seen closed
            chain.0 first_of first.0 (record { state = last; left = run.0 }) events chain.1 (0, searched.some, first.2) run.1,
      )

  -- each end that such an order leads to was found
  pub lives_ends : (events : List Event) (last : Board) → RunsLives asked most events last → IsEnd last → IsFound (StandsLives stands) graph last
  lives_ends events last runs end =
      let here = met events last runs in
      let found = here.1.ended end in
      (found.0, found.1, (here.0, found.2))

  -- where each row goes on to a goal, each order goes on to an end, or to where the next power-on is due
  pub lives_go_on : (goals : List Bool) → ((k : ℕ) → IsMarked goals k → (b : Board) → StandsLives stands (row_at graph k) b → IsLastBy (PowerOns most) b) → ((k : ℕ) → k < count_of graph → Reaches (GoesBy asked) graph goals k) → (events : List Event) (last : Board) → RunsLives asked most events last → CanEnd (Happens asked) GoesOn (IsLastBy (PowerOns most)) last
  lives_go_on goals lasts reach events last runs =
      let here = met events last runs in
      let x : Counted Board = here.1.joins.0 in
      let found = here.1.joins.2 in
      let can = kind_reached (life_rules asked map most) (StandsCounted stands) graph searched (IsMarked goals) (λ c. IsLastBy (PowerOns most) c.state) (λ k c marked has. lasts k marked c.state (c.left, has)) found.0 x (reach found.0 found.1) found.2 in
      let then = rules_end moving asked map (IsLastBy (PowerOns most)) x.state (
        can.0.state,
        (
          can.1.0,
          runs_along (Only (GoesBy asked) (Moves (life_rules asked map most))) (Only (GoesBy asked) (Moves (board_rules asked map))) (λ (s : Counted Board). s.state)
              (λ n b c move. (move.0, life_move asked map most n b c move.1)) can.1.0 x can.0 can.1.1,
        ),
        can.2,
      ) in
      let joins : Leads (Only GoesOn (Happens asked)) last x.state = (
        here.1.joins.1.0,
        runs_along (Only GoesOn DoesLife) (Only GoesOn (Happens asked)) (λ (s : Counted Board). s.state) (λ e b c did. (did.0, did.1.0)) here.1.joins.1.0 (record { state = last; left = here.0 }) x here.1.joins.1.1,
      ) in
      (then.0, leads_on (Only GoesOn (Happens asked)) last x.state then.0 joins then.1, then.2)
