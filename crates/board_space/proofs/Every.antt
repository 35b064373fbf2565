-- A search that is closed speaks of every list of events.
use Rattle.std.proofs.Common.{◌≡◌, ℕ, zero, suc, ◌<◌, Bool, List, [], refl}
use Rattle.model_board.specs.{Boards.Board, Events.{Event, Turn, IsEnd, GoesOn}, Maps.Map}
use Rattle.state_space.specs.{declared.graph.Graph.Graph, Orders.{Runs, Leads, Only, Chain, IsClosed, Meets, CanEnd}, Systems.Moves}
use Rattle.state_space.specs.{Graphs.{count_of, expanded_of, row_at, IsSearched, IsFound}, Deads.{IsMarked, Reaches}}
use Rattle.state_space.proofs.AllOrders.{leads_by, leads_lifted, all_orders, can_end}
use Rattle.state_space.proofs.Tells.{found_covered, kind_reached, closed_by_cover}
use Rattle.board_space.specs.{Space.{Asked, Happens, number_of, KeepsEach, IsLocalTurn, GoesBy, board_rules, start_of}, Moving.Moving}
use Rattle.board_space.proofs.Reduced.{reduced}

-- local turns are turns, by which a board goes on
pub chain_goes : Moving → (asked : Asked) (map : Map) (n : ℕ) (b c : Board) → Chain (IsLocalTurn asked.size map) n b c → Leads (Only GoesOn (Happens asked)) b c
chain_goes moving asked map zero b c chain = ([], chain)
chain_goes moving asked map (suc n) b c chain =
    leads_by (Only GoesOn (Happens asked)) (Turn chain.0) b chain.1 c
    (tt, ((chain.2.0, tt), moving.turns asked.payload asked.size map chain.0 b chain.1 chain.2.1))
    (chain_goes moving asked map n chain.1 c chain.3)

-- so is a move by which the rules go on
pub move_goes : Moving → (asked : Asked) (map : Map) (n : ℕ) (b c : Board) → Only (GoesBy asked) (Moves (board_rules asked map)) n b c → Leads (Only GoesOn (Happens asked)) b c
move_goes moving asked map n b c move =
    let step = move.1.1 in
    leads_by (Only GoesOn (Happens asked)) step.0 b move.1.0 c
    (move.0 step.0 step.2.0 step.1, step.2)
    (chain_goes moving asked map move.1.2.0 move.1.0 c move.1.2.1)

pub rules_end : Moving → (asked : Asked) (map : Map) (Is : Board → Type 0) (b : Board) → CanEnd (Moves (board_rules asked map)) (GoesBy asked) Is b → CanEnd (Happens asked) GoesOn Is b
rules_end moving asked map Is b can = (
  can.0,
  leads_lifted (Only GoesOn (Happens asked)) (Only (GoesBy asked) (Moves (board_rules asked map))) (move_goes moving asked map) can.1.0 b can.0 can.1.1,
  can.2,
)

module _ (moving : Moving) (asked : Asked) (map : Map) (stands : List ℕ → Board → Type 0) (graph : Graph) (searched : IsSearched (board_rules asked map) stands graph) (all : expanded_of graph ≡ count_of graph) where
  closed : IsClosed (Happens asked) (KeepsEach asked map) (IsLocalTurn asked.size map) (IsFound stands graph)
  closed =
      closed_by_cover (Happens asked) (KeepsEach asked map) (IsLocalTurn asked.size map) (board_rules asked map) number_of (IsFound stands graph)
      (λ e b c did. (e, refl, did))
      (λ b keeps. keeps)
      (λ b c settles. settles)
      (found_covered (board_rules asked map) stands graph searched all)

  pub meets : (events : List Event) (last : Board) → Runs (Happens asked) events (start_of asked) last → Meets (Happens asked) GoesOn IsEnd (KeepsEach asked map) (IsFound stands graph) last
  meets events last run =
      let first = searched.start in
      all_orders (Happens asked) Turn IsEnd (KeepsEach asked map) (IsLocalTurn asked.size map) (reduced moving asked map) GoesOn (λ h. tt) (IsFound stands graph) closed
      first.1.0 (start_of asked) first.0 last events first.1.1 (0, searched.some, first.2) run

  pub no_dead_end : (goals : List Bool) → ((k : ℕ) → IsMarked goals k → (b : Board) → stands (row_at graph k) b → IsEnd b) → ((k : ℕ) → k < count_of graph → Reaches (GoesBy asked) graph goals k) → (events : List Event) (last : Board) → Runs (Happens asked) events (start_of asked) last → CanEnd (Happens asked) GoesOn IsEnd last
  no_dead_end goals ends reach events last run =
      can_end (Happens asked) GoesOn IsEnd (KeepsEach asked map) (IsFound stands graph)
      (λ b found. rules_end moving asked map IsEnd b (kind_reached (board_rules asked map) stands graph searched (IsMarked goals) IsEnd (λ k c marked has. ends k marked c has) found.0 b (reach found.0 found.1) found.2))
      last (meets events last run)
