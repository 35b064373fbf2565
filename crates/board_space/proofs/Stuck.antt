-- Boards that moves lead to are boards that some events lead to; and a set of boards from which no event by which one goes on leads out, none
-- of which is at an end, comes to none where nothing fails.
use Rattle.std.proofs.Common.{⊎_elim, ℕ, zero, ◌≤◌, List, refl, sym, subst, inl, inr}
use Rattle.model_board.specs.{Boards.Board, Events.{Event, Turn, IsEnd, GoesOn}, Maps.Map}
use Rattle.state_space.specs.{Orders.{Runs, Leads, Only, Reduction, IsClosed, CanEnd}, Systems.Moves}
use Rattle.state_space.proofs.AllOrders.{leads_on, leads_by, leads_lifted, chain_leads, all_orders}
use Rattle.board_space.specs.Space.{Asked, IsOne, Happens, number_of, KeepsEach, IsLocalTurn, Settles, GoesBy, board_rules, start_of}
use Rattle.board_space.{proofs.{EventNumbers.{small, same_event}, Reduced.reduced}, specs.Moving.Moving}

-- turns and power-ons alone
only_goes : (moving : Moving) (asked : Asked) (map : Map) → Reduction (Only GoesOn (Happens asked)) Turn IsEnd (KeepsEach asked map) (IsLocalTurn asked.size map)
only_goes moving asked map =
    let all : Reduction (Happens asked) Turn IsEnd (KeepsEach asked map) (IsLocalTurn asked.size map) = reduced moving asked map in
    record {
      turns = λ p b c is. (tt, all.turns p b c is);
      only = λ p b c d is did. all.only p b c d is did.1;
      own = all.own;
      moves = all.moves;
      decides = all.decides;
      before = all.before;
      swaps = λ p e b c d is other keeps did.
          ⊎_elim
          (λ lost. inl (did.0, lost))
          (λ met. inr (met.0, (did.0, met.1), met.2))
          (all.swaps p e b c d is other keeps did.1);
    }

pub goes_by : (asked : Asked) (e : Event) → asked.size.harts ≤ 8 → IsOne asked e → GoesOn e → GoesBy asked (number_of e)
goes_by asked e few one goes f other is = subst GoesOn (same_event e f (small asked e few one) (small asked f few other) (sym is)) goes

module _ (moving : Moving) (asked : Asked) (map : Map) where
  -- local turns are events
  pub settle_leads : (b c : Board) → Settles asked.size map b c → Leads (Happens asked) b c
  settle_leads b c settles = chain_leads (Happens asked) Turn IsEnd (KeepsEach asked map) (IsLocalTurn asked.size map) (reduced moving asked map) settles.0 b c settles.1

  move_leads : (n : ℕ) (b c : Board) → Moves (board_rules asked map) n b c → Leads (Happens asked) b c
  move_leads n b c move = leads_by (Happens asked) move.1.0 b move.0 c move.1.2 (settle_leads move.0 c move.2)

  -- so are moves
  pub run_leads : (w : List ℕ) (first b : Board) → Settles asked.size map (start_of asked) first → Runs (Moves (board_rules asked map)) w first b → Leads (Happens asked) (start_of asked) b
  run_leads w first b settles run =
      leads_on (Happens asked) (start_of asked) first b
      (settle_leads (start_of asked) first settles)
      (leads_lifted (Happens asked) (Moves (board_rules asked map)) move_leads w first b run)

  -- ---- such a set
  module _ (set : Board → Type 0) (kept : (b : Board) → set b → (e : Event) → KeepsEach asked map e b) (other : (b : Board) → set b → IsEnd b → ⊥)
      (next : (b : Board) → set b → (e : Event) (c : Board) → GoesOn e → Happens asked e b c → (to : Board) × Settles asked.size map c to × set to) where
    closed : IsClosed (Only GoesOn (Happens asked)) (KeepsEach asked map) (IsLocalTurn asked.size map) set
    closed b has e = (
      kept b has e,
      λ c did. let to = next b has e c did.0 did.1 in (to.1.0, to.0, to.1.1, to.2),
    )

    pub no_end : (b : Board) → set b → CanEnd (Happens asked) GoesOn IsEnd b → ⊥
    no_end b has can =
        let met = all_orders (Only GoesOn (Happens asked)) Turn IsEnd (KeepsEach asked map) (IsLocalTurn asked.size map) (only_goes moving asked map) GoesOn (λ h. tt) set closed zero b b can.0 can.1.0 refl has can.1.1 in
        other can.0 (met.ended can.2) can.2
