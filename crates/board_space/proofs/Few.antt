-- A search within a number of switches that is closed speaks of every order in which few harts are preempted.
use Rattle.std.proofs.Common.{◌≡◌, ⊎_elim, inl, inr, ℕ, zero, suc, ◌+◌, ◌-◌, ◌<◌, ◌≤◌, Bool, true, false, List, [], ◌∷◌, Option, Some, None, refl, sym, ap, ◌∙◌, subst, arith}
use Rattle.std.{specs.Prelude.{nat_lt, if◌then◌else◌}, proofs.lemmas.Bool.{lt-ltb, le-ltb}}
use Rattle.model_board.specs.{Boards.{Board, On, Off, Ended}, Maps.{Map, Local}}
use Rattle.model_board.specs.Events.{Event, Turn, Refused, Wake, Cut, PowerOn, TurnOn, IsEnd, IsOff, GoesOn}
use Rattle.state_space.specs.{declared.graph.Graph.Graph, Deads.{IsMarked, Reaches}, Orders.{Only, Runs, CanEnd}, Systems.Moves}
use Rattle.state_space.specs.Bounded.{Budget, Turns, Waits, IsFreeBy, PaysBy, Within, Switching, IsClosedWithin, MeetsWithin}
use Rattle.state_space.specs.{Graphs.{count_of, expanded_of, row_at, IsSearched, IsFound, IsCovered}, Switched.{Switched, StandsWithin}}
use Rattle.state_space.proofs.{Bounded.{bounded_orders, can_end_within}, Tells.{found_covered, kind_reached}}
use Rattle.board_space.specs.Few.{hart_of, hart_of_number, turn_number, MOST_WAITED, WaitsAt, few_rules, begins_with, RunsFew}
use Rattle.board_space.{specs.{Searches.StandsFew, Moving.Moving}, proofs.{EventNumbers.small, Every.rules_end, Reduced.reduced}}
use Rattle.board_space.specs.Space.{Asked, IsSmall, Happens, Steps, number_of, KeepsEach, IsLocalTurn, GoesBy, board_rules, start_of}
use Rattle.board_space.proofs.Searching.{inner_move}

chosen : {A : Type 0} (t : Bool) (a b : A) → t ≡ true → (if t then a else b) ≡ a
chosen t a b is = ap (λ (x : Bool). if x then a else b) is

other : {A : Type 0} (t : Bool) (a b : A) → t ≡ false → (if t then a else b) ≡ b
other t a b is = ap (λ (x : Bool). if x then a else b) is

pub same_hart_of : (e : Event) → IsSmall e → hart_of_number (number_of e) ≡ hart_of e
same_hart_of (Turn h) x = chosen (nat_lt h 8) (Some h) _ (lt-ltb h 8 x)
same_hart_of (Refused h false) x =
    other (nat_lt (8 + h) 8) (Some (8 + h)) _ (le-ltb (8 + h) 8 (omega arith))
    ∙ (chosen (nat_lt (8 + h) 16) (Some (8 + h - 8)) _ (lt-ltb (8 + h) 16 (omega (arith, x)))
    ∙ ap (λ (n : ℕ). Some n) (omega arith))
same_hart_of (Refused h true) x =
    other (nat_lt (16 + h) 8) (Some (16 + h)) _ (le-ltb (16 + h) 8 (omega arith))
    ∙ (other (nat_lt (16 + h) 16) (Some (16 + h - 8)) _ (le-ltb (16 + h) 16 (omega arith))
    ∙ (chosen (nat_lt (16 + h) 24) (Some (16 + h - 16)) None (lt-ltb (16 + h) 24 (omega (arith, x)))
    ∙ ap (λ (n : ℕ). Some n) (omega arith)))
same_hart_of Wake x = refl
same_hart_of Cut x = refl
same_hart_of PowerOn x = refl

pub turn_below : (p : ℕ) → p < 8 → turn_number p ≡ p
turn_below p low = chosen (nat_lt p 8) p 27 (lt-ltb p 8 low)

pub turn_past : (p : ℕ) → 8 ≤ p → turn_number p ≡ 27
turn_past p high = other (nat_lt p 8) p 27 (le-ltb p 8 high)

-- ---- turns of the harts
off_turns : (h : ℕ) (b c : Board) → IsOff b → TurnOn h b c → IsOff c
off_turns h (On l) c off turn = absurd off
off_turns h (Off s) c off turn = subst (λ (d : Board). IsOff d) (sym turn) tt
off_turns h (Ended s) c off turn = subst (λ (d : Board). IsOff d) (sym turn) tt

local_on : (map : Map) (h : ℕ) (b c : Board) → Local map h b c → IsOff b → ⊥
local_on map h (On l) c local off = off
local_on map h (Off s) c local off = local
local_on map h (Ended s) c local off = local

switching : (moving : Moving) (asked : Asked) (map : Map) → Switching (Happens asked) Turn (KeepsEach asked map) (IsLocalTurn asked.size map) hart_of IsOff
switching moving asked map = record {
  whose = λ p. refl;
  stays = λ p b c off did. off_turns p b c off did.1;
  is_on = λ p b c is off. local_on map p b c is.1 off;
  swaps = λ p e b c d is other keeps did.
      ⊎_elim
      (λ lost. inl ((did.0, lost.0), lost.1))
      (λ met. inr (met.0, (did.0, met.1), (is.0, met.2)))
      (moving.swaps asked.payload asked.size map p e b c d is.1 other (keeps did.0) did.1);
}

-- ---- a hart that waits by its events waits by their numbers
module _ (asked : Asked) (few : asked.size.harts ≤ 8) where
  turns_by : (g n : ℕ) (b c : Board) → Turns (Happens asked) Turn g n b c → Turns (Steps asked) turn_number g n b c
  turns_by g zero b c turns = turns
  turns_by g (suc n) b c turns =
      let low : g < 8 = omega (arith, turns.1.0.0, few) in
      (turns.0, (Turn g, sym (turn_below g low), turns.1), turns_by g n turns.0 c turns.2)

  waits_by : (g : ℕ) (b : Board) → Waits (Happens asked) Turn MOST_WAITED g b → WaitsAt asked g b
  waits_by g b waits = (waits.0, waits.1, turns_by g (suc waits.0) b b waits.2)

  free_by : (o : Option ℕ) (p : ℕ) (b : Board) → IsFreeBy (Waits (Happens asked) Turn MOST_WAITED) o p b → IsFreeBy (WaitsAt asked) o p b
  free_by None p b free = free
  free_by (Some g) p b free = ⊎_elim (λ own. inl own) (λ waits. inr (waits_by g b waits)) free

  pays_by : (who : Option ℕ) (b : Board) (w v : Budget) → PaysBy (Waits (Happens asked) Turn MOST_WAITED) who b w v → PaysBy (WaitsAt asked) who b w v
  pays_by None b w v pays = pays
  pays_by (Some p) b w v pays = (pays.0, ⊎_elim (λ free. inl (free_by w.last p b free.0, free.1)) (λ cost. inr cost) pays.1)

module _ (moving : Moving) (asked : Asked) (map : Map) (switches : ℕ) (stands : List ℕ → Board → Type 0) (graph : Graph)
    (searched : IsSearched (few_rules asked map switches) (StandsWithin stands) graph) (all : expanded_of graph ≡ count_of graph) (few : asked.size.harts ≤ 8) where
  abbrev pub Seen : Board → Budget → Type 0
  Seen b w = IsFound (StandsWithin stands) graph (record { state = b; budget = w })

  cover : IsCovered (few_rules asked map switches) (IsFound (StandsWithin stands) graph)
  cover = found_covered (few_rules asked map switches) (StandsWithin stands) graph searched all

  closed : IsClosedWithin (Happens asked) Turn hart_of MOST_WAITED (KeepsEach asked map) (IsLocalTurn asked.size map) Seen
  closed b w has e v pays =
      let s : Switched Board = record { state = b; budget = w } in (
        (cover s has).0 e,
        λ c did.
            let paid : PaysBy (WaitsAt asked) (hart_of_number (number_of e)) b w v = subst (λ (o : Option ℕ). PaysBy (WaitsAt asked) o b w v) (sym (same_hart_of e (small asked e few did.0))) (pays_by asked few (hart_of e) b w v pays) in
            let to = (cover s has).1 (number_of e) (record { state = c; budget = v }) ((e, refl, did), paid) in
            (to.1.0.0, to.0.state, to.0.budget, to.1.0.1, to.2, to.1.1),
      )

  met : (events : List Event) (last : Board) (left : Budget) → Within (Happens asked) Turn hart_of MOST_WAITED events (start_of asked) (begins_with switches) last left → MeetsWithin (Happens asked) Turn hart_of MOST_WAITED GoesOn IsEnd (KeepsEach asked map) Seen last left
  met events last left run =
      let first = searched.start in
      bounded_orders (Happens asked) Turn hart_of MOST_WAITED GoesOn IsEnd (KeepsEach asked map) Seen (IsLocalTurn asked.size map) (reduced moving asked map) IsOff (switching moving asked map) (λ h. tt) closed
      first.1.0.0 (start_of asked) first.0.state last (begins_with switches) first.0.budget left events first.1.0.1 (0, searched.some, first.2) first.1.1 run

  -- each end that such an order leads to was found
  pub few_ends : (events : List Event) (last : Board) → RunsFew asked switches events last → IsEnd last → IsFound (StandsFew stands) graph last
  few_ends events last run end =
      let seen = (met events last run.0 run.1).ended end in
      (seen.1.0, seen.1.1, (seen.0, seen.1.2))

  -- a move of the search is one of the boards
  moves_on : (w : List ℕ) (b c : Switched Board) → Runs (Only (GoesBy asked) (Moves (few_rules asked map switches))) w b c → Runs (Only (GoesBy asked) (Moves (board_rules asked map))) w b.state c.state
  moves_on [] b c is = ap (λ (s : Switched Board). s.state) is
  moves_on (n ∷ w) b c run = (run.0.state, (run.1.0, inner_move asked map switches n b run.0 run.1.1), moves_on w run.0 c run.2)

  seen_end : (goals : List Bool) → ((k : ℕ) → IsMarked goals k → (b : Board) → StandsFew stands (row_at graph k) b → IsEnd b) → ((k : ℕ) → k < count_of graph → Reaches (GoesBy asked) graph goals k) → (x : Board) (u : Budget) → Seen x u → CanEnd (Happens asked) GoesOn IsEnd x
  seen_end goals ends reach x u seen =
      let s : Switched Board = record { state = x; budget = u } in
      let can = kind_reached (few_rules asked map switches) (StandsWithin stands) graph searched (IsMarked goals) (λ c. IsEnd c.state) (λ k c marked has. ends k marked c.state (c.budget, has)) seen.0 s (reach seen.0 seen.1) seen.2 in
      rules_end moving asked map IsEnd x (can.0.state, (can.1.0, moves_on can.1.0 s can.0 can.1.1), can.2)

  pub few_no_dead_end : (goals : List Bool) → ((k : ℕ) → IsMarked goals k → (b : Board) → StandsFew stands (row_at graph k) b → IsEnd b) → ((k : ℕ) → k < count_of graph → Reaches (GoesBy asked) graph goals k) → (events : List Event) (last : Board) → RunsFew asked switches events last → CanEnd (Happens asked) GoesOn IsEnd last
  few_no_dead_end goals ends reach events last run =
      can_end_within (Happens asked) Turn hart_of MOST_WAITED GoesOn IsEnd (KeepsEach asked map) Seen (seen_end goals ends reach) last run.0 (met events last run.0 run.1)
