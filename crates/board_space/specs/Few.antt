-- Every order, those in which few harts are preempted, or those with few power-ons: whose turn an event is, and which orders are asked for.
use Rattle.std.specs.Prelude.{ℕ, ◌-◌, ◌==◌, ◌≤◌, ◌⊎◌, nat_lt, Bool, true, false, List, Option, Some, None, if◌then◌else◌}
use Rattle.model_board.specs.Boards.{Board, On, Off, Ended}
use Rattle.model_board.specs.Events.{Event, Turn, Refused, Wake, Cut, PowerOn, GoesOn, IsEnd}
use Rattle.model_board.specs.Maps.{Map}
use Rattle.state_space.specs.Bounded.{Budget, Waits, Within}
use Rattle.state_space.specs.Counted.{Counted, counted_rules, how_many}
use Rattle.state_space.specs.Orders.{Runs, CanEnd}
use Rattle.state_space.specs.Switched.{Switched, within_rules}
use Rattle.state_space.specs.Systems.{Rules}
use Rattle.board_space.specs.Space.{Asked, Happens, Steps, board_rules, start_of}
use Rattle.board_space.specs.declared.bounds.Bound.{Bound}
use Rattle.board_space.specs.declared.bounds.Bound.TheVariants.{Unbounded, Preemptions, PowerOns}

-- a refused turn is its hart's too
abbrev pub hart_of : Event → Option ℕ
hart_of (Turn h) = Some h
hart_of (Refused h down) = Some h
hart_of Wake = None
hart_of Cut = None
hart_of PowerOn = None

-- the same by the event's number
abbrev pub hart_of_number : ℕ → Option ℕ
hart_of_number n =
    if nat_lt n 8 then Some n else (if nat_lt n 16 then Some (n - 8) else (if nat_lt n 24 then Some (n - 16) else None))

-- the number of a hart's turn, and of no event where there is no such hart
abbrev pub turn_number : ℕ → ℕ
turn_number p = if nat_lt p 8 then p else 27

-- a hart waits where at most so many turns of its own lead back to the same board
abbrev pub MOST_WAITED : ℕ
MOST_WAITED = 100

abbrev pub WaitsAt : Asked → ℕ → Board → Type 0
WaitsAt asked = Waits (Steps asked) turn_number MOST_WAITED

abbrev pub few_rules : Asked → Map → ℕ → Rules (Switched Board)
few_rules asked map switches = within_rules (board_rules asked map) hart_of_number (WaitsAt asked) switches

-- no hart made the last turn, and `switches` may still be preempted
abbrev pub begins_with : ℕ → Budget
begins_with switches = record { last = None; left = switches }

-- Events lead to a board from one that was never on, and in their order at most `switches` harts are preempted: another hart's turn follows
-- a hart's, which does not wait there.
abbrev pub RunsFew : Asked → ℕ → List Event → Board → Type 0
RunsFew asked switches events last =
    (left : Budget) × Within (Happens asked) Turn hart_of MOST_WAITED events (start_of asked) (begins_with switches) last left

-- ---- power-ons
abbrev pub is_power_on : Event → Bool
is_power_on (Turn h) = false
is_power_on (Refused h down) = false
is_power_on Wake = false
is_power_on Cut = false
is_power_on PowerOn = true

-- the same by the event's number
abbrev pub is_power_on_number : ℕ → Bool
is_power_on_number n = n == 26

abbrev pub life_rules : Asked → Map → ℕ → Rules (Counted Board)
life_rules asked map most = counted_rules (board_rules asked map) is_power_on_number most

-- Events lead to a board from one that was never on, and at most `most` of them are power-ons.
abbrev pub RunsLives : Asked → ℕ → List Event → Board → Type 0
RunsLives asked most events last = Runs (Happens asked) events (start_of asked) last × (how_many is_power_on events ≤ most)

-- ---- the orders of a bound
abbrev pub RunsBy : Asked → Bound → List Event → Board → Type 0
RunsBy asked Unbounded events last = Runs (Happens asked) events (start_of asked) last
RunsBy asked (Preemptions switches) events last = RunsFew asked switches events last
RunsBy asked (PowerOns most) events last = RunsLives asked most events last

-- the board is off, and goes on with a power-on
abbrev pub IsAway : Board → Type 0
IsAway (On l) = ⊥
IsAway (Off s) = Unit {0}
IsAway (Ended s) = ⊥

-- where power-ons are bounded: what follows it may be out of the bound
abbrev pub IsAwayBy : Bound → Board → Type 0
IsAwayBy Unbounded b = ⊥
IsAwayBy (Preemptions switches) b = ⊥
IsAwayBy (PowerOns most) b = IsAway b

-- to what each order is claimed to go on: to an end; where power-ons are bounded, to an end or to where the next one is due
abbrev pub IsLastBy : Bound → Board → Type 0
IsLastBy Unbounded b = IsEnd b
IsLastBy (Preemptions switches) b = IsEnd b
IsLastBy (PowerOns most) b = IsEnd b ⊎ IsAway b

-- what is asked, and how its orders are bounded
pub record AskedOrders : Type 0 where
  pub asked : Asked
  pub bound : Bound

-- events lead to a board from one that was never on, in an order that is asked for
abbrev pub RunsAsked : AskedOrders → List Event → Board → Type 0
RunsAsked orders = RunsBy orders.asked orders.bound

-- some events that are no failures lead from the board to where each order is claimed to go on to
abbrev pub GoesOnToLast : AskedOrders → Board → Type 0
GoesOnToLast orders = CanEnd (Happens orders.asked) GoesOn (IsLastBy orders.bound)
