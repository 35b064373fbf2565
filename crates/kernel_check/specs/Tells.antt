-- What is told of every order. Source: docs/CHECKING.md, "What the verdict says, and what not".
use Rattle.std.specs.Prelude.{◌≡◌, ℕ, List, [], ◌∷◌}
use Rattle.board_model.specs.declared.durable.Reason.{Reason}
use Rattle.model_board.specs.Boards.{Board, On, Off, Ended}
use Rattle.model_board.specs.Events.{Event, IsEnd}
use Rattle.state_space.specs.Orders.{Leads}
use Rattle.board_space.specs.Few.{AskedOrders, GoesOnToLast, RunsAsked}
use Rattle.board_space.specs.Space.{Asked, Happens, start_of}
use Rattle.kernel_check.specs.Shown.{IsAsExpected, ShowsSome, looked}
use Rattle.kernel_check.specs.declared.facts.EndKind.{EndKind}
use Rattle.kernel_check.specs.declared.facts.EndShown.{EndShown}
use Rattle.kernel_check.specs.declared.facts.EndShown.TheVariants as shown
use Rattle.kernel_check.specs.declared.looks.Look.{Look}

-- a board that is on, and whose memory that is so
abbrev pub IsOnWith : (List ℕ → Type 0) → Board → Type 0
IsOnWith Is (On l) = Is l.machine.memory
IsOnWith Is (Off s) = ⊥
IsOnWith Is (Ended s) = ⊥

-- a board that was shut down for that reason
abbrev pub EndsBy : Reason → Board → Type 0
EndsBy why (On l) = ⊥
EndsBy why (Off s) = ⊥
EndsBy why (Ended s) = s.reason ≡ why

-- its looks show these bytes, or it was shut down for that reason
abbrev pub Shows : List Look → EndShown → Board → Type 0
Shows looks (shown.On bytes) = IsOnWith (λ memory. looked looks memory ≡ bytes.items)
Shows looks (shown.Shutdown why) = EndsBy why

-- that is what a board shows, unless it is off
abbrev pub ShownBy : List Look → Board → EndShown → Type 0
ShownBy looks (On l) end = Shows looks end (On l)
ShownBy looks (Off s) end = Unit {0}
ShownBy looks (Ended s) end = Shows looks end (Ended s)

-- the events that are asked for lead from a board that was never on to one that is so
abbrev pub Comes : Asked → (Board → Type 0) → Type 0
Comes asked Is = (b : Board) × Leads (Happens asked) (start_of asked) b × Is b

-- some board is at an end, and shows this
abbrev pub EndsWith : Asked → List Look → EndShown → Type 0
EndsWith asked looks end = Comes asked (λ b. IsEnd b × ShownBy looks b end)

-- Take any list of events in an order that is asked for. If they lead to an end, it shows this; and from the board that they lead to, some
-- events that are no failures lead to an end. Where power-ons are bounded, they lead to an end, or to where the next one is due.
pub record EveryOrder (orders : AskedOrders) (Shown : Board → Type 0) : Type 0 where
  pub ends : (events : List Event) (last : Board) → RunsAsked orders events last → IsEnd last → Shown last
  pub no_dead_end : (events : List Event) (last : Board) → RunsAsked orders events last → GoesOnToLast orders last

-- ---- the verdict that nothing is wrong
-- Every order ends, all ends show the same, that is what is expected, and it is something. Some events lead to such an end: where orders are
-- bounded, there might be none in them all.
pub record Holds (orders : AskedOrders) (looks : List Look) (end : EndShown) : Type 0 where
  pub every : EveryOrder orders (Shows looks end)
  pub expected : IsAsExpected looks end
  pub some : ShowsSome looks end
  pub comes : EndsWith orders.asked looks end

-- and no other kind of ends is told
abbrev pub HoldsAs : AskedOrders → List Look → List EndKind → Type 0
HoldsAs orders looks kinds = (kind : EndKind) × (kinds ≡ kind ∷ []) × Holds orders looks kind.shown
