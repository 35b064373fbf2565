-- What is asked of a board: in which orders events may come, and what a search of its states goes by.
use Rattle.std.specs.Prelude.{◌≡◌, ℕ, ◌+◌, ◌<◌, Bool, true, false, List, None}
use Rattle.board_model.specs.Shapes.{Size}
use Rattle.board_model.specs.declared.durable.Reason.{Reason}
use Rattle.model_board.specs.Boards.{Board, Off}
use Rattle.model_board.specs.Events.{Event, Turn, Refused, Wake, Cut, PowerOn, Does, IsEnd, GoesOn}
use Rattle.model_board.specs.LeftOut.{StandsFor, ReadsNone}
use Rattle.model_board.specs.Maps.{Map, Keeps, TurnKeeps, Local}
use Rattle.model_board.specs.Plain.{standing}
use Rattle.model_board.specs.Registers.{MovesPc}
use Rattle.state_space.specs.Orders.{Chain}
use Rattle.state_space.specs.Systems.{Rules}

-- A board of that size whose boot slot holds the payload, and whose first boot finds that reset reason; whether power may
-- fail at any moment; and whether the store may refuse a sleep or a reset.
pub record Asked : Type 0 where
  pub size : Size
  pub payload : List ℕ
  pub reason : Reason
  pub cuts : Bool
  pub refusals : Bool

-- it is off, and no image stands
abbrev pub start_of : Asked → Board
start_of asked = Off (standing asked.reason None)

-- ---- the events that are asked for: the turns of the harts that the board has, and its operator's
-- the hart of the event, where it is one's turn, is one of the board
abbrev pub HasHart : Size → Event → Type 0
HasHart size (Turn h) = h < size.harts
HasHart size (Refused h down) = h < size.harts
HasHart size Wake = Unit {0}
HasHart size Cut = Unit {0}
HasHart size PowerOn = Unit {0}

abbrev pub IsWanted : Asked → Event → Type 0
IsWanted asked (Turn h) = Unit {0}
IsWanted asked (Refused h down) = asked.refusals ≡ true
IsWanted asked Wake = Unit {0}
IsWanted asked Cut = asked.cuts ≡ true
IsWanted asked PowerOn = Unit {0}

abbrev pub IsOne : Asked → Event → Type 0
IsOne asked e = HasHart asked.size e × IsWanted asked e

-- one of them leads from a board to another
abbrev pub Happens : Asked → Event → Board → Board → Type 0
Happens asked e b c = IsOne asked e × Does asked.payload asked.size e b c

-- ---- numbers of events, on a board of at most eight harts
abbrev pub number_of : Event → ℕ
number_of (Turn h) = h
number_of (Refused h false) = 8 + h
number_of (Refused h true) = 16 + h
number_of Wake = 24
number_of Cut = 25
number_of PowerOn = 26

-- the hart of the event, where it is one's turn, is below 8
abbrev pub IsSmall : Event → Type 0
IsSmall (Turn h) = h < 8
IsSmall (Refused h down) = h < 8
IsSmall Wake = Unit {0}
IsSmall Cut = Unit {0}
IsSmall PowerOn = Unit {0}

-- ---- what a search goes by, under a map
-- each event that is asked for keeps the map
abbrev pub KeepsEach : Asked → Map → Event → Board → Type 0
KeepsEach asked map e b = IsOne asked e → Keeps map e b

-- a turn of a hart of the board is local
abbrev pub IsLocalTurn : Size → Map → ℕ → Board → Board → Type 0
IsLocalTurn size map h b c = (h < size.harts) × Local map h b c

-- a board settles to one that some local turns lead to
abbrev pub Settles : Size → Map → Board → Board → Type 0
Settles size map b c = (n : ℕ) × Chain (IsLocalTurn size map) n b c

abbrev pub Steps : Asked → ℕ → Board → Board → Type 0
Steps asked n b c = (e : Event) × (number_of e ≡ n) × Happens asked e b c

abbrev pub GoesBy : Asked → ℕ → Type 0
GoesBy asked n = (e : Event) → IsOne asked e → number_of e ≡ n → GoesOn e

abbrev pub board_rules : Asked → Map → Rules Board
board_rules asked map = record {
  start = start_of asked;
  steps = Steps asked;
  goes = GoesBy asked;
  settles = Settles asked.size map;
  keeps = λ b. (e : Event) → KeepsEach asked map e b;
  is_end = IsEnd;
}

-- ---- rows that stand for more than one board
-- the first board stands for the second, where registers are left out, or is it
abbrev pub IsFor : Bool → Board → Board → Type 0
IsFor true b c = StandsFor b c
IsFor false b c = c ≡ b

-- the event reads no register that is left out, where some are
abbrev pub ReadsKept : Bool → Event → Board → Type 0
ReadsKept true e b = ReadsNone e b
ReadsKept false e b = Unit {0}

-- what the turn of a hart touches, it may, and it reads no such register
abbrev pub KeepsSure : Map → Bool → ℕ → Board → Type 0
KeepsSure map leaves h b = TurnKeeps map h b × ReadsKept leaves (Turn h) b

-- a local turn that changes the pc, and reads no such register
abbrev pub IsSureTurn : Size → Map → Bool → ℕ → Board → Board → Type 0
IsSureTurn size map leaves h b c = IsLocalTurn size map h b c × ReadsKept leaves (Turn h) b × MovesPc h b c

abbrev pub SettlesSure : Size → Map → Bool → Board → Board → Type 0
SettlesSure size map leaves b c = (n : ℕ) × Chain (IsSureTurn size map leaves) n b c

-- what is asked of the board of a row
abbrev pub sure_rules : Asked → Map → Bool → Rules Board
sure_rules asked map leaves = record {
  start = start_of asked;
  steps = Steps asked;
  goes = GoesBy asked;
  settles = SettlesSure asked.size map leaves;
  keeps = λ b. (e : Event) → IsOne asked e → Keeps map e b × ReadsKept leaves e b;
  is_end = IsEnd;
}
