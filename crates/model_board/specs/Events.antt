-- What may happen to the model board, in any order and as often as it may. Source: docs/BOARD.md; docs/STORE.md, "A commit".
use Rattle.std.specs.Prelude.{◌≡◌, ◌<◌, ℕ, Bool, true, false, not, List, None}
use Rattle.board_model.specs.Shapes.{Size}
use Rattle.sbi_abi.specs.Calls.{call_of}
use Rattle.sbi_calls.specs.declared.words.Turned.{Turned}
use Rattle.sbi_calls.specs.declared.words.Turned.TheVariants.{Made, Durable}
use Rattle.susp.specs.Dozes.{can_wake, after_wake}
use Rattle.machine.specs.Machine.{Machine, hart_at}
use Rattle.machine.specs.Turns.{MakesTurn}
use Rattle.model_board.specs.Boards.{Life, Board, On, Off, Ended, standing_of, powered}
use Rattle.model_board.specs.Held.{HeldBy, AsksStore}

-- - a turn of a hart;
-- - a turn of a hart whose sleep or reset the store refuses with -1: it is down from then on (`true`, its refusal 6), or
--   not, and the next command tries again (`false`, each other refusal of its own);
-- - the operator's wake of a board that dozes;
-- - power fails, at whatever moment;
-- - the next power-on.
-- A cut within a command is a cut before it or one after it, since the disk has the old state or the new one; so is a
-- command that stays in doubt, once power fails. So a cut leads off from a board that ended as well: its shutdown may
-- have been on the disk when power failed, and not told.
pub data Event : Type 0 where
  Turn : ℕ → Event
  Refused : ℕ → Bool → Event
  Wake : Event
  Cut : Event
  PowerOn : Event

-- ---- a turn of hart h of a board that is on, where the store grants what it is asked or does not
abbrev pub ToldBy : Bool → ℕ → Life → Machine → Turned → Board → Type 0
ToldBy granted h l m (Made did) c = c ≡ On (record l { machine = m })
ToldBy granted h l m Durable c = HeldBy granted h (record l { machine = m }) (call_of (hart_at m h)) c

abbrev pub TurnsBy : Bool → ℕ → Life → Board → Type 0
TurnsBy granted h l c = (m : Machine) × (word : Turned) × MakesTurn h l.machine m word × ToldBy granted h l m word c

-- the turn of hart h comes to a call that asks the store
abbrev pub Asks : ℕ → Machine → Type 0
Asks h m = (n : Machine) × MakesTurn h m n Durable × AsksStore h n (call_of (hart_at n h))

-- a board that is off makes no turn
abbrev pub TurnOn : ℕ → Board → Board → Type 0
TurnOn h (On l) c = TurnsBy (not l.down) h l c
TurnOn h (Off s) c = c ≡ Off s
TurnOn h (Ended s) c = c ≡ Ended s

abbrev pub RefusedOn : ℕ → Bool → Board → Board → Type 0
RefusedOn h down (On l) c = (l.down ≡ false) × Asks h l.machine × TurnsBy false h (record l { down = down }) c
RefusedOn h down (Off s) c = ⊥
RefusedOn h down (Ended s) c = ⊥

abbrev pub woken_up : Machine → Machine
woken_up m = record m { doze = after_wake m.doze }

abbrev pub WakeOn : Board → Board → Type 0
WakeOn (On l) c = (can_wake l.machine.doze ≡ true) × (c ≡ On (record l { machine = woken_up l.machine }))
WakeOn (Off s) c = ⊥
WakeOn (Ended s) c = ⊥

abbrev pub PowersOn : List ℕ → Size → Board → Board → Type 0
PowersOn payload size (On l) c = ⊥
PowersOn payload size (Off s) c = c ≡ On (powered payload size s)
PowersOn payload size (Ended s) c = ⊥

-- what an event makes of a board of that size whose boot slot holds the payload
abbrev pub Does : List ℕ → Size → Event → Board → Board → Type 0
Does payload size (Turn h) b c = TurnOn h b c
Does payload size (Refused h down) b c = RefusedOn h down b c
Does payload size Wake b c = WakeOn b c
Does payload size Cut b c = c ≡ Off (standing_of b)
Does payload size PowerOn b c = PowersOn payload size b c

-- ---- ends
-- A board is at an end where it is on, does not doze, and the turn of no hart that it has changes it, or where it ended by
-- its own shutdown. One that is off by a cut, a reboot or a sleep goes on with a power-on, and one that dozes with a wake.
abbrev pub IsEnd : Board → Type 0
IsEnd (On l) =
    (l.machine.doze ≡ None) × ((h : ℕ) (c : Board) → h < l.machine.size.harts → TurnOn h (On l) c → c ≡ On l)
IsEnd (Off s) = ⊥
IsEnd (Ended s) = Unit {0}

-- it is not on
abbrev pub IsOff : Board → Type 0
IsOff (On l) = ⊥
IsOff (Off s) = Unit {0}
IsOff (Ended s) = Unit {0}

-- What a board goes on by, where nothing fails. That each board comes to an end is a claim of these: by a cut any board
-- comes to what its boot comes to.
abbrev pub GoesOn : Event → Type 0
GoesOn (Turn h) = Unit {0}
GoesOn (Refused h down) = ⊥
GoesOn Wake = Unit {0}
GoesOn Cut = ⊥
GoesOn PowerOn = Unit {0}
