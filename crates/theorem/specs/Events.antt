-- Many lives of one disk, told as events: what opens find, how commands fare, and which images' harts go on.
-- Source: docs/DURABLE.md, "What an open finds".
use Rattle.std.specs.Prelude.{◌≡◌, ◌⊎◌, ℕ, ◌<◌, Bool, true, false, List, [], ◌∷◌, ◌++◌, Option, Some, None, Result, Ok, Err, ⊤}
use Rattle.board_model.specs.Durable.{DurableState, Image, Change, Consume, Discard, formatted, refusal_of, after, ends_life}
use Rattle.board_model.specs.declared.refusal.Refusal.{Refusal}
use Rattle.board_model.specs.declared.refusal.Refusal.TheVariants.{Down}
use Rattle.store.specs.Lives.{Life, now_of}

pub data Event : Type 0 where
  -- an open answered Ok, and found this
  WasOpened : DurableState → Event
  -- a command was acknowledged, was refused by a number but 6, or is in doubt: it answered 6 after it reached
  -- the disk, or was under way when power failed
  WasAcknowledged : Change → Event
  WasRefused : Change → Event
  WasDoubtful : Change → Event
  -- power was lost
  WasCut : Event
  -- the hart of the image with that serial was answered
  WasResumed : ℕ → Event

-- The disk: the state that the acknowledged commands make and the command in doubt, so that an open may find
-- one of the two; the commands kept since the format; whether this life may go on; the serial that the last
-- acknowledged Consume of this life dropped, until its hart is resumed; and the serials of all images
-- resumed.
pub record World : Type 0 where
  pub state : DurableState
  pub doubt : Option Change
  pub kept : List Change
  pub on : Bool
  pub dropped : Option ℕ
  pub resumed : List ℕ

-- after a format
abbrev pub new_world : World
new_world = record { state = formatted; doubt = None; kept = []; on = false; dropped = None; resumed = [] }

-- an open may find the state, or what the command in doubt makes of it; and that is then kept
abbrev pub Finds : World → DurableState → List Change → Type 0
Finds w s kept =
    ((s ≡ w.state) × (kept ≡ w.kept))
    ⊎ ((c : Change) × (w.doubt ≡ Some c) × (s ≡ after w.state c) × (kept ≡ w.kept ++ c ∷ []))

-- a command reaches the disk: the life goes on, none is in doubt, and the table of commands does not refuse
-- it
abbrev pub Goes : World → Change → Type 0
Goes w c = (w.on ≡ true) × (w.doubt ≡ None) × (refusal_of w.state c ≡ None)

-- the serial that a Consume drops to resume its hart; what a Discard drops is never resumed
abbrev pub serial_of : Option Image → Option ℕ
serial_of None = None
serial_of (Some i) = Some i.serial

abbrev pub dropped_by : World → Change → Option ℕ
dropped_by w Consume = serial_of w.state.image
dropped_by w Discard = w.dropped
dropped_by w c = w.dropped

abbrev pub goes_on : Bool → Bool
goes_on true = false
goes_on false = true

-- what an event makes of the disk
abbrev pub Happens : World → Event → World → Type 0
Happens w (WasOpened s) v =
    (kept : List Change) × Finds w s kept
    × (v ≡ record { state = s; doubt = None; kept = kept; on = true; dropped = None; resumed = w.resumed })
Happens w (WasAcknowledged c) v =
    Goes w c
    × (v ≡ record w {
      state = after w.state c;
      kept = w.kept
          ++ c ∷ [];
      on = goes_on (ends_life c);
      dropped = dropped_by w c;
    })
Happens w (WasRefused c) v = v ≡ w
Happens w (WasDoubtful c) v = Goes w c × (v ≡ record w { doubt = Some c; on = false })
Happens w WasCut v = v ≡ record w { on = false; dropped = None }
Happens w (WasResumed n) v = (w.dropped ≡ Some n) × (v ≡ record w { dropped = None; resumed = w.resumed ++ n ∷ [] })

abbrev pub Runs : World → List Event → World → Type 0
Runs w [] v = v ≡ w
Runs w (e ∷ events) v = (u : World) × Happens w e u × Runs u events v

-- each is below n
abbrev pub AreBelow : List ℕ → ℕ → Type 0
AreBelow [] n = ⊤
AreBelow (m ∷ ms) n = (m < n) × AreBelow ms n

abbrev pub IsAbove : ℕ → List ℕ → Type 0
IsAbove m [] = ⊤
IsAbove m (n ∷ ns) = (m < n) × IsAbove m ns

-- the list rises strictly
abbrev pub Rises : List ℕ → Type 0
Rises [] = ⊤
Rises (m ∷ ms) = IsAbove m ms × Rises ms

-- what a call of the store that was given this command was
abbrev pub event_of : Change → Result ℕ Refusal → Event
event_of c (Ok n) = WasAcknowledged c
event_of c (Err Down) = WasDoubtful c
event_of c (Err e) = WasRefused c

-- whether a life goes on: it is not over, and no command of it is in doubt
abbrev pub goes_with : Bool → Option Change → Bool
goes_with true doubt = false
goes_with false None = true
goes_with false (Some c) = false

-- the world in which a store has that life
pub record IsLived (w : World) (life : Life) : Type 0 where
  pub state : w.state ≡ now_of life
  pub doubt : w.doubt ≡ life.doubt
  pub on : w.on ≡ goes_with life.over life.doubt

-- by such an event the world becomes one in which the store has this life
abbrev pub Leads : World → Event → Life → Type 0
Leads w e life = (v : World) × Happens w e v × IsLived v life
