-- A story of one disk: what is asked of it in order, what is seen, and which answer may come when.
-- Source: docs/DURABLE.md, "Commands" and "What an open finds"; docs/STORE.md, "A life".
use Rattle.std.specs.Prelude.{◌≡◌, ◌⊎◌, ℕ, ◌+◌, ◌<◌, Bool, true, false, List, [], ◌∷◌, Option, Some, None}
use Rattle.board_model.specs.Durable.{DurableState, Image, Change, Suspend, Consume, formatted, refusal_of, after, ends_life}
use Rattle.board_model.specs.Shapes.{Size}
use Rattle.board_model.specs.Views.{change_of, durable_of}
use Rattle.board_model.specs.declared.refusal.Refusal.{Refusal}
use Rattle.board_model.specs.declared.refusal.Refusal.TheVariants.{BadShape, Device, Down, Over, NoImage, BadSlot, JournalFull, Memory, SerialsSpent, BadTries, NoTrial}
use Rattle.disk.specs.FaultState.{FaultState, Cause, fault_state_armed, fault_state_left}
use Rattle.hart.specs.State.{started}
use Rattle.store.specs.Follows.{FitsBoard}
use Rattle.theorem.specs.declared.asks.Asked.{Asked}
use Rattle.theorem.specs.declared.asks.Asked.TheVariants as asked
use Rattle.theorem.specs.declared.asks.Seen.{Seen}
use Rattle.theorem.specs.declared.asks.Seen.TheVariants.{Opened, Acked, Read, Woke, Denied, NotOpen, Done}

-- The disk, as what was seen tells it: the state that the acknowledged commands make of the formatted one; the
-- command in doubt, where there is one; whether a store is open, and then whether its life is over, and how many
-- commands of it were acknowledged; and what is armed of the disk.
pub record Now : Type 0 where
  pub state : DurableState
  pub doubt : Option Change
  pub on : Bool
  pub over : Bool
  pub receipts : ℕ
  pub faults : FaultState

-- it stands for this state alone, and no command was acknowledged since
abbrev pub settled : DurableState → Bool → FaultState → Now
settled s on faults = record { state = s; doubt = None; on = on; over = false; receipts = 0; faults = faults }

-- after a format
abbrev pub begin : FaultState → Now
begin faults = settled formatted false faults

-- a command was acknowledged
abbrev pub acknowledged : Now → Change → Now
acknowledged w c = record w { state = after w.state c; over = ends_life c; receipts = w.receipts + 1 }

-- The disk failed, and nothing else has changed: what was armed struck, power was cut before, or it failed by itself.
abbrev pub Fails : Now → Now → Type 0
Fails w v = Cause w.faults v.faults × (v ≡ record w { faults = v.faults })

-- The next open may find the state, or what the command in doubt makes of it. No other command is found.
abbrev pub May : Now → DurableState → Type 0
May w s = (s ≡ w.state) ⊎ ((c : Change) × (w.doubt ≡ Some c) × (s ≡ after w.state c))

-- What is seen of an open: a state that it may find, all but the memory. From then on that is settled.
abbrev pub Opens : Now → Seen → Now → Type 0
Opens w (Opened found) v = (s : DurableState) × May w s × (found ≡ durable_of s) × (v ≡ settled s true w.faults)
Opens w (Denied Device) v = Fails (record w { on = false }) v
Opens w (Denied Memory) v = v ≡ record w { on = false }
Opens w seen v = ⊥

-- the life takes commands: none is in doubt, none ended it, and fewer than 4,096 were acknowledged
abbrev pub Takes : Now → Type 0
Takes w = (w.doubt ≡ None) × (w.over ≡ false) × (w.receipts < 4096)

-- a suspension is of a memory, a hart and an address of the board
abbrev pub Fits : Size → Change → Type 0
Fits size (Suspend hart address opaque memory) = FitsBoard size memory hart address
Fits size c = Unit {0}

-- The life takes the command, it is of the board, and the table of commands says that of it: the number by which it is
-- refused, or none, and then it goes to the disk.
abbrev pub Decides : Size → Now → Change → Option ℕ → Type 0
Decides size w c number = Takes w × Fits size c × (refusal_of w.state c ≡ number)

-- Why a command is refused before it goes to the disk. Nothing has changed then.
abbrev pub Checks : Size → Now → Change → Refusal → Type 0
Checks size w c Down = (d : Change) × (w.doubt ≡ Some d)
Checks size w c Over = (w.doubt ≡ None) × (w.over ≡ true)
Checks size w c JournalFull = (w.doubt ≡ None) × (w.over ≡ false) × (w.receipts ≡ 4096)
Checks size w c BadShape = Takes w × (Fits size c → ⊥)
Checks size w c NoImage = Decides size w c (Some 8)
Checks size w c BadSlot = Decides size w c (Some 9)
Checks size w c SerialsSpent = Decides size w c (Some 12)
Checks size w c BadTries = Decides size w c (Some 19)
Checks size w c NoTrial = Decides size w c (Some 20)
Checks size w c e = ⊥

-- Why it is refused once it goes there. 5: nothing of it is found. 6: it is in doubt. 11: a suspension was refused memory before it
-- asked the disk.
abbrev pub Stops : Now → Refusal → Change → Now → Type 0
Stops w Device c v = Fails w v
Stops w Down c v = Fails (record w { doubt = Some c }) v
Stops w Memory (Suspend hart address opaque memory) v = v ≡ w
Stops w e c v = ⊥

-- what is seen of a command
abbrev pub Commands : Size → Now → Change → Seen → Now → Type 0
Commands size w c (Acked n) v = Decides size w c None × (n ≡ w.receipts + 1) × (v ≡ acknowledged w c)
Commands size w c (Denied e) v = (Checks size w c e × (v ≡ w)) ⊎ (Decides size w c None × Stops w e c v)
Commands size w c seen v = ⊥

-- What is seen of a load: the memory of the image, byte for byte. An image that stands is never refused as bad.
abbrev pub Loads : Now → Seen → Now → Type 0
Loads w (Read memory) v = (i : Image) × (w.state.image ≡ Some i) × (memory ≡ i.memory) × (v ≡ w)
Loads w (Denied NoImage) v = (w.state.image ≡ None) × (v ≡ w)
Loads w (Denied Device) v = Fails w v
Loads w (Denied Memory) v = v ≡ w
Loads w seen v = ⊥

-- What is seen of a resume: the image's hart, as one that starts at its address, and its memory, byte for byte. With
-- that the image is consumed, so no image goes on twice. It is refused as a load is, where no command is in doubt; and
-- as the Consume is, where one is, or once the image was loaded.
abbrev pub Resumes : Size → Now → Seen → Now → Type 0
Resumes size w (Woke hart memory) v =
    (i : Image) × (w.state.image ≡ Some i) × (hart ≡ started i.hart i.address i.opaque) × (memory ≡ i.memory)
    × Decides size w Consume None × (v ≡ acknowledged w Consume)
Resumes size w (Denied e) v =
    ((w.doubt ≡ None) × Loads w (Denied e) v)
    ⊎ ((w.doubt ≡ None → w.state.image ≡ None → ⊥) × Commands size w Consume (Denied e) v)
Resumes size w seen v = ⊥

-- One step: what was asked, what was seen, and the disk then. Where no store is open no call of it does anything.
abbrev pub Step : Size → Now → Asked → Seen → Now → Type 0
Step size w asked.Open seen v = Opens w seen v
Step size w (asked.Arm fault) seen v = (seen ≡ Done) × (v ≡ record w { faults = fault_state_armed fault w.faults })
Step size w (asked.Cut fill) seen v =
    (seen ≡ Done) × (v ≡ record w { on = false; faults = fault_state_left w.faults })
Step size w a NotOpen v = (w.on ≡ false) × (v ≡ w)
Step size w (asked.Command command) seen v = (w.on ≡ true) × Commands size w (change_of command) seen v
Step size w (asked.Suspend memory at) seen v =
    (w.on ≡ true) × Commands size w (Suspend at.hart at.address at.opaque memory) seen v
Step size w asked.Load seen v = (w.on ≡ true) × Loads w seen v
Step size w asked.Resume seen v = (w.on ≡ true) × Resumes size w seen v

-- one answer for each that was asked, in order
abbrev pub Tells : Size → Now → List Asked → List Seen → Now → Type 0
Tells size w [] [] v = v ≡ w
Tells size w (ask ∷ asks) (answer ∷ answers) v = (u : Now) × Step size w ask answer u × Tells size u asks answers v
Tells size w asks answers v = ⊥
