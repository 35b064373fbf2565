-- How the code's values show those of the model.
use Rattle.std.specs.Prelude.{◌≡◌, ℕ, List, Option, Some, None, Result, IfOk, IfErr}
use Rattle.board_model.specs.declared.durable.Command.{Command}
use Rattle.board_model.specs.declared.durable.Command.TheVariants as commands
use Rattle.board_model.specs.declared.durable.Entry.{Entry}
use Rattle.board_model.specs.declared.durable.Entry.TheVariants as entries
use Rattle.board_model.specs.declared.durable.Reason.{Reason}
use Rattle.board_model.specs.declared.durable.Reason.TheVariants.{NoReason, SystemFailure}
use Rattle.board_model.specs.declared.durable.ImageHead.{ImageHead}
use Rattle.board_model.specs.declared.durable.Durable.{Durable}
use Rattle.board_model.specs.declared.refusal.Refusal.{Refusal}
use Rattle.board_model.specs.declared.refusal.Refusal.TheVariants as refusals
use Rattle.board_model.specs.Durable.{Image, DurableState, Change, Slot, Reset, Suspend, Consume, Discard, Tries, Good, Attempt, after, refusal_of}

-- The SBI specification 2.0, chapter SRST: 0 no reason, 1 system failure.
abbrev pub reason_number : Reason → ℕ
reason_number NoReason = 0
reason_number SystemFailure = 1

-- The model's command. A suspension carries a memory, and has a call of its own.
abbrev pub change_of : Command → Change
change_of (commands.Slot n) = Slot n
change_of (commands.Reset r) = Reset r
change_of commands.Consume = Consume
change_of commands.Discard = Discard
change_of (commands.Tries n boots) = Tries n boots
change_of commands.Good = Good
change_of commands.Attempt = Attempt

-- The command that an entry of a journal stands for, where the memory that a suspension carried is this one.
abbrev pub change_in : Entry → List ℕ → Change
change_in (entries.Command c) memory = change_of c
change_in (entries.Suspend hart address opaque) memory = Suspend hart address opaque memory

-- The entry of a journal that a command stands as: all but the memory of a suspension.
abbrev pub entry_of : Change → Entry
entry_of (Slot n) = entries.Command (commands.Slot n)
entry_of (Reset r) = entries.Command (commands.Reset r)
entry_of (Suspend hart address opaque memory) = entries.Suspend hart address opaque
entry_of Consume = entries.Command commands.Consume
entry_of Discard = entries.Command commands.Discard
entry_of (Tries n boots) = entries.Command (commands.Tries n boots)
entry_of Good = entries.Command commands.Good
entry_of Attempt = entries.Command commands.Attempt

-- The durable state as the code knows it: all but the memory of the image.
abbrev pub head_of : Option Image → Option ImageHead
head_of None = None
head_of (Some i) = Some (record { serial = i.serial; hart = i.hart; address = i.address; opaque = i.opaque })

abbrev pub durable_of : DurableState → Durable
durable_of s =
    record { image = head_of s.image; slot = s.slot; reason = s.reason; next = s.next; trial = s.trial }

-- The number of a refusal.
abbrev pub number_of_refusal : Refusal → ℕ
number_of_refusal refusals.NotFormatted = 1
number_of_refusal refusals.AlreadyFormatted = 2
number_of_refusal refusals.BadShape = 3
number_of_refusal refusals.BadRecord = 4
number_of_refusal refusals.Device = 5
number_of_refusal refusals.Down = 6
number_of_refusal refusals.Over = 7
number_of_refusal refusals.NoImage = 8
number_of_refusal refusals.BadSlot = 9
number_of_refusal refusals.JournalFull = 10
number_of_refusal refusals.Memory = 11
number_of_refusal refusals.SerialsSpent = 12
number_of_refusal refusals.BadImage = 13
number_of_refusal (refusals.BadScript line) = 14
number_of_refusal refusals.ImageThere = 15
number_of_refusal refusals.Output = 16
number_of_refusal refusals.NotPlain = 17
number_of_refusal refusals.NotDozing = 18
number_of_refusal refusals.BadTries = 19
number_of_refusal refusals.NoTrial = 20

-- What a call that computes the next state answers: the table's refusal, or the state after the command.
pub record IsNextOf (s : DurableState) (c : Change) (result : Result Durable Refusal) : Type 0 where
  pub goes : IfOk result (λ d. (refusal_of s c ≡ None) × (d ≡ durable_of (after s c)))
  pub refused : IfErr result (λ e. refusal_of s c ≡ Some (number_of_refusal e))
