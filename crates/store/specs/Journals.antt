-- What the entries of a journal are, of which a command is kept in bytes.
-- Source: docs/STORE.md, "A life".
use Rattle.std.specs.Prelude.{◌<◌, ◌++◌, List, [], ◌∷◌, map, Option, None, Some}
use Rattle.board_model.specs.declared.durable.Command.{Command}
use Rattle.board_model.specs.declared.durable.Command.TheVariants as commands
use Rattle.board_model.specs.declared.durable.Entry.{Entry}
use Rattle.board_model.specs.declared.durable.Entry.TheVariants as entries
use Rattle.store.specs.declared.journals.Kept.{Kept}
use Rattle.store.specs.declared.journals.Kept.TheVariants as keeps
use Rattle.store.specs.declared.saving.Resumption.{Resumption}

-- the command that is kept so
abbrev pub command_in : Kept → Command
command_in (keeps.Slot n) = commands.Slot n
command_in (keeps.Reset r) = commands.Reset r
command_in keeps.Consume = commands.Consume
command_in keeps.Discard = commands.Discard
command_in (keeps.Tries n boots) = commands.Tries n boots
command_in keeps.Good = commands.Good
command_in keeps.Attempt = commands.Attempt

-- the suspension, where the life has ended in one
abbrev pub suspension_in : Option Resumption → List Entry
suspension_in None = []
suspension_in (Some at) = entries.Suspend at.hart at.address at.opaque ∷ []

-- the commands in their order, and then the suspension
abbrev pub entries_in : List Kept → Option Resumption → List Entry
entries_in ks at = map (λ k. entries.Command (command_in k)) ks ++ suspension_in at

-- each number of the command fits into a byte
abbrev pub FitsKept : Command → Type 0
FitsKept (commands.Slot n) = n < 256
FitsKept (commands.Reset r) = Unit {0}
FitsKept commands.Consume = Unit {0}
FitsKept commands.Discard = Unit {0}
FitsKept (commands.Tries n boots) = (n < 256) × (boots < 256)
FitsKept commands.Good = Unit {0}
FitsKept commands.Attempt = Unit {0}

abbrev pub FitsJournal : Entry → Type 0
FitsJournal (entries.Command c) = FitsKept c
FitsJournal (entries.Suspend hart address opaque) = Unit {0}
