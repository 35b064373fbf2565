-- The durable commands that the operator's console may issue, and their words. Source: docs/CONSOLE.md, "The console".
use Rattle.std.specs.Prelude.{ℕ, List}
use Rattle.board_model.specs.Durable.{Change}
use Rattle.board_model.specs.Views.{change_of}
use Rattle.board_model.specs.declared.durable.Command.{Command}
use Rattle.board_model.specs.declared.durable.Command.TheVariants as commands
use Rattle.board_model.specs.declared.console_command.ConsoleCommand.{ConsoleCommand}
use Rattle.board_model.specs.declared.console_command.ConsoleCommand.TheVariants.{Slot, Discard, Tries, Good}
use lib.Chars.{codes}

-- the durable command
abbrev pub command_of : ConsoleCommand → Command
command_of (Slot n) = commands.Slot n
command_of Discard = commands.Discard
command_of (Tries n boots) = commands.Tries n boots
command_of Good = commands.Good

-- and the model's
abbrev pub console_change : ConsoleCommand → Change
console_change command = change_of (command_of command)

-- the word by which a line names it, and by which it is answered
abbrev pub word_of : ConsoleCommand → List ℕ
word_of (Slot n) = codes "slot"
word_of Discard = codes "discard"
word_of (Tries n boots) = codes "tries"
word_of Good = codes "good"
