-- Each command of the console is read from its spelling.
use Rattle.std.proofs.Common.{◌≡◌, ◌^◌, Some, refl, arith}
use Rattle.board_model.specs.{Shapes.{Size, IsSize}, declared.console_command.ConsoleCommand.ConsoleCommand}
use Rattle.board_model.specs.declared.console_command.ConsoleCommand.TheVariants.{Slot, Discard, Tries, Good}
use Rattle.script_lang.{specs.Lines.line_of, proofs.{Numerals.{IsWord-decimal, ranged-decimal}, Spells.{SpellsLine, short}}}
use Rattle.script_lang.specs.Commands.{command_spelling, IsCommandInRange}
use Rattle.script_lang.specs.declared.line.Line.TheVariants as lines

-- a line is read from the words of its spelling
pub line_of-command : (size : Size) (command : ConsoleCommand) → IsSize size → IsCommandInRange command → Unit {0} → line_of size (command_spelling command) ≡ Some (lines.Command command)
line_of-command size (Slot slot) z r f = rw (ranged-decimal 0 (2 ^ 32) slot (omega arith) r (omega arith))
line_of-command size Discard z r f = refl
line_of-command size (Tries slot boots) z r f = rw (ranged-decimal 0 (2 ^ 32) slot (omega arith) r.0 (omega arith), ranged-decimal 0 (2 ^ 32) boots (omega arith) r.1 (omega arith))
line_of-command size Good z r f = refl

pub SpellsLine-command : (size : Size) (command : ConsoleCommand) → IsSize size → IsCommandInRange command → Unit {0} → SpellsLine (command_spelling command)
SpellsLine-command size (Slot slot) z r f = record { are = (refl, (IsWord-decimal slot (omega arith), tt)); begins = refl; room = omega (arith, short slot (omega arith)) }
SpellsLine-command size Discard z r f = record { are = (refl, tt); begins = refl; room = omega arith }
SpellsLine-command size (Tries slot boots) z r f = record { are = (refl, (IsWord-decimal slot (omega arith), (IsWord-decimal boots (omega arith), tt))); begins = refl; room = omega (arith, short slot (omega arith), short boots (omega arith)) }
SpellsLine-command size Good z r f = record { are = (refl, tt); begins = refl; room = omega arith }
