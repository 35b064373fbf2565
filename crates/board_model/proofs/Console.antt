-- What all commands of the operator's console have in common.
use Rattle.std.proofs.Common.{◌≡◌, false, true, refl, rules}
use Rattle.board_model.specs.{Durable.{ends_life, CarriesWhole}, Shapes.Size, ConsoleCommands.console_change}
use Rattle.board_model.specs.declared.console_command.ConsoleCommand.{ConsoleCommand, TheVariants.{Slot, Discard, Tries, Good}}
use Rattle.board_model.specs.contracts.console_command.ConsoleCommandPartialEq.TheImpl as equality

-- it ends no life
pub ends_life-console : (command : ConsoleCommand) → ends_life (console_change command) ≡ false
ends_life-console (Slot n) = refl
ends_life-console Discard = refl
ends_life-console (Tries n boots) = refl
ends_life-console Good = refl

-- it carries no memory, so it carries a whole one
pub CarriesWhole-console : (command : ConsoleCommand) (size : Size) → CarriesWhole size (console_change command)
CarriesWhole-console (Slot n) size = tt
CarriesWhole-console Discard size = tt
CarriesWhole-console (Tries n boots) size = tt
CarriesWhole-console Good size = tt

-- what the derived comparison finds equal is the same
pub equal-console : (a b : ConsoleCommand) → equality.ghosts.eq a b ≡ true → a ≡ b
equal-console (Slot s) (Slot t) same = search (rules, same)
equal-console Discard Discard same = refl
equal-console (Tries s n) (Tries t m) same = search (rules, same)
equal-console Good Good same = refl
equal-console a b same = absurd (let no : ⊥ = cc in no)
