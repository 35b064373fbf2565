-- What the console makes of a line, with the store at hand, or the bus. Source: docs/CONSOLE.md, "The console";
-- docs/DURABLE.md.
use Rattle.std.specs.Prelude.{◌≡◌, ℕ, Bool, true, false, List, ◌∷◌, Result, Ok, Err}
use Rattle.board_model.specs.Durable.{Change, DurableState}
use Rattle.board_model.specs.Views.{durable_of}
use Rattle.board_model.specs.ConsoleCommands.{command_of, console_change}
use Rattle.board_model.specs.declared.console_command.ConsoleCommand.{ConsoleCommand}
use Rattle.board_model.specs.declared.durable.Command.{Command}
use Rattle.board_model.specs.declared.durable.Durable.{Durable}
use Rattle.board_model.specs.declared.durable.Entry.{Entry}
use Rattle.board_model.specs.declared.durable.Entry.TheVariants as entries
use Rattle.board_model.specs.declared.refusal.Refusal.{Refusal}
use Rattle.disk.specs.declared.device.Disk.{Ghosts}
use Rattle.disk.specs.declared.device.Lane.{Ghosts as Lanes}
use Rattle.store.specs.Lives.{Applied}
use Rattle.store.specs.Views.{now_state}
use Rattle.store.specs.declared.stores.Store.{Store}
use Rattle.store.specs.Asked.{Asked}
use Rattle.hart_threads.specs.Heard.{Hearing, after_look, after_refusal, after_waking}
use Rattle.hart_threads.specs.Legal.{MayAnswer, MayShow}
use Rattle.susp.specs.declared.buses.Bus.{Bus}
use Rattle.board_session.specs.Wakes.{Wakes, MayWake}
use Rattle.board_session.specs.declared.words.Said.{Said}
use Rattle.board_session.specs.declared.words.Said.TheVariants as saids
use Rattle.board_session.specs.declared.reply.Reply.{Reply}
use Rattle.board_session.specs.declared.reply.Reply.TheVariants as answers

-- the answer to a command: the receipt of one that was acknowledged, the number of one that was refused
abbrev pub command_answer : ConsoleCommand → Result ℕ Refusal → Reply
command_answer command (Ok n) = answers.Acknowledged command n
command_answer command (Err e) = answers.Refused command e

-- what the console was told: receipts, the newest first; and what it heard beside them
pub record Party : Type 0 where
  pub told : List (ℕ × Entry)
  pub heard : Hearing

abbrev pub party : List (ℕ × Entry) → Hearing → Party
party told heard = record { told = told; heard = heard }

-- the same once a command was answered: it has its receipt, or it was refused, which newly put it in doubt or did not
abbrev pub party_after : Bool → Command → Result ℕ Refusal → Party → Party
party_after newly command (Ok n) p = record { told = (n, entries.Command command) ∷ p.told; heard = p.heard }
party_after newly command (Err e) p = record { told = p.told; heard = after_refusal newly command e p.heard }

-- what `wake` may be answered: what a call of the wake-up device came to, as the console heard it
abbrev pub IsWakeAnswer : Reply → Hearing → Hearing → Type 0
IsWakeAnswer answer old new =
    (r : Result (Unit {0}) Refusal) × MayWake r × (answer ≡ answers.Wake r) × (new ≡ after_waking r old)

-- What a line with a command may be answered, and what the console was told before it and then. Only a command that is
-- answered 6 is in doubt.
abbrev pub IsCommandAnswer : DurableState → ConsoleCommand → Reply → Party → Party → Type 0
IsCommandAnswer found command answer old new =
    (r : Result ℕ Refusal) × MayAnswer found (console_change command) r × (answer ≡ command_answer command r)
    × ((newly : Bool) × (new ≡ party_after newly (command_of command) r old))

-- What a line may be answered in a life that began in that state and of which the boot issued those commands: as some
-- commands explain it that the table takes, one after another from there. What the console was told before it, and then:
-- a receipt is answered where it is told, with just that command, and a refusal, a state or a wake where it is heard; nothing
-- else is told or heard, so no other line wakes the board.
abbrev pub IsAnswerTo : DurableState → List Change → Said → Reply → Party → Party → Type 0
IsAnswerTo found issued (saids.Command command) answer old new = IsCommandAnswer found command answer old new
IsAnswerTo found issued saids.State answer old new =
    (d : Durable) × MayShow found issued old.told d × (answer ≡ answers.State d)
    × (new ≡ party old.told (after_look d old.heard))
IsAnswerTo found issued saids.Wake answer old new =
    (heard : Hearing) × IsWakeAnswer answer old.heard heard × (new ≡ party old.told heard)
IsAnswerTo found issued saids.Quit answer old new = (answer ≡ answers.Quit) × (new ≡ old)
IsAnswerTo found issued saids.Other answer old new = (answer ≡ answers.Unknown) × (new ≡ old)

-- Where an answer acknowledges a command, the newest receipt that the console was told is that of this command, with this number.
abbrev pub HoldsReceipt : Reply → List (ℕ × Entry) → Type 0
HoldsReceipt (answers.Acknowledged command n) told = (older : List (ℕ × Entry)) × (told ≡ (n, entries.Command (command_of command)) ∷ older)
HoldsReceipt answer told = Unit {0}

-- the line `wake` calls the wake-up device once
abbrev pub AnswersWake : Bus → Bus → Reply → Type 0
AnswersWake old new answer = (r : Result (Unit {0}) Refusal) × Wakes old new r × (answer ≡ answers.Wake r)

-- the line asks the store; `wake` asks the bus, and the others ask nothing
abbrev pub asks_store : Said → Bool
asks_store (saids.Command command) = true
asks_store saids.State = true
asks_store saids.Wake = false
asks_store saids.Quit = false
asks_store saids.Other = false

module _ {D L : Type 0} {g : Ghosts D L} {l : Lanes L} where
  -- a command is asked of the store once, and answered by its word
  abbrev pub AnswersCommand : ConsoleCommand → Store D L g l → Store D L g l → Reply → Type 0
  AnswersCommand command old new answer =
      (r : Result ℕ Refusal) × Asked Applied old (console_change command) r new × (answer ≡ command_answer command r)

  -- A line with a command asks the store once; `state` is the state now, without a command in doubt. No other
  -- line asks the store.
  abbrev pub AnswersSaid : Said → Store D L g l → Store D L g l → Reply → Type 0
  AnswersSaid (saids.Command command) old new answer = AnswersCommand command old new answer
  AnswersSaid saids.State old new answer = (new ≡ old) × (answer ≡ answers.State (durable_of (now_state old)))
  AnswersSaid said old new answer = ⊥
