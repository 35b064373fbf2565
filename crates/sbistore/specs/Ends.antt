-- How a plan of C begins, and what its end leaves: the code, and the open store.
use Rattle.std.specs.Prelude.{◌≡◌, ◌<◌, ◌⊎◌, ℕ, Bool, true, false, Result, Ok, Err}
use Rattle.board_model.specs.Durable.{ends_life}
use Rattle.board_model.specs.Views.{number_of_refusal, change_of}
use Rattle.board_model.specs.declared.durable.Command.{Command}
use Rattle.board_model.specs.declared.durable.Command.TheVariants as commands
use Rattle.board_model.specs.declared.durable.Reason.TheVariants.{NoReason, SystemFailure}
use Rattle.board_model.specs.declared.refusal.Refusal.TheVariants.{Down}
use Rattle.disk.specs.Facts.{Content}
use Rattle.planned_store.specs.Stores.{state_now, Told, PlansCommand, receipt_of, store_after}
use Rattle.board_model.specs.declared.refusal.Refusal.{Refusal}
use Rattle.planned_store.specs.Formats.{answer_at}
use Rattle.planned_store.specs.Opens.{opened_by}
use Rattle.planned_store.specs.Plans.{asked}
use Rattle.planned_store.specs.declared.plans.Plan.{Plan}
use Rattle.planned_store.specs.declared.plans.Plan.TheVariants.{Committing, Formatting}
use Rattle.planned_store.specs.declared.plans.Request.TheVariants.{Done}
use Rattle.planned_store.specs.declared.stores.OpenStore.{OpenStore}
use Rattle.sbistore.specs.Packed.{HasSelected, IsPacked}
use Rattle.sbistore.specs.declared.state.Sbistore.{Sbistore}

abbrev pub flag_number : Bool → ℕ
flag_number true = 1
flag_number false = 0

-- C keeps that open store
pub record Keeps (life : OpenStore) (store : Sbistore) : Type 0 where
  pub opened : store.opened ≡ 1
  pub selected : HasSelected life.selected store
  pub receipts : store.receipts ≡ life.receipts
  pub over : store.over ≡ flag_number life.over
  pub down : store.down ≡ flag_number life.down

-- an open has ended with that answer
abbrev pub EndsOpen : Result OpenStore Refusal → Sbistore → Type 0
EndsOpen (Ok life) store = (store.number ≡ 0) × Keeps life store
EndsOpen (Err e) store = store.number ≡ number_of_refusal e

-- the code of an answer without a value
abbrev pub answer_code : Result (Unit {0}) Refusal → ℕ
answer_code (Ok v) = 0
answer_code (Err e) = number_of_refusal e

-- the code of a receipt, or of a refusal
abbrev pub receipt_code : Result ℕ Refusal → ℕ
receipt_code (Ok n) = 0
receipt_code (Err e) = number_of_refusal e

-- a command of an open store has ended
abbrev pub EndsCommand : OpenStore → Bool → Plan → Sbistore → Type 0
EndsCommand life over plan store =
    Keeps (store_after life over plan) store × (store.number ≡ receipt_code (receipt_of life plan))

-- A plan that asks for nothing more has ended: an open keeps the store that it makes, and a command what it makes of
-- the one that was kept.
abbrev pub Ended : Plan → Sbistore → Sbistore → Type 0
Ended (Committing c) old new =
    (life : OpenStore) → (over : Bool) → Keeps life old → old.ends ≡ flag_number over → EndsCommand life over (Committing c) new
Ended (Formatting f) old new = new.number ≡ answer_code (answer_at f.step)
Ended plan old new = EndsOpen (opened_by plan) new

-- while a command of an open store is under way, both are kept
abbrev pub KeepsOn : Plan → Sbistore → Sbistore → Type 0
KeepsOn (Committing c) old new =
    (life : OpenStore) → Keeps life old → c.from ≡ life.selected → Keeps life new × (new.ends ≡ old.ends)
KeepsOn plan old new = Unit {0}

-- a plan has begun: it is kept, and nothing was asked for yet; one that asks for nothing at all has ended
pub record Begun (plan : Plan) (old new : Sbistore) : Type 0 where
  pub kept : (asked plan ≡ Done → ⊥) → (new.asked ≡ 0) × IsPacked plan new
  pub ended : asked plan ≡ Done → Ended plan old new
  pub keeps : (asked plan ≡ Done → ⊥) → KeepsOn plan old new

-- the command of those numbers
abbrev pub IsCommand : ℕ → ℕ → ℕ → Command → Type 0
IsCommand kind one other (commands.Slot n) = (kind ≡ 1) × (n ≡ one)
IsCommand kind one other (commands.Reset NoReason) = (kind ≡ 2) × (one ≡ 0)
IsCommand kind one other (commands.Reset SystemFailure) = (kind ≡ 2) × (0 < one)
IsCommand kind one other commands.Consume = kind ≡ 3
IsCommand kind one other commands.Discard = kind ≡ 4
IsCommand kind one other (commands.Tries n boots) = (kind ≡ 5) × (n ≡ one) × (boots ≡ other)
IsCommand kind one other commands.Good = kind ≡ 6
IsCommand kind one other commands.Attempt = kind ≡ 7

-- no command has that number
abbrev pub NoCommand : ℕ → Type 0
NoCommand kind = (kind ≡ 0) ⊎ (7 < kind)

-- a command is refused before any call of the device
pub record RefusesCommand (life : OpenStore) (command : Command) (e : Refusal) : Type 0 where
  pub down : life.down ≡ true → e ≡ Down
  pub up : life.down ≡ false → (c : Content) → Told life (state_now life c) (change_of command) (Err e) life (state_now life c)

-- a command was asked of an open store: its plan is begun, or it was refused; the store is kept
pub record CommandBegun (life : OpenStore) (command : Command) (old new : Sbistore) : Type 0 where
  pub keeps : Keeps life new
  pub begun :
      ((plan : Plan) × PlansCommand life command plan × (new.asked ≡ 0) × IsPacked plan new × (new.ends ≡ flag_number (ends_life (change_of command))))
      ⊎ ((e : Refusal) × RefusesCommand life command e × (new.phase ≡ 0) × (new.number ≡ number_of_refusal e))
