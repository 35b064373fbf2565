-- An open store, and what a command does to it and to its disk. Source: docs/STORE.md, "A commit"; docs/DURABLE.md.
use Rattle.std.specs.Prelude.{◌≡◌, ◌⊎◌, ◌+◌, ◌-◌, ◌^◌, ◌≤◌, ◌<◌, ℕ, Bool, true, false, Result, Ok, Err, Some, None, OnOk, IfErr, MatchResult}
use Rattle.board_model.specs.Durable.{DurableState, Change, refusal_of, after, ends_life}
use Rattle.board_model.specs.Shapes.{Size}
use Rattle.board_model.specs.Views.{number_of_refusal, change_of}
use Rattle.board_model.specs.declared.refusal.Refusal.{Refusal}
use Rattle.board_model.specs.declared.refusal.Refusal.TheVariants.{Device, Down, Over, JournalFull}
use Rattle.board_model.specs.declared.durable.Command.{Command}
use Rattle.board_model.specs.declared.durable.Entry.TheVariants as entries
use Rattle.layout.specs.declared.records.Record.{Record}
use Rattle.store.specs.Follows.{Follows}
use Rattle.planned_store.specs.Commits.{made_by}
use Rattle.planned_store.specs.declared.commits.Commit.{Commit}
use Rattle.planned_store.specs.declared.commits.CommitStep.{CommitStep}
use Rattle.planned_store.specs.declared.commits.CommitStep.TheVariants.{WriteRecord, Committed, InDoubt}
use Rattle.planned_store.specs.declared.plans.Plan.{Plan}
use Rattle.planned_store.specs.declared.plans.Plan.TheVariants.{Committing}
use Rattle.disk.specs.Facts.{Facts, Content, counted}
use Rattle.disk.specs.FaultState.{FaultState}
use Rattle.store.specs.Answers.{GoesTo, CountedRefusal}
use Rattle.store.specs.Commits.{IsUp}
use Rattle.store.specs.Leaves.{IsIdle, SameLength, WroteACommand}
use Rattle.store.specs.Opens.{CausedRefusal}
use Rattle.store.specs.Standing.{state_of}
use Rattle.planned_store.specs.declared.stores.OpenStore.{OpenStore}
use Rattle.planned_store.specs.declared.commits.Selected.{Selected}

-- the store that an open makes of what it found
abbrev pub begun : Selected → OpenStore
begun found = record { selected = found; receipts = 0; over = false; down = false }

-- the durable state now, where a read gives that content
abbrev pub state_now : OpenStore → Content → DurableState
state_now store c = state_of store.selected.shape store.selected.live c

-- the plan of a command: a commit of the record that it makes, by a store that takes it
pub record PlansCommand (store : OpenStore) (command : Command) (plan : Plan) : Type 0 where
  pub next : Record
  pub is : plan ≡ Committing (record { from = store.selected; next = next; step = WriteRecord })
  pub going : store.over ≡ false
  pub room : store.receipts < 2 ^ 64 - 1
  pub allowed : (size : Size) (content : Content) → refusal_of (state_of size store.selected.live content) (change_of command) ≡ None
  pub follows : (size : Size) → Follows size store.selected.live (entries.Command command) next

-- the answer to a command whose plan has ended, and the store then
abbrev pub receipt_at : OpenStore → CommitStep → Result ℕ Refusal
receipt_at store Committed = Ok (counted store.receipts 1)
receipt_at store InDoubt = Err Down
receipt_at store step = Err Device

abbrev pub receipt_of : OpenStore → Plan → Result ℕ Refusal
receipt_of store (Committing c) = receipt_at store c.step
receipt_of store plan = Err Device

abbrev pub store_at : OpenStore → Bool → Commit → CommitStep → OpenStore
store_at store ends c Committed =
    record { selected = made_by c; receipts = counted store.receipts 1; over = ends; down = false }
store_at store ends c InDoubt = record store { down = true }
store_at store ends c step = store

abbrev pub store_after : OpenStore → Bool → Plan → OpenStore
store_after store ends (Committing c) = store_at store ends c c.step
store_after store ends plan = store

-- What a store knows of its disk: nothing of it is lent, and a crash leaves the record that it holds selected, where
-- no command is in doubt.
pub record Holds (disk : Facts) (store : OpenStore) : Type 0 where
  pub none_out : IsIdle disk
  pub known : store.selected.side < 2
  pub up : store.down ≡ false → IsUp disk store.selected.shape store.selected.side store.selected.live

-- the command goes to the disk
abbrev pub Reaches : OpenStore → DurableState → Change → Type 0
Reaches store s c = (store.over ≡ false) × (store.receipts < 2 ^ 64 - 1) × (refusal_of s c ≡ None)

-- The answer to a command that finds no other in doubt, in the state s, and the store then. A receipt is the number of
-- commands acknowledged in this life. Each refusal leaves the store as it is, but 6: the command is then in doubt.
abbrev pub Told : OpenStore → DurableState → Change → Result ℕ Refusal → OpenStore → DurableState → Type 0
Told old s c (Ok n) new t =
    Reaches old s c × (n ≡ old.receipts + 1) × (new.receipts ≡ n) × (new.over ≡ ends_life c) × (new.down ≡ false)
    × (new.selected.shape ≡ old.selected.shape) × (t ≡ after s c)
Told old s c (Err e) new t =
    ((e ≡ Device) × Reaches old s c × (new ≡ old))
    ⊎ ((e ≡ Down) × Reaches old s c × (new ≡ record old { down = true }))
    ⊎ ((e ≡ Over) × (old.over ≡ true) × (new ≡ old))
    ⊎ ((e ≡ JournalFull) × (old.over ≡ false) × (old.receipts ≡ 2 ^ 64 - 1) × (new ≡ old))
    ⊎ ((refusal_of s c ≡ Some (number_of_refusal e)) × (old.over ≡ false) × (old.receipts < 2 ^ 64 - 1) × (new ≡ old))

-- What a command did that found no other in doubt: what `Store::apply` of the crate `store` does, but that a life takes
-- 2^64 - 1 commands.
pub record Applied (disk : Facts) (m : FaultState) (old : OpenStore) (c : Change) (result : Result ℕ Refusal) (after_it : Facts) (x : FaultState)
    (new : OpenStore) : Type 0 where
  pub told : Told old (state_now old disk.content) c result new (state_now new after_it.content)
  pub leaves : GoesTo disk after_it old.selected.shape (state_now old disk.content) (after (state_now old disk.content) c) result
  pub written : OnOk result (WroteACommand disk after_it)
  pub cause : MatchResult result (λ n. x ≡ m) (λ e. CausedRefusal m e x)
  pub counts : MatchResult result (λ n. after_it.failures ≡ disk.failures) (λ e. CountedRefusal disk.failures e
      after_it.failures)
  pub calls : OnOk result (after_it.calls ≡ counted disk.calls 4)

-- a store was asked for a command: as `Asked` of the crate `store`
pub record Asked {D : Type 0} (f : D → Facts) (m : D → FaultState) (disk : D) (old : OpenStore) (c : Change) (result : Result ℕ Refusal) (after_it : D)
    (new : OpenStore) : Type 0 where
  pub answered : old.down ≡ false → Applied (f disk) (m disk) old c result (f after_it) (m after_it) new
  pub down : old.down ≡ true → (result ≡ Err Down) × (after_it ≡ disk) × (new ≡ old)
  pub untouched : IfErr result (λ e. (e ≡ Device → ⊥) → (e ≡ Down → ⊥) → (after_it ≡ disk) × (new ≡ old))
  pub holds : Holds (f after_it) new
  pub as_long : SameLength (f disk) (f after_it)
  pub no_fewer : (f disk).failures ≤ (f after_it).failures
