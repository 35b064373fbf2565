-- What a suspension by its plan makes of a store and its disk: what `Store::suspend` of the crate `store` does, but that it takes no
-- memory, that a life takes 2^64 - 1 commands, and that its calls are all the disk's. Source: docs/STORE.md, "A life".
use Rattle.std.specs.Prelude.{◌≡◌, ◌⊎◌, ◌+◌, ◌*◌, ◌-◌, ◌^◌, ◌≤◌, ◌<◌, ℕ, true, false, List, Result, Ok, Err, OnOk, IfErr, MatchResult}
use Rattle.board_model.specs.Durable.{DurableState, Change, Suspend, after}
use Rattle.board_model.specs.declared.refusal.Refusal.{Refusal}
use Rattle.board_model.specs.declared.refusal.Refusal.TheVariants.{BadShape, Device, Down, Over, JournalFull}
use Rattle.disk.specs.Facts.{Facts, counted}
use Rattle.disk.specs.FaultState.{FaultState}
use Rattle.store.specs.Answers.{GoesTo, CountedRefusal}
use Rattle.store.specs.Follows.{FitsBoard}
use Rattle.store.specs.Leaves.{SameLength, WroteACommand}
use Rattle.store.specs.Opens.{CausedRefusal}
use Rattle.store.specs.declared.saving.Resumption.{Resumption}
use Rattle.planned_store.specs.Stores.{state_now, Holds, Told}
use Rattle.planned_store.specs.declared.stores.OpenStore.{OpenStore}

-- the answer to a suspension that finds no command in doubt, in the state s, and the store then: as to other commands, or 3 for
-- what is not the board's
abbrev pub SuspendTold : Type 0 → OpenStore → DurableState → Change → Result ℕ Refusal → OpenStore → DurableState → Type 0
SuspendTold Fits old s c (Ok n) new t = Fits × Told old s c (Ok n) new t
SuspendTold Fits old s c (Err e) new t =
    (Fits × Told old s c (Err e) new t)
    ⊎ ((e ≡ BadShape) × (Fits → ⊥) × (old.over ≡ false) × (old.receipts < 2 ^ 64 - 1) × (new ≡ old))
    ⊎ ((e ≡ Over) × (old.over ≡ true) × (new ≡ old))
    ⊎ ((e ≡ JournalFull) × (old.over ≡ false) × (old.receipts ≡ 2 ^ 64 - 1) × (new ≡ old))

-- the suspension of that memory
abbrev pub suspension : List ℕ → Resumption → Change
suspension memory at = Suspend at.hart at.address at.opaque memory

abbrev pub Fits : OpenStore → List ℕ → Resumption → Type 0
Fits store memory at = FitsBoard store.selected.shape memory at.hart at.address

-- What a suspension did that found no command in doubt. Two calls of the disk write each page; then come a sync and a commit.
pub record Suspended (disk : Facts) (m : FaultState) (old : OpenStore) (memory : List ℕ) (at : Resumption) (result : Result ℕ Refusal)
    (after_it : Facts) (x : FaultState) (new : OpenStore) : Type 0 where
  pub told : SuspendTold (Fits old memory at) old (state_now old disk.content) (suspension memory at) result new (state_now new after_it.content)
  pub leaves : GoesTo disk after_it old.selected.shape (state_now old disk.content)
      (after (state_now old disk.content) (suspension memory at)) result
  pub written : OnOk result (WroteACommand disk after_it)
  pub cause : MatchResult result (λ n. x ≡ m) (λ e. CausedRefusal m e x)
  pub counts : MatchResult result (λ n. after_it.failures ≡ disk.failures) (λ e. CountedRefusal disk.failures e
      after_it.failures)
  pub calls : OnOk result (after_it.calls ≡ counted disk.calls (2 * old.selected.shape.pages + 5))

-- a store was asked for a suspension: as `Asked` of the crate `store`
pub record SuspendsTo {D : Type 0} (f : D → Facts) (m : D → FaultState) (disk : D) (old : OpenStore) (memory : List ℕ) (at : Resumption)
    (result : Result ℕ Refusal) (after_it : D) (new : OpenStore) : Type 0 where
  pub answered : old.down ≡ false → Suspended (f disk) (m disk) old memory at result (f after_it) (m after_it) new
  pub down : old.down ≡ true → (result ≡ Err Down) × (after_it ≡ disk) × (new ≡ old)
  pub untouched : IfErr result (λ e. (e ≡ Device → ⊥) → (e ≡ Down → ⊥) → (after_it ≡ disk) × (new ≡ old))
  pub holds : Holds (f after_it) new
  pub as_long : SameLength (f disk) (f after_it)
  pub no_fewer : (f disk).failures ≤ (f after_it).failures
