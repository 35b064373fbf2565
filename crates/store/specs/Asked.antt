-- A store was asked for a command: what every answer to it says, of a command and of a suspension alike.
-- Source: docs/STORE.md, "A commit" and "A life".
use Rattle.std.specs.Prelude.{◌≡◌, ℕ, true, Result, Err, Some, None, IfErr, IsErrOf}
use Rattle.board_model.specs.Durable.{Change}
use Rattle.board_model.specs.declared.refusal.Refusal.{Refusal}
use Rattle.board_model.specs.declared.refusal.Refusal.TheVariants.{Device, Down, Memory}
use Rattle.disk.specs.declared.device.Disk.{Ghosts}
use Rattle.disk.specs.declared.device.Lane.{Ghosts as Lanes}
use Rattle.disk.specs.Facts.{Failed}
use Rattle.store.specs.Lives.{Life}
use Rattle.store.specs.Answers.{Answered, StaysOpen}
use Rattle.store.specs.Views.{disk_of, doubt_of, failures_at_open, was_refused_memory, view_of}
use Rattle.store.specs.declared.stores.Store.{Store}

module _ {D L : Type 0} {g : Ghosts D L} {l : Lanes L} where
  -- Where Does is what the command makes of a life: a store without a command in doubt does that, and a power
  -- cut at any moment leaves what it may; one with a command in doubt refuses and stays as it is. That memory was
  -- refused is remembered.
  pub record Asked (Does : Life → Change → Result ℕ Refusal → Life → Type 0) (old : Store D L g l) (c : Change)
      (r : Result ℕ Refusal) (new : Store D L g l) : Type 0 where
    pub answered : doubt_of old ≡ None → Answered Does (view_of old) c r (view_of new)
    pub down : (d : Change) → doubt_of old ≡ Some d → (r ≡ Err Down) × (new ≡ old)
    pub untouched : IfErr r (λ e. (e ≡ Device → ⊥) → (e ≡ Down → ⊥) → (e ≡ Memory → ⊥) → new ≡ old)
    pub life : IsErrOf r Down → Failed (failures_at_open new) (disk_of new).failures
    pub stays : StaysOpen (view_of old) (view_of new)
    pub remembered : IsErrOf r Memory → was_refused_memory new ≡ true
    pub as_before : (IsErrOf r Memory → ⊥) → was_refused_memory new ≡ was_refused_memory old
