-- A board wakes from its image. Source: SBI specification 2.0, chapter 13; docs/SBI.md.
use Rattle.std.specs.Prelude.{◌≡◌, ◌⊎◌, ℕ, List, Result, Err, Some, None, length}
use Rattle.board_model.specs.Durable.{DurableState, Image, Change, Consume, IsWhole}
use Rattle.board_model.specs.Shapes.{ram_bytes_of}
use Rattle.board_model.specs.declared.refusal.Refusal.{Refusal}
use Rattle.board_model.specs.declared.refusal.Refusal.TheVariants.{Device, Down, BadShape, NoImage, BadImage}
use Rattle.disk.specs.declared.device.Disk.{Ghosts}
use Rattle.disk.specs.declared.device.Lane.{Ghosts as Lanes}
use Rattle.disk.specs.Facts.{Passes, Stays, Failed}
use Rattle.hart.specs.State.{ArchState as HartState, started}
use Rattle.image.specs.Refusals.{StopsWithin}
use Rattle.store.specs.Lives.{Applied, Reaches, LoadRefused}
use Rattle.store.specs.Answers.{Answered}
use Rattle.store.specs.Views.{disk_of, fault_state_of, size_of_store, life_of, now_state, doubt_of, view_of}
use Rattle.store.specs.declared.stores.Store.{Store}

-- The memory is that of the image that stands, and the hart is the image's, as one that starts at its address
-- with its opaque value.
abbrev pub IsWoken : DurableState → List ℕ → HartState → Type 0
IsWoken s memory hart =
    (i : Image) × (s.image ≡ Some i) × (memory ≡ i.memory) × (hart ≡ started i.hart i.address i.opaque)

-- How many calls of the disk a wake made that was refused so, of an image of so many pages: none for a memory of
-- another size and without an image, and where the image is bad those of the load, which ends at the place that
-- shows it.
abbrev pub WakeStops : ℕ → Refusal → ℕ → ℕ → Type 0
WakeStops pages BadShape old new = new ≡ old
WakeStops pages NoImage old new = new ≡ old
WakeStops pages BadImage old new = StopsWithin pages BadImage old new
WakeStops pages e old new = Unit {0}

module _ {D L : Type 0} {g : Ghosts D L} {l : Lanes L} where
  -- the life went on as it was, and a crash leaves what it might have left before
  pub record StoreIsLeft (old new : Store D L g l) : Type 0 where
    pub life : life_of new ≡ life_of old
    pub crash : Passes (disk_of old) (disk_of new) Stays

  -- the image was not loaded into that memory
  pub record IsUnloaded (old : Store D L g l) (memory : List ℕ) (e : Refusal) (new : Store D L g l) : Type 0 where
    pub why : LoadRefused (size_of_store old) (now_state old) memory (disk_of old) (fault_state_of old) e (disk_of new)
        (fault_state_of new)
    pub left : StoreIsLeft old new

  -- the image was loaded, and its consumption asked of the store
  pub record IsConsumed (old : Store D L g l) (r : Result ℕ Refusal) (new : Store D L g l) : Type 0 where
    pub answered : doubt_of old ≡ None → Answered Applied (view_of old) Consume r (view_of new)
    pub down : (c : Change) → doubt_of old ≡ Some c → (r ≡ Err Down) × StoreIsLeft old new

  -- Nothing stands against a wake: no command is in doubt, a Consume goes to the disk (so the life is not
  -- over, and an image stands), the image has the memory of its board, and the memory that is lent is of its
  -- size.
  pub record IsWakeable (store : Store D L g l) (memory : List ℕ) : Type 0 where
    pub up : doubt_of store ≡ None
    pub reaches : Reaches (life_of store) Consume
    pub whole : IsWhole (size_of_store store) (now_state store)
    pub fits : length memory ≡ ram_bytes_of (size_of_store store)

  -- refused, 5 or 6, because the disk failed in this call
  abbrev pub DiskFailed : Store D L g l → Refusal → Store D L g l → Type 0
  DiskFailed old e new = ((e ≡ Device) ⊎ (e ≡ Down)) × Failed (disk_of old).failures (disk_of new).failures
