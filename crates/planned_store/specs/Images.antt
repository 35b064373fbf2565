-- What a load by its plan makes of a disk and a memory: each clause of `Store::load_image` of the crate `store`, but that it is
-- refused 6 where a command is in doubt. Source: docs/STORE.md, "A life" and "Reading an area".
use Rattle.std.specs.Prelude.{◌≡◌, ◌*◌, ℕ, true, false, List, length, Result, Err, OnOk, IfErr}
use Rattle.board_model.specs.declared.refusal.Refusal.{Refusal}
use Rattle.board_model.specs.declared.refusal.Refusal.TheVariants.{BadImage, Device, Down}
use Rattle.disk.specs.Facts.{Facts, counted}
use Rattle.disk.specs.FaultState.{FaultState}
use Rattle.image.specs.Refusals.{StopsWithin}
use Rattle.store.specs.Leaves.{ReadsAlone}
use Rattle.store.specs.Lives.{IsLoaded, LoadRefused}
use Rattle.planned_store.specs.Stores.{state_now, Holds}
use Rattle.planned_store.specs.declared.stores.OpenStore.{OpenStore}

pub record LoadsTo {D : Type 0} (f : D → Facts) (m : D → FaultState) (store : OpenStore) (disk : D) (memory : List ℕ)
    (result : Result (Unit {0}) Refusal) (after_it : D) (loaded : List ℕ) : Type 0 where
  pub loads : OnOk result (IsLoaded (state_now store (f disk).content) loaded)
  pub refused : IfErr result (λ e. store.down ≡ false → LoadRefused store.selected.shape (state_now store (f disk).content) memory
      (f disk) (m disk) e (f after_it) (m after_it))
  pub down : store.down ≡ true → result ≡ Err Down
  pub up : OnOk result (store.down ≡ false)
  pub untouched : IfErr result
      (λ e. (e ≡ Device → ⊥) → (e ≡ BadImage → ⊥) → (loaded ≡ memory) × (after_it ≡ disk))
  pub length : length loaded ≡ length memory
  pub reads_alone : ReadsAlone (f disk) (f after_it)
  pub unsynced : (f after_it).moment ≡ (f disk).moment
  pub no_failure : OnOk result (((f after_it).failures ≡ (f disk).failures) × (m after_it ≡ m disk))
  pub calls : OnOk result ((f after_it).calls ≡ counted (f disk).calls (2 * store.selected.shape.pages))
  pub stops : IfErr result (λ e. store.down ≡ false → StopsWithin store.selected.shape.pages e (f disk).calls (f after_it).calls)
  pub holds : Holds (f after_it) store
