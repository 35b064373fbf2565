-- The calls of a suspension up to its commit, one after another. Source: docs/STORE.md, "Writing an area".
use Rattle.std.specs.Prelude.{◌≡◌, ◌⊎◌, ◌+◌, ◌*◌, ◌-◌, ◌^◌, ◌<◌, ℕ, true, false, nat_lt, if◌then◌else◌, min, List, [], ◌∷◌, Option, Some, None, Ok, Err}
use Rattle.board_model.specs.Shapes.{Size, places_of, IsValidAddress}
use Rattle.board_model.specs.declared.refusal.Refusal.{Refusal}
use Rattle.board_model.specs.declared.refusal.Refusal.TheVariants as refusals
use Rattle.layout.specs.Places.{place_head_of}
use Rattle.layout.specs.Sizes.{area_start}
use Rattle.layout.specs.declared.records.Record.{Record}
use Rattle.layout.specs.declared.saved.Saved.{Saved}
use Rattle.store.specs.Follows.{durable_after, suspended}
use Rattle.store.specs.declared.saving.Resumption.{Resumption}
use Rattle.planned_store.specs.Commits.{Answer}
use Rattle.planned_store.specs.declared.commits.Commit.{Commit}
use Rattle.planned_store.specs.declared.commits.CommitStep.TheVariants.{WriteRecord}
use Rattle.planned_store.specs.declared.stores.OpenStore.{OpenStore}
use Rattle.planned_store.specs.declared.saves.Saving.{Saving}
use Rattle.planned_store.specs.declared.saves.SaveStep.{SaveStep}
use Rattle.planned_store.specs.declared.saves.SaveStep.TheVariants.{WriteHead, WritePage, SyncArea, Saved as AreaSaved, Failed}
use Rattle.planned_store.specs.declared.requests.ImageRequest.{ImageRequest}
use Rattle.planned_store.specs.declared.requests.ImageRequest.TheVariants as requests

-- the area that this image does not use, area 0 where there is none
abbrev pub free_side : Option Saved → ℕ
free_side None = 0
free_side (Some saved) = 1 - saved.area

-- how many places of each lane are in use, where one is full before the next begins
abbrev pub counts_by : ℕ → ℕ → List ℕ
counts_by most pages =
    let zero = min pages most in
    let one = min (pages - zero) most in
    let two = min (pages - zero - one) most in
    let three = min (pages - zero - one - two) most in
    zero ∷ one ∷ two ∷ three ∷ []

abbrev pub counts_of : Size → List ℕ
counts_of size = counts_by (places_of size) size.pages

-- where on the disk the place of the page stands: where lanes are full one after another, places follow pages
abbrev pub save_sector : Saving → ℕ
save_sector s = area_start s.from.shape (free_side s.from.live.image) + 9 * s.page

-- ---- the call, and the bytes that it writes
abbrev pub save_asks_at : SaveStep → Saving → ImageRequest
save_asks_at WriteHead s = requests.Write (save_sector s)
save_asks_at WritePage s = requests.WritePage (save_sector s + 1) s.page
save_asks_at SyncArea s = requests.Sync
save_asks_at AreaSaved s = requests.Done
save_asks_at Failed s = requests.Done

abbrev pub save_asks : Saving → ImageRequest
save_asks s = save_asks_at s.step s

abbrev pub SavePutsAt : SaveStep → Saving → List ℕ → Type 0
SavePutsAt WriteHead s bytes = bytes ≡ place_head_of (record { page = s.page; serial = s.from.live.next })
SavePutsAt step s bytes = Unit {0}

abbrev pub SavePuts : Saving → List ℕ → Type 0
SavePuts s bytes = SavePutsAt s.step s bytes

-- the page is the board's
abbrev pub HasPage : Saving → Type 0
HasPage s = s.page < s.from.shape.pages

-- ---- what follows
abbrev pub next_page : Saving → Saving
next_page s =
    if nat_lt (s.page + 1) s.from.shape.pages
    then record s { page = s.page + 1; step = WriteHead } else record s { step = SyncArea }

abbrev pub SaveGoesAt : SaveStep → Saving → Answer → Saving → Type 0
SaveGoesAt WriteHead s (Ok v) t = t ≡ record s { step = WritePage }
SaveGoesAt WritePage s (Ok v) t = t ≡ next_page s
SaveGoesAt SyncArea s (Ok v) t = t ≡ record s { step = AreaSaved }
SaveGoesAt WriteHead s (Err e) t = t ≡ record s { step = Failed }
SaveGoesAt WritePage s (Err e) t = t ≡ record s { step = Failed }
SaveGoesAt SyncArea s (Err e) t = t ≡ record s { step = Failed }
SaveGoesAt ended s answer t = t ≡ s

abbrev pub SaveGoes : Saving → Answer → Saving → Type 0
SaveGoes s answer t = SaveGoesAt s.step s answer t

-- how many calls are left at most
abbrev pub saves_left_at : SaveStep → Saving → ℕ
saves_left_at WriteHead s = 2 * (s.from.shape.pages - s.page) + 1
saves_left_at WritePage s = 2 * (s.from.shape.pages - s.page)
saves_left_at SyncArea s = 1
saves_left_at AreaSaved s = 0
saves_left_at Failed s = 0

abbrev pub saves_left : Saving → ℕ
saves_left s = saves_left_at s.step s

-- ---- the record that names the area, and its commit
abbrev pub saved_record : Saving → Record
saved_record s =
    suspended (durable_after s.from.live s.at) (free_side s.from.live.image) (counts_of s.from.shape)

abbrev pub commit_at : SaveStep → Saving → Option Commit
commit_at AreaSaved s = Some (record { from = s.from; next = saved_record s; step = WriteRecord })
commit_at step s = None

abbrev pub commit_of : Saving → Option Commit
commit_of s = commit_at s.step s

-- ---- the suspension of an open store
-- a memory of so many pages, the hart and the address are the board's
abbrev pub HasBoard : Size → ℕ → ℕ → ℕ → Type 0
HasBoard size pages hart address = (pages ≡ size.pages) × (hart < size.harts) × IsValidAddress size address

pub record PlansSave (store : OpenStore) (pages : ℕ) (at : Resumption) (s : Saving) : Type 0 where
  pub up : store.down ≡ false
  pub going : store.over ≡ false
  pub room : store.receipts < 2 ^ 64 - 1
  pub fits : HasBoard store.selected.shape pages at.hart at.address
  pub serial : store.selected.live.next + 1 < 2 ^ 64
  pub is : s ≡ record { from = store.selected; at = at; page = 0; step = WriteHead }

-- why there is none
abbrev pub NoSave : OpenStore → ℕ → Resumption → Refusal → Type 0
NoSave store pages at e =
    ((e ≡ refusals.Down) × (store.down ≡ true))
    ⊎ ((e ≡ refusals.Over) × (store.down ≡ false) × (store.over ≡ true))
    ⊎ ((e ≡ refusals.JournalFull) × (store.down ≡ false) × (store.over ≡ false) × (store.receipts ≡ 2 ^ 64 - 1))
    ⊎ ((e ≡ refusals.BadShape) × (store.down ≡ false) × (store.over ≡ false) × (store.receipts < 2 ^ 64 - 1)
    × (HasBoard store.selected.shape pages at.hart at.address → ⊥))
    ⊎ ((e ≡ refusals.SerialsSpent) × (store.down ≡ false) × (store.over ≡ false) × (store.receipts < 2 ^ 64 - 1)
    × HasBoard store.selected.shape pages at.hart at.address × (store.selected.live.next ≡ 2 ^ 64 - 1))
