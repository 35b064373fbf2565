-- The calls of a load, one after another. Source: docs/STORE.md, "Reading an area".
use Rattle.std.specs.Prelude.{◌≡◌, ◌+◌, ◌*◌, ◌-◌, ◌<◌, ℕ, Bool, true, false, nat_lt, if◌then◌else◌, List, slice_index, map, take, replicate, slice_set, Result, Ok, Err, Some, None}
use Rattle.board_model.specs.Shapes.{Size}
use Rattle.board_model.specs.declared.refusal.Refusal.{Refusal}
use Rattle.board_model.specs.declared.refusal.Refusal.TheVariants as refusals
use Rattle.layout.specs.Places.{IsPlaceHead}
use Rattle.layout.specs.Records.{AreCounts}
use Rattle.layout.specs.Sizes.{area_start}
use Rattle.image.specs.Images.{places_in}
use Rattle.planned_store.specs.Commits.{Answer}
use Rattle.planned_store.specs.declared.stores.OpenStore.{OpenStore}
use Rattle.planned_store.specs.declared.loads.Loading.{Loading}
use Rattle.planned_store.specs.declared.loads.LoadStep.{LoadStep}
use Rattle.planned_store.specs.declared.loads.LoadStep.TheVariants.{ReadHead, ReadPage, Loaded, Spoilt, Failed}
use Rattle.planned_store.specs.declared.requests.ImageRequest.{ImageRequest}
use Rattle.planned_store.specs.declared.requests.ImageRequest.TheVariants as requests

-- whether a page came, of each of 256, by its byte
abbrev pub flags : List ℕ → List Bool
flags bytes = map (λ b. nat_lt 0 b) (take 256 bytes)

-- the places in use, counted through the lanes
abbrev pub all_places : Loading → List ℕ
all_places p = places_in p.shape 0 p.saved.counts

-- where in its area the place stands that is read, and where on the disk
abbrev pub place_now : Loading → ℕ
place_now p = slice_index (all_places p) p.done

abbrev pub place_sector : Loading → ℕ
place_sector p = area_start p.shape p.saved.area + place_now p

-- ---- the call of a load
abbrev pub load_asks_at : LoadStep → Loading → ImageRequest
load_asks_at ReadHead p = requests.Read (place_sector p)
load_asks_at (ReadPage page) p = requests.ReadPage (place_sector p + 1) page
load_asks_at Loaded p = requests.Done
load_asks_at Spoilt p = requests.Done
load_asks_at Failed p = requests.Done

abbrev pub load_asks : Loading → ImageRequest
load_asks p = load_asks_at p.step p

-- one that asks has a place to read, and a page to read it into
abbrev pub HasPlaceAt : LoadStep → Loading → Type 0
HasPlaceAt ReadHead p = p.done < p.shape.pages
HasPlaceAt (ReadPage page) p = (p.done < p.shape.pages) × (page < p.shape.pages)
HasPlaceAt Loaded p = Unit {0}
HasPlaceAt Spoilt p = Unit {0}
HasPlaceAt Failed p = Unit {0}

abbrev pub HasPlace : Loading → Type 0
HasPlace p = AreCounts p.shape p.saved.counts × HasPlaceAt p.step p

-- ---- what follows from a header: the page that it names, where the board has it, the serial is the image's, and that page did
-- not come yet
abbrev pub HeadGoes : Size → ℕ → List ℕ → List ℕ → LoadStep → Type 0
HeadGoes size serial came bytes (ReadPage page) =
    IsPlaceHead size (record { page = page; serial = serial }) bytes × (slice_index came page ≡ 0)
HeadGoes size serial came bytes Spoilt =
    (page : ℕ) → IsPlaceHead size (record { page = page; serial = serial }) bytes → slice_index came page ≡ 0 → ⊥
HeadGoes size serial came bytes step = ⊥

-- a page was read
abbrev pub page_taken : ℕ → Loading → Loading
page_taken page p =
    record p {
      done = p.done + 1;
      came = slice_set p.came page 1;
      step = (if nat_lt (p.done + 1) p.shape.pages then ReadHead else Loaded);
    }

abbrev pub LoadGoesAt : LoadStep → Loading → Answer → List ℕ → Loading → Type 0
LoadGoesAt ReadHead p (Ok v) bytes q =
    HeadGoes p.shape p.saved.head.serial p.came bytes q.step × (q ≡ record p { step = q.step })
LoadGoesAt (ReadPage page) p (Ok v) bytes q = q ≡ page_taken page p
LoadGoesAt ReadHead p (Err e) bytes q = q ≡ record p { step = Failed }
LoadGoesAt (ReadPage page) p (Err e) bytes q = q ≡ record p { step = Failed }
LoadGoesAt ended p answer bytes q = q ≡ p

abbrev pub LoadGoes : Loading → Answer → List ℕ → Loading → Type 0
LoadGoes p answer bytes q = LoadGoesAt p.step p answer bytes q

-- how many calls are left at most
abbrev pub loads_left_at : LoadStep → Loading → ℕ
loads_left_at ReadHead p = 2 * (p.shape.pages - p.done) + 1
loads_left_at (ReadPage page) p = 2 * (p.shape.pages - p.done)
loads_left_at Loaded p = 0
loads_left_at Spoilt p = 0
loads_left_at Failed p = 0

abbrev pub loads_left : Loading → ℕ
loads_left p = loads_left_at p.step p

-- what a load that has ended answers
abbrev pub loaded_at : LoadStep → Result (Unit {0}) Refusal
loaded_at Loaded = Ok tt
loaded_at Spoilt = Err refusals.BadImage
loaded_at step = Err refusals.Device

abbrev pub loaded_by : Loading → Result (Unit {0}) Refusal
loaded_by p = loaded_at p.step

-- ---- the load of an open store, into a memory of so many pages
pub record PlansLoad (store : OpenStore) (pages : ℕ) (p : Loading) : Type 0 where
  pub up : store.down ≡ false
  pub fits : pages ≡ store.selected.shape.pages
  pub image : store.selected.live.image ≡ Some p.saved
  pub is : p ≡ record {
    shape = store.selected.shape;
    saved = p.saved;
    done = 0;
    came = replicate 512 0;
    step = ReadHead;
  }

-- why there is none: 6 where a command is in doubt, 3 for a memory of another size, 8 without an image
abbrev pub NoLoad : OpenStore → ℕ → Refusal → Type 0
NoLoad store pages refusals.Down = store.down ≡ true
NoLoad store pages refusals.BadShape = (store.down ≡ false) × (pages ≡ store.selected.shape.pages → ⊥)
NoLoad store pages refusals.NoImage =
    (store.down ≡ false) × (pages ≡ store.selected.shape.pages) × (store.selected.live.image ≡ None)
NoLoad store pages e = ⊥
