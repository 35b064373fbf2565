-- A load and a suspension in the numbers and bytes that C keeps, beside the open store that they are of; and what a call of C makes
-- of them.
use Rattle.std.specs.Prelude.{◌≡◌, ◌⊎◌, ◌+◌, ◌^◌, ◌<◌, ℕ, List, Option, Some, None}
use Rattle.board_model.specs.Shapes.{Size, IsValidAddress}
use Rattle.board_model.specs.Views.{number_of_refusal}
use Rattle.board_model.specs.declared.refusal.Refusal.{Refusal}
use Rattle.planned_store.specs.Loads.{load_asks, LoadGoes, loaded_by, PlansLoad, NoLoad}
use Rattle.planned_store.specs.declared.loads.Loading.{Loading}
use Rattle.planned_store.specs.declared.loads.LoadStep.{LoadStep}
use Rattle.planned_store.specs.declared.loads.LoadStep.TheVariants.{ReadHead, ReadPage}
use Rattle.planned_store.specs.declared.requests.ImageRequest.{ImageRequest}
use Rattle.planned_store.specs.declared.requests.ImageRequest.TheVariants as requests
use Rattle.planned_store.specs.Saves.{save_asks, SavePuts, SaveGoes, commit_of, PlansSave, NoSave}
use Rattle.planned_store.specs.declared.saves.Saving.{Saving}
use Rattle.planned_store.specs.declared.saves.SaveStep.{SaveStep}
use Rattle.planned_store.specs.declared.saves.SaveStep.TheVariants as saves
use Rattle.planned_store.specs.Commits.{Answer}
use Rattle.planned_store.specs.Plans.{asked, Puts}
use Rattle.planned_store.specs.declared.commits.Commit.{Commit}
use Rattle.planned_store.specs.declared.plans.Plan.TheVariants.{Committing}
use Rattle.store.specs.declared.saving.Resumption.{Resumption}
use Rattle.planned_store.specs.declared.stores.OpenStore.{OpenStore}
use Rattle.sbistore.specs.Ends.{Keeps, answer_code}
use Rattle.sbistore.specs.Next.{IsAnswer, AsksFor}
use Rattle.sbistore.specs.Packed.{IsSelectedSound}
use Rattle.sbistore.specs.declared.state.Sbistore.{Sbistore}

-- the number of a step, and one past them all where a load has ended
abbrev pub load_number : LoadStep → ℕ
load_number ReadHead = 0
load_number (ReadPage page) = 1
load_number step = 2

abbrev pub page_of_step : LoadStep → ℕ
page_of_step (ReadPage page) = page
page_of_step step = 0

-- what a load makes of the numbers and bytes that keep it
abbrev pub with_load : Loading → Sbistore → Sbistore
with_load p store =
    record store { done = p.done; next = p.came; step = load_number p.step; page = page_of_step p.step; phase = 8 }

-- the step of a load under way
abbrev pub IsStep : Size → LoadStep → Sbistore → Type 0
IsStep size ReadHead store = store.step ≡ 0
IsStep size (ReadPage page) store = (store.step ≡ 1) × (store.page ≡ page) × (page < size.pages)
IsStep size step store = ⊥

-- a load of that open store is under way
pub record IsLoadPacked (life : OpenStore) (p : Loading) (store : Sbistore) : Type 0 where
  pub keeps : Keeps life store
  pub phase : store.phase ≡ 8
  pub shape : p.shape ≡ life.selected.shape
  pub image : life.selected.live.image ≡ Some p.saved
  pub done : store.done ≡ p.done
  pub more : p.done < p.shape.pages
  pub came : store.next ≡ p.came
  pub step : IsStep p.shape p.step store

-- C is asked for that call of a load, and the state keeps the load that asked for it; or for nothing more, and the code is its
-- answer
abbrev pub AsksLoad : ImageRequest → Loading → Sbistore → ℕ → Sbistore → Type 0
AsksLoad (requests.Read n) p old kind new =
    (kind ≡ 1) × (new ≡ record (with_load p old) { asked = 1; number = n })
AsksLoad (requests.ReadPage n page) p old kind new =
    (kind ≡ 4) × (new ≡ record (with_load p old) { asked = 1; number = n })
AsksLoad request p old kind new = (kind ≡ 0) × (new ≡ record old { phase = 0; number = answer_code (loaded_by p) })

-- the call of a load, as C is asked for it: a page into which sectors are read is told beside their number
abbrev pub IsAskedLoad : OpenStore → ImageRequest → Loading → ℕ → Sbistore → Type 0
IsAskedLoad life (requests.Read n) p kind store =
    (kind ≡ 1) × (store.number ≡ n) × (store.asked ≡ 1) × IsLoadPacked life p store
IsAskedLoad life (requests.ReadPage n page) p kind store =
    (kind ≡ 4) × (store.number ≡ n) × (store.page ≡ page) × (store.asked ≡ 1) × IsLoadPacked life p store
IsAskedLoad life request p kind store = (kind ≡ 0) × (store.phase ≡ 0) × (store.number ≡ answer_code (loaded_by p))

-- A load of an open store was under way. It is told how its last call ended, where one was asked for, and asks for the next one;
-- the store is kept.
pub record LoadNext (life : OpenStore) (p : Loading) (old : Sbistore) (failed : ℕ) (put : List ℕ) (kind : ℕ) (new : Sbistore) : Type 0
  where
    pub next : Loading
    pub first : old.asked ≡ 0 → next ≡ p
    pub told : 0 < old.asked → (answer : Answer) × IsAnswer failed answer × LoadGoes p answer put next
    pub asks : IsAskedLoad life (load_asks next) next kind new
    pub keeps : Keeps life new

-- a load was asked of an open store: it is begun, or it was refused; the store is kept
pub record LoadBegun (life : OpenStore) (pages : ℕ) (old new : Sbistore) : Type 0 where
  pub keeps : Keeps life new
  pub begun :
      ((p : Loading) × PlansLoad life pages p × (new.asked ≡ 0) × IsLoadPacked life p new)
      ⊎ ((e : Refusal) × NoLoad life pages e × (new.phase ≡ 0) × (new.number ≡ number_of_refusal e))

-- ---- a suspension
abbrev pub save_number : SaveStep → ℕ
save_number saves.WriteHead = 0
save_number saves.WritePage = 1
save_number saves.SyncArea = 2
save_number step = 3

-- what a suspension makes of the numbers and bytes that keep it
abbrev pub with_save : Saving → Sbistore → Sbistore
with_save s store =
    record store {
      hart = s.at.hart;
      address = s.at.address;
      opaque = s.at.opaque;
      page = s.page;
      step = save_number s.step;
      phase = 9;
    }

-- a suspension of that open store is under way, up to its commit
pub record IsSavePacked (life : OpenStore) (s : Saving) (store : Sbistore) : Type 0 where
  pub keeps : Keeps life store
  pub ends : store.ends ≡ 1
  pub phase : store.phase ≡ 9
  pub from : s.from ≡ life.selected
  pub hart : store.hart ≡ s.at.hart
  pub address : store.address ≡ s.at.address
  pub opaque : store.opaque ≡ s.at.opaque
  pub page : store.page ≡ s.page
  pub below : s.page < s.from.shape.pages
  pub serial : s.from.live.next + 1 < 2 ^ 64
  pub has_hart : s.at.hart < s.from.shape.harts
  pub has_address : IsValidAddress s.from.shape s.at.address
  pub step : store.step ≡ save_number s.step
  pub going : store.step < 3

-- the suspension goes on to its commit, or ends with 5 where a call failed
abbrev pub CommitsOrEnds : Option Commit → ℕ → Sbistore → List ℕ → Type 0
CommitsOrEnds (Some c) kind new put =
    AsksFor (asked (Committing c)) (Committing c) kind new × Puts (Committing c) put × (new.ends ≡ 1)
CommitsOrEnds None kind new put = (kind ≡ 0) × (new.phase ≡ 0) × (new.number ≡ 5)

-- and so where the open store is kept, and stays so
abbrev pub Commits : Saving → Sbistore → ℕ → Sbistore → List ℕ → Type 0
Commits s old kind new put =
    (life : OpenStore) → Keeps life old → old.ends ≡ 1 → s.from ≡ life.selected
    → CommitsOrEnds (commit_of s) kind new put × Keeps life new

-- C is asked for that call of a suspension, and the state keeps the suspension that asked for it; or it goes on to its commit
abbrev pub AsksSave : ImageRequest → Saving → Sbistore → ℕ → Sbistore → List ℕ → Type 0
AsksSave (requests.Write n) s old kind new put =
    (kind ≡ 2) × (new ≡ record (with_save s old) { asked = 1; number = n })
AsksSave (requests.WritePage n page) s old kind new put =
    (kind ≡ 5) × (new ≡ record (with_save s old) { asked = 1; number = n })
AsksSave requests.Sync s old kind new put =
    (kind ≡ 3) × (new ≡ record (with_save s old) { asked = 1; number = 0 })
AsksSave request s old kind new put = Commits s old kind new put

-- each number of a suspension is in its range
pub record IsSaveSound (s : Saving) : Type 0 where
  pub from : IsSelectedSound s.from
  pub hart : s.at.hart < s.from.shape.harts
  pub address : IsValidAddress s.from.shape s.at.address
  pub serial : s.from.live.next + 1 < 2 ^ 64

-- the call of a suspension, as C is asked for it: a page that is written is told beside the number of its first sector
abbrev pub IsAskedSave : OpenStore → ImageRequest → Saving → ℕ → Sbistore → List ℕ → Type 0
IsAskedSave life (requests.Write n) s kind new put =
    (kind ≡ 2) × (new.number ≡ n) × (new.asked ≡ 1) × IsSavePacked life s new
IsAskedSave life (requests.WritePage n page) s kind new put =
    (kind ≡ 5) × (new.number ≡ n) × (new.page ≡ page) × (new.asked ≡ 1) × IsSavePacked life s new
IsAskedSave life requests.Sync s kind new put = (kind ≡ 3) × (new.asked ≡ 1) × IsSavePacked life s new
IsAskedSave life request s kind new put = CommitsOrEnds (commit_of s) kind new put

-- A suspension of an open store was under way. It is told how its last call ended, where one was asked for, and asks for the next
-- one; the store is kept. Before a write of a sector, PUT has its bytes.
pub record SaveNext (life : OpenStore) (s : Saving) (old : Sbistore) (failed kind : ℕ) (new : Sbistore) (put : List ℕ) : Type 0 where
  pub next : Saving
  pub first : old.asked ≡ 0 → next ≡ s
  pub told : 0 < old.asked → (answer : Answer) × IsAnswer failed answer × SaveGoes s answer next
  pub bytes : SavePuts next put
  pub asks : IsAskedSave life (save_asks next) next kind new put
  pub keeps : Keeps life new

-- where the board goes on, by its numbers
abbrev pub resumption : ℕ → ℕ → ℕ → Resumption
resumption hart address opaque = record { hart = hart; address = address; opaque = opaque }

-- a suspension was asked of an open store: it is begun, or it was refused; the store is kept
pub record SaveBegun (life : OpenStore) (pages hart address opaque : ℕ) (old new : Sbistore) : Type 0 where
  pub keeps : Keeps life new
  pub begun :
      ((s : Saving) × PlansSave life pages (resumption hart address opaque) s × (new.asked ≡ 0) × IsSavePacked life s new)
      ⊎ ((e : Refusal) × NoSave life pages (resumption hart address opaque) e × (new.phase ≡ 0)
      × (new.number ≡ number_of_refusal e))
