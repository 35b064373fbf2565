-- What an open by a plan makes of a disk: each clause of `Store::open` of the crate `store`, but that it is never refused
-- memory. Source: docs/STORE.md, "Opening".
use Rattle.std.specs.Prelude.{◌≡◌, ◌⊎◌, ◌<◌, Result, Ok, Err, IfOk, IfErr, MatchResult, length}
use Rattle.board_model.specs.Durable.{DurableState}
use Rattle.board_model.specs.Shapes.{Size}
use Rattle.board_model.specs.declared.refusal.Refusal.{Refusal}
use Rattle.board_model.specs.declared.refusal.Refusal.TheVariants.{BadShape, Device}
use Rattle.disk.specs.Facts.{Facts, counted}
use Rattle.disk.specs.FaultState.{FaultState}
use Rattle.store.specs.Answers.{StoreView, Opened}
use Rattle.store.specs.Leaves.{ReadsAlone, IsSettled, LeavesVersionTwo}
use Rattle.store.specs.Lives.{begun as begun_life}
use Rattle.store.specs.Opens.{ReadsAs, OpenRefused, OpenCalls, open_calls, CausedRefusal}
use Rattle.store.specs.Standing.{StandsFor}
use Rattle.planned_store.specs.Commits.{made_by}
use Rattle.planned_store.specs.declared.commits.Commit.{Commit}
use Rattle.planned_store.specs.declared.commits.CommitStep.{CommitStep}
use Rattle.planned_store.specs.declared.commits.CommitStep.TheVariants.{Committed}
use Rattle.planned_store.specs.declared.plans.Plan.{Plan}
use Rattle.planned_store.specs.declared.plans.Plan.TheVariants.{Found, Renewing, Refused}
use Rattle.planned_store.specs.Stores.{Holds, state_now, begun}
use Rattle.planned_store.specs.declared.stores.OpenStore.{OpenStore}

-- the open store as the crate `store` shows one, in a life without commands
abbrev pub view_begun : Facts → FaultState → OpenStore → StoreView
view_begun disk m store = record {
  disk = disk;
  fault_state = m;
  size = store.selected.shape;
  life = begun_life (state_now store disk.content);
  failures_at_open = disk.failures;
}

-- what an open whose plan has ended answers
abbrev pub opened_at : Commit → CommitStep → Result OpenStore Refusal
opened_at c Committed = Ok (begun (made_by c))
opened_at c step = Err Device

abbrev pub opened_by : Plan → Result OpenStore Refusal
opened_by (Found found) = Ok (begun found)
opened_by (Renewing c) = opened_at c c.step
opened_by (Refused e) = Err e
opened_by plan = Err Device

pub record OpensTo {D : Type 0} (f : D → Facts) (m : D → FaultState) (old : D) (result : Result OpenStore Refusal) (new : D) : Type 0 where
  pub opened : IfOk result (λ store. Opened (f old) (view_begun (f new) (m new) store))
  pub begins : IfOk result (λ store. (store ≡ begun store.selected) × Holds (f new) store)
  pub version : IfOk result (λ store. LeavesVersionTwo (f new))
  pub refused : IfErr result (λ e. OpenRefused (f old) e (f new))
  pub refuses : (e : Refusal) → ReadsAs (f old).content e → MatchResult result (λ store. ⊥) (λ d. (d ≡ e) ⊎ (d ≡ Device))
  pub opens : (size : Size) (s : DurableState) → StandsFor (f old).content size s → IfErr result (λ d. d ≡ Device)
  pub no_sectors : length (f old).content ≡ 0 → (result ≡ Err BadShape) × (new ≡ old)
  pub reads_alone : IfErr result (λ e. (e ≡ Device → ⊥) → ReadsAlone (f old) (f new))
  pub settles : IsSettled (f old) (f new)
  pub calls : 0 < length (f old).content
      → MatchResult result (λ store. (f new).calls ≡ counted (f old).calls (open_calls (f old).content)) (λ e. OpenCalls
      (f old).content e (f old).calls (f new).calls)
  pub cause : MatchResult result (λ store. m new ≡ m old) (λ e. CausedRefusal (m old) e (m new))
