-- What a call of C makes of the plan that the state keeps: what the loop of the crate `planned_store` makes of it.
use Rattle.std.specs.Prelude.{◌≡◌, ◌<◌, ℕ, List, Ok, Err}
use Rattle.planned_store.specs.Commits.{Answer}
use Rattle.planned_store.specs.Plans.{asked, Puts, Goes}
use Rattle.planned_store.specs.declared.plans.Plan.{Plan}
use Rattle.planned_store.specs.declared.plans.Request.{Request}
use Rattle.planned_store.specs.declared.plans.Request.TheVariants.{Read, Write, Sync, Done}
use Rattle.sbistore.specs.Ends.{Ended, KeepsOn}
use Rattle.sbistore.specs.Packed.{IsPacked}
use Rattle.sbistore.specs.declared.state.Sbistore.{Sbistore}

-- what C tells: 0 where the call went well
abbrev pub IsAnswer : ℕ → Answer → Type 0
IsAnswer failed (Ok v) = failed ≡ 0
IsAnswer failed (Err e) = 0 < failed

-- C is asked for that call, and the state keeps the plan that asked for it; or for nothing more
abbrev pub AsksFor : Request → Plan → ℕ → Sbistore → Type 0
AsksFor (Read n) plan kind store = (kind ≡ 1) × (store.number ≡ n) × (store.asked ≡ 1) × IsPacked plan store
AsksFor (Write n) plan kind store = (kind ≡ 2) × (store.number ≡ n) × (store.asked ≡ 1) × IsPacked plan store
AsksFor Sync plan kind store = (kind ≡ 3) × (store.asked ≡ 1) × IsPacked plan store
AsksFor Done plan kind store = kind ≡ 0

-- A plan was under way. It is told how its last call ended, where one was asked for, and asks for the next one.
pub record NextOf (plan : Plan) (old : Sbistore) (failed : ℕ) (put : List ℕ) (kind : ℕ) (new : Sbistore) (got : List ℕ) : Type 0 where
  pub next : Plan
  pub first : old.asked ≡ 0 → next ≡ plan
  pub told : 0 < old.asked → (answer : Answer) × IsAnswer failed answer × Goes plan answer put next
  pub bytes : Puts next got
  pub asks : AsksFor (asked next) next kind new
  pub ends : asked next ≡ Done → Ended next old new
  pub keeps : (asked next ≡ Done → ⊥) → KeepsOn next old new
