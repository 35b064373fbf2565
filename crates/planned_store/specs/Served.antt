-- What a caller does that was asked for a call of the disk: the call, once, and its answer told.
use Rattle.std.specs.Prelude.{◌≡◌, ◌<◌, ℕ, List, [], ◌∷◌, length, OnOk}
use Rattle.disk.specs.Calls.{MakesCalls}
use Rattle.disk.specs.Facts.{Facts, Content, sector, Torn, Written, Stays, Only}
use Rattle.disk.specs.FaultState.{FaultState}
use Rattle.planned_store.specs.Commits.{Answer}
use Rattle.planned_store.specs.declared.plans.Request.{Request}
use Rattle.planned_store.specs.declared.plans.Request.TheVariants.{Read, Write, Sync, Done}

-- the disk has the sector that is asked for
abbrev pub IsWithin : Request → Content → Type 0
IsWithin (Read n) c = n < length c
IsWithin (Write n) c = n < length c
IsWithin Sync c = Unit {0}
IsWithin Done c = Unit {0}

-- Once the call was made, of a disk of which nothing is lent: the sector of a read holds what stands, that of a
-- write was written, and what is synced is durable. Where nothing was asked for, nothing is served.
abbrev pub IsServed : Request → List ℕ → Facts → Facts → FaultState → FaultState → Answer → List ℕ → Type 0
IsServed (Read n) put a b m x answer got =
    MakesCalls 1 Stays a b m x answer × OnOk answer (got ≡ sector a.content n)
IsServed (Write n) put a b m x answer got =
    MakesCalls 1 (Torn n 1) a b m x answer × OnOk answer (Written n (put ∷ []) a.content b.content)
IsServed Sync put a b m x answer got =
    MakesCalls 1 Stays a b m x answer × OnOk answer (Only b.content b.may_leave)
IsServed Done put a b m x answer got = ⊥
