-- What a caller does that was asked for a call of a suspension: the call, once, and its answer told.
use Rattle.std.specs.Prelude.{◌≡◌, ◌+◌, ◌*◌, ◌<◌, ◌≤◌, ℕ, List, [], ◌∷◌, length, take, drop, OnOk}
use Rattle.disk.specs.Calls.{MakesCalls}
use Rattle.disk.specs.Facts.{Facts, Content, sector, Torn, Written, Stays, Only}
use Rattle.disk.specs.FaultState.{FaultState}
use Rattle.planned_store.specs.Commits.{Answer}
use Rattle.planned_store.specs.declared.requests.ImageRequest.{ImageRequest}
use Rattle.planned_store.specs.declared.requests.ImageRequest.TheVariants.{Write, WritePage, Sync}

-- a suspension asks for writes and syncs alone
abbrev pub IsASave : ImageRequest → Type 0
IsASave (Write n) = Unit {0}
IsASave (WritePage n page) = Unit {0}
IsASave Sync = Unit {0}
IsASave request = ⊥

-- the disk has the sectors that are asked for, and the memory the page
abbrev pub IsSaveWithin : ImageRequest → Content → List ℕ → Type 0
IsSaveWithin (Write n) c memory = n < length c
IsSaveWithin (WritePage n page) c memory = (n + 8 ≤ length c) × (4096 * page + 4096 ≤ length memory)
IsSaveWithin request c memory = Unit {0}

-- the page of the memory stands in those sectors
abbrev pub PageWritten : ℕ → ℕ → List ℕ → Content → Type 0
PageWritten n page memory c =
    (j : ℕ) → j < 8 → sector c (n + j) ≡ take 512 (drop (4096 * page + 512 * j) memory)

-- Once the call was made, of a disk of which nothing is lent: what was written stands, and what is synced is durable.
abbrev pub IsSaveServed : ImageRequest → List ℕ → List ℕ → Facts → Facts → FaultState → FaultState → Answer → Type 0
IsSaveServed (Write n) put memory a b m x answer =
    MakesCalls 1 (Torn n 1) a b m x answer × OnOk answer (Written n (put ∷ []) a.content b.content)
IsSaveServed (WritePage n page) put memory a b m x answer =
    MakesCalls 1 (Torn n 8) a b m x answer × OnOk answer (PageWritten n page memory b.content)
IsSaveServed Sync put memory a b m x answer =
    MakesCalls 1 Stays a b m x answer × OnOk answer (Only b.content b.may_leave)
IsSaveServed request put memory a b m x answer = ⊥
