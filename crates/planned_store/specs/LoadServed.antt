-- What a caller does that was asked for a call of a load: the call, once, and its answer told.
use Rattle.std.specs.Prelude.{◌≡◌, ◌+◌, ◌*◌, ◌<◌, ◌≤◌, ◌++◌, ℕ, List, length, take, drop, OnOk}
use Rattle.std.specs.List.{flat_map}
use Rattle.disk.specs.Calls.{MakesCalls}
use Rattle.disk.specs.Facts.{Facts, Content, sector, Stays, AreSectorsAt}
use Rattle.disk.specs.FaultState.{FaultState}
use Rattle.planned_store.specs.Commits.{Answer}
use Rattle.planned_store.specs.declared.requests.ImageRequest.{ImageRequest}
use Rattle.planned_store.specs.declared.requests.ImageRequest.TheVariants.{Read, ReadPage}

-- a load asks for reads alone
abbrev pub IsALoad : ImageRequest → Type 0
IsALoad (Read n) = Unit {0}
IsALoad (ReadPage n page) = Unit {0}
IsALoad request = ⊥

-- the disk has the sectors that are asked for, and the memory the page
abbrev pub IsLoadWithin : ImageRequest → Content → List ℕ → Type 0
IsLoadWithin (Read n) c memory = n < length c
IsLoadWithin (ReadPage n page) c memory = (n + 8 ≤ length c) × (4096 * page + 4096 ≤ length memory)
IsLoadWithin request c memory = Unit {0}

-- the page of the memory is the bytes of those sectors
pub record PageFilled (n page : ℕ) (c : Content) (old new : List ℕ) : Type 0 where
  pub sectors : Content
  pub eight : length sectors ≡ 8
  pub found : AreSectorsAt n c sectors
  pub whole : length (flat_map (λ bytes. bytes) sectors) ≡ 4096
  pub new_is : new ≡ take (4096 * page) old ++ flat_map (λ bytes. bytes) sectors ++ drop (4096 * page + 4096) old

-- Once the call was made, of a disk of which nothing is lent: a read makes nothing durable. The sector of a read holds what stands;
-- the page that was read into is the bytes of its sectors, and no other page changes.
abbrev pub IsLoadServed : ImageRequest → Facts → Facts → FaultState → FaultState → Answer → List ℕ → List ℕ → List ℕ
    → Type 0
IsLoadServed (Read n) a b m x answer got old new =
    MakesCalls 1 Stays a b m x answer × (b.moment ≡ a.moment) × OnOk answer (got ≡ sector a.content n) × (new ≡ old)
IsLoadServed (ReadPage n page) a b m x answer got old new =
    MakesCalls 1 Stays a b m x answer × (b.moment ≡ a.moment) × OnOk answer (PageFilled n page a.content old new)
    × (length new ≡ length old)
IsLoadServed request a b m x answer got old new = ⊥
