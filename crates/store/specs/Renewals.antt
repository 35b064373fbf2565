-- What an open has found, written anew where its record was of version 1. Source: docs/STORE.md, "Migration".
use Rattle.std.specs.Prelude.{◌≡◌, None}
use Rattle.disk.specs.Facts.{Facts}
use Rattle.layout.specs.declared.records.Version.TheVariants.{Two}
use Rattle.store.specs.Commits.{Keeps}
use Rattle.store.specs.Standing.{state_of}
use Rattle.store.specs.declared.opens.FoundRecord.{FoundRecord}

-- the same state of the same board, in a record of version 2 that each crash leaves selected
pub record IsKeptAnew (old : Facts) (found : FoundRecord) (new : Facts) (kept : FoundRecord) : Type 0 where
  pub keeps : Keeps new kept.shape kept.side kept.record None
  pub shape : kept.shape ≡ found.shape
  pub version : kept.record.version ≡ Two
  pub state : state_of kept.shape kept.record new.content ≡ state_of found.shape found.record old.content
