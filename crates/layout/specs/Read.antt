-- The numbers of a sector that keep an image.
use Rattle.std.specs.Prelude.{◌≡◌, ℕ, List, slice_index}
use Rattle.layout.specs.Fields.{number_at}
use Rattle.layout.specs.declared.saved.Saved.{Saved}

pub record StandsIn (sector : List ℕ) (saved : Saved) : Type 0 where
  pub serial : number_at 8 24 sector ≡ saved.head.serial
  pub area : number_at 4 32 sector ≡ saved.area
  pub hart : number_at 4 36 sector ≡ saved.head.hart
  pub address : number_at 8 40 sector ≡ saved.head.address
  pub opaque : number_at 8 48 sector ≡ saved.head.opaque
  pub zero : number_at 4 56 sector ≡ slice_index saved.counts 0
  pub one : number_at 4 60 sector ≡ slice_index saved.counts 1
  pub two : number_at 4 64 sector ≡ slice_index saved.counts 2
  pub three : number_at 4 68 sector ≡ slice_index saved.counts 3
