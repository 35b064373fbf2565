-- What was written last on a disk, to a contract.
use Rattle.std.specs.Prelude.{if◌then◌else◌, ◌≡◌, ◌≤◌, ℕ, false, length, vec_capacity}
use Rattle.disk.specs.Facts.{Content}
use Rattle.simdisk.specs.declared.latest.Latest.{Latest}

-- on a disk of that content
abbrev pub latest_of : Latest → Content → Content
latest_of latest content = if latest.as_read then content else latest.sectors.items

-- it has room for so many sectors, and has as many once they are kept apart
abbrev pub HasPlace : ℕ → Latest → Type 0
HasPlace n latest =
    (n ≤ vec_capacity latest.sectors) × (latest.as_read ≡ false → length latest.sectors.items ≡ n)
