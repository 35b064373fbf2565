-- The gate and the two records of the bench's disk, as far as the commands that it keeps tell them.
-- Source: docs/STORE.md, "A commit".
use Rattle.std.specs.Prelude.{◌≡◌, ◌<◌, ◌%◌, ◌↔◌, None, length}
use Rattle.board_model.specs.Kept.{Kept}
use Rattle.board_model.specs.Shapes.{Size}
use Rattle.disk.specs.Facts.{Content, Facts, sector}
use Rattle.store.specs.Inspects.{HasRecord}
use Rattle.store.specs.Standing.{selected, live_sector, other_sector, version_at}
use Rattle.bench_report.specs.Bench.{DiskState, Blank, Unknown, Formatted, Bench, IsClean}

-- A content of a disk on which no call failed and that nobody but the firmware wrote. One that was never written
-- has no record where a format writes none. One that was formatted keeps no command in doubt; each command turns
-- the gate, whose record is in its form and of version 2, and the other one is so from the first command on.
abbrev pub SidesOf : DiskState → Kept → Size → Content → Type 0
SidesOf Blank kept size c = HasRecord size (sector c 3) → ⊥
SidesOf Unknown kept size c = ⊥
SidesOf Formatted kept size c =
    (kept.doubt ≡ None) × (selected c ≡ length kept.changes % 2) × HasRecord size (live_sector c)
    × (version_at (live_sector c) ≡ 2) × (HasRecord size (other_sector c) ↔ (0 < length kept.changes))

-- so is each content that a crash may leave of the disk of a clean bench
abbrev pub SidesAre : Size → Bench → Facts → Type 0
SidesAre size b disk = IsClean b → (c : Content) → disk.may_leave c → SidesOf b.disk_state b.kept size c
