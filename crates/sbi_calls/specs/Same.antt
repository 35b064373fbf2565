-- Both tables of one board.
use Rattle.std.specs.Prelude.{◌≡◌}
use Rattle.hsm.specs.Seating as harts
use Rattle.hsm.specs.declared.table.HartTable.{HartTable}
use Rattle.ipi.specs.Seating as pairs
use Rattle.ipi.specs.declared.table.PendingTable.{PendingTable}

-- they have as many harts
abbrev pub AreOfOneBoard : HartTable → PendingTable → Type 0
AreOfOneBoard t p = pairs.harts_of p ≡ harts.harts_of t
