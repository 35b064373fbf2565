use Rattle.ipi.specs.Seating.{pending_views_in}
use Rattle.tallies.proofs.Noted.{seated_alone}
use Rattle.ipi.proofs.table.PendingTable.split.Goals as goal

pub returns-clause-sits : goal.returns-clause-sits
returns-clause-sits c = λ i s at. seated_alone i (pending_views_in s) (c.split.ensures.order i s at)
