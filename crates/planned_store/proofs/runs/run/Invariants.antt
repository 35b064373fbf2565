use Rattle.std.proofs.Common.{◌≡◌}
use Rattle.planned_store.specs.{Plans.{calls_left, task_of}, Reached.Reached}
use Rattle.planned_store.proofs.runs.run.Given as goal

abbrev pub invariant-loop-sector : goal.invariant-loop-sector
invariant-loop-sector g l = record {
  reached : Reached g.D.Disk.facts g.D.Disk.fault_state l.plan l.initial.disk l.disk;
  task : task_of l.plan ≡ task_of l.initial.plan;
  none_out : (g.D.Disk.facts l.disk).lent.lanes ≡ 0;
}

abbrev pub decreases-loop-sector : goal.decreases-loop-sector
decreases-loop-sector g l = calls_left l.plan
