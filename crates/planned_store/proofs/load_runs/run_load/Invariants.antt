use Rattle.std.proofs.Common.{◌≡◌, ◌≤◌, length}
use Rattle.board_model.specs.Shapes.{sectors_of}
use Rattle.planned_store.specs.{Loads.{HasPlace, loads_left}, LoadReached.LoadReached}
use Rattle.planned_store.proofs.load_runs.run_load.Given as goal

abbrev pub invariant-loop : goal.invariant-loop
invariant-loop g l = record {
  reached : LoadReached g.D.Disk.facts g.D.Disk.fault_state l.plan l.initial.disk l.disk l.ram;
  place : HasPlace l.plan;
  same_shape : l.plan.shape ≡ l.initial.plan.shape;
  same_saved : l.plan.saved ≡ l.initial.plan.saved;
  none_out : (g.D.Disk.facts l.disk).lent.lanes ≡ 0;
  enough : sectors_of l.plan.shape ≤ length (g.D.Disk.facts l.disk).content;
}

abbrev pub decreases-loop : goal.decreases-loop
decreases-loop g l = loads_left l.plan
