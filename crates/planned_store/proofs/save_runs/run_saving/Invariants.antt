use Rattle.std.proofs.Common.{◌≡◌, ◌≤◌, length}
use Rattle.board_model.specs.Shapes.{sectors_of}
use Rattle.planned_store.specs.{Saves.{HasPage, saves_left}, SaveReached.SaveReached}
use Rattle.planned_store.proofs.save_runs.run_saving.Given as goal

abbrev pub invariant-loop : goal.invariant-loop
invariant-loop g l = record {
  reached : SaveReached g.D.Disk.facts g.D.Disk.fault_state l.plan l.initial.disk l.disk l.ram;
  page : HasPage l.plan;
  same_from : l.plan.from ≡ l.initial.plan.from;
  same_at : l.plan.at ≡ l.initial.plan.at;
  none_out : (g.D.Disk.facts l.disk).lent.lanes ≡ 0;
  enough : sectors_of l.plan.from.shape ≤ length (g.D.Disk.facts l.disk).content;
}

abbrev pub decreases-loop : goal.decreases-loop
decreases-loop g l = saves_left l.plan
