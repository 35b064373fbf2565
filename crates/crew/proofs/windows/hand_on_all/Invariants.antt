use Rattle.std.proofs.Common.{◌≤◌, ◌-◌}
use Rattle.crew.specs.Handed.{Handed}
use Rattle.crew.proofs.windows.hand_on_all.Given as goal

abbrev pub invariant-loop-done : goal.invariant-loop-done
invariant-loop-done g l = record {
  few : l.done ≤ l.count;
  handed : Handed (g.T.Task.is_row l.task) g.S.Sink.takes l.first l.done l.initial.sink l.sink;
}

abbrev pub decreases-loop-done : goal.decreases-loop-done
decreases-loop-done g l = l.count - l.done
