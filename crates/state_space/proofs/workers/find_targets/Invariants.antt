use Rattle.std.proofs.Common.{◌≡◌, length}
use Rattle.state_space.specs.Carried.{AreTargets}
use Rattle.state_space.proofs.workers.find_targets.Given as goal

abbrev pub invariant-loop-index : goal.invariant-loop-index
invariant-loop-index l = record {
  long : length l.targets.items ≡ l.index;
  each : AreTargets l.graph l.found l.targets.items;
}
