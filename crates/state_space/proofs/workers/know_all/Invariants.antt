use Rattle.std.proofs.Common.{◌≡◌}
use Rattle.state_space.specs.{Carried.IsCarried, Successors.found_width}
use Rattle.state_space.proofs.workers.know_all.Given as goal

abbrev pub invariant-loop-index : goal.invariant-loop-index
invariant-loop-index g l = record {
  width : found_width l.known ≡ found_width l.fn.known;
  carried : IsCarried (g.S.System.stands l.system) (g.S.System.stands l.main) l.found l.known l.index;
}
