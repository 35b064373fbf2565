use Rattle.std.proofs.Common.{◌≡◌}
use Rattle.state_space.specs.{Counted.AreCounted, Successors.found_width}
use Rattle.state_space.proofs.counted.Counting.add_all.Given as goal

abbrev pub invariant-loop-index : goal.invariant-loop-index
invariant-loop-index g l = record {
  system : l.self.system ≡ l.fn.self.system;
  most : l.self.most ≡ l.fn.self.most;
  width : found_width l.found ≡ found_width l.fn.found;
  listed : AreCounted g.S.Counts.is_counted l.left l.successors l.found l.index;
}
