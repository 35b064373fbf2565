use Rattle.std.proofs.Common.{◌≡◌}
use Rattle.state_space.specs.{Bounded.Budget, Successors.found_width, Switched.{AreListed, last_number}}
use Rattle.state_space.proofs.switched.Switching.add_all.Given as goal

abbrev pub invariant-loop-index : goal.invariant-loop-index
invariant-loop-index g l = record {
  system : l.self.system ≡ l.fn.self.system;
  switches : l.self.switches ≡ l.fn.self.switches;
  width : found_width l.found ≡ found_width l.fn.found;
  listed : (w : Budget) → l.budget.0 ≡ last_number w.last → l.budget.1 ≡ w.left → AreListed g.S.Preempted.by l.is_free w l.successors l.found l.index;
}
