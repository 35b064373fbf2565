use Rattle.std.proofs.Common.{◌≡◌}
use Rattle.state_space.specs.{Carried.IsCarried, Successors.found_width, Systems.Stay}
use Rattle.state_space.proofs.windows.carry_all.Given as goal

abbrev pub invariant-loop-index : goal.invariant-loop-index
invariant-loop-index g l = record {
  setting : g.S.System.setting l.system ≡ g.S.System.setting l.fn.system;
  stays : Stay (g.S.System.stands l.fn.system) (g.S.System.stands l.system);
  width : found_width l.found ≡ found_width l.fn.found;
  knows : g.S.Carries.knows l.from l.system l.memo;
  carried : IsCarried (g.S.System.stands l.from) (g.S.System.stands l.system) l.successors l.found l.index;
}
