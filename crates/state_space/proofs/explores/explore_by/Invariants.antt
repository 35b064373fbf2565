use Rattle.std.{proofs.Common.{◌≡◌, ◌-◌}, specs.Prelude.All}
use Rattle.state_space.specs.{Carried.IsBeside, Graphs.{IsSearched, expanded_of}, Numbered.row_width, Successors.found_width}
use Rattle.state_space.proofs.explores.explore_by.Given as goal

abbrev pub invariant-rows : goal.invariant-rows
invariant-rows g l = record {
  setting : g.S.System.setting l.system ≡ g.S.System.setting l.fn.system;
  searched : IsSearched (g.S.System.rules (g.S.System.setting l.system)) (g.S.System.stands l.system) l.graph;
  width : row_width l.graph.rows ≡ g.S.System.width (g.S.System.setting l.system);
  found_width : found_width l.found ≡ g.S.System.width (g.S.System.setting l.system);
  workers : All (λ worker. IsBeside g.S.System.setting g.S.Carries.knows l.system worker.system worker.memo worker.back) l.workers.workers.items;
}

abbrev pub decreases-rows : goal.decreases-rows
decreases-rows g l = 4294967295 - expanded_of l.graph
