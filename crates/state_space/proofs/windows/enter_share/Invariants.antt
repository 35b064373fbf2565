use Rattle.std.proofs.Common.{◌≡◌}
use Rattle.state_space.specs.{Carried.IsLater, Graphs.IsSearched, Numbered.row_width, Successors.found_width}
use Rattle.state_space.proofs.windows.enter_share.Given as goal

abbrev pub invariant-loop-made : goal.invariant-loop-made
invariant-loop-made g l = record {
  setting : g.S.System.setting l.system ≡ g.S.System.setting l.fn.system;
  searched : IsSearched (g.S.System.rules (g.S.System.setting l.system)) (g.S.System.stands l.system) l.graph;
  later : IsLater (g.S.System.stands l.fn.system) (g.S.System.stands l.system) l.fn.graph l.graph;
  knows : g.S.Carries.knows l.from l.system l.memo;
  width : row_width l.graph.rows ≡ row_width l.fn.graph.rows;
  found_width : found_width l.found ≡ found_width l.fn.found;
}
