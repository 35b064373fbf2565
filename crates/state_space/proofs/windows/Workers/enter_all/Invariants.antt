use Rattle.std.{proofs.Common.{◌≡◌, length}, specs.Prelude.All}
use Rattle.state_space.specs.{Carried.{AreMade, IsLater}, Graphs.IsSearched, Numbered.row_width, Successors.found_width}
use Rattle.state_space.proofs.windows.Workers.enter_all.Given as goal

abbrev pub invariant-loop-index : goal.invariant-loop-index
invariant-loop-index g l = record {
  long : length l.self.workers.items ≡ length l.fn.self.workers.items;
  made : All (AreMade g.S.System.setting g.S.System.rules g.S.System.stands g.S.Carries.knows l.system l.graph) l.self.workers.items;
  setting : g.S.System.setting l.system ≡ g.S.System.setting l.fn.system;
  searched : IsSearched (g.S.System.rules (g.S.System.setting l.system)) (g.S.System.stands l.system) l.graph;
  later : IsLater (g.S.System.stands l.fn.system) (g.S.System.stands l.system) l.fn.graph l.graph;
  width : row_width l.graph.rows ≡ row_width l.fn.graph.rows;
  found_width : found_width l.found ≡ found_width l.fn.found;
}
