use Rattle.std.specs.Prelude.{All}
use Rattle.state_space.specs.Carried.{IsBeside, IsMade}
use Rattle.state_space.proofs.workers.Worker.make_all.Given as goal

abbrev pub invariant-loop-number : goal.invariant-loop-number
invariant-loop-number g l = record {
  beside : IsBeside g.S.System.setting g.S.Carries.knows l.main l.self.system l.self.memo l.self.back;
  made : All (IsMade (g.S.System.rules (g.S.System.setting l.main)) (g.S.System.stands l.main) (g.S.System.stands l.self.system) l.graph) l.self.made.items;
}
