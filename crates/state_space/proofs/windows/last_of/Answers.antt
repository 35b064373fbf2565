use Rattle.std.proofs.{Common.Some, lemmas.List.Elements.All-pop}
use Rattle.state_space.specs.{Carried.IsBeside, declared.workers.Worker.Worker}
use Rattle.state_space.proofs.windows.last_of.Goals as goal

pub returns-clause-beside : goal.returns-clause-beside
returns-clause-beside g c =
    (All-pop (λ (worker : Worker _ _). IsBeside g.S.System.setting g.S.Carries.knows c.args.system.now worker.system worker.memo worker.back) c.args.workers.now.items c.pop.new.self.items (Some c.in-Some.last) c.in-Some.ensures.items c.requires.beside).1

pub returns-clause-rest : goal.returns-clause-rest
returns-clause-rest g c =
    (All-pop (λ (worker : Worker _ _). IsBeside g.S.System.setting g.S.Carries.knows c.args.system.now worker.system worker.memo worker.back) c.args.workers.now.items c.pop.new.self.items (Some c.in-Some.last) c.in-Some.ensures.items c.requires.beside).0
