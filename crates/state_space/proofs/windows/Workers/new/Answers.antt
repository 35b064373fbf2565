use Rattle.std.proofs.lemmas.List.Elements.{All-push, All-same}
use Rattle.state_space.specs.{Carried.IsBeside, declared.workers.Worker.Worker}
use Rattle.state_space.proofs.windows.Workers.new.Goals as goal

pub loop-preserved : goal.loop-preserved
loop-preserved g c =
    let beside = λ (worker : Worker _ _). IsBeside g.S.System.setting g.S.Carries.knows c.args.system.now worker.system worker.memo worker.back in
    record {
      beside = All-same beside c.push.new.self.items _ c.in_ok-push.ensures.items (All-push beside c.loop.workers.items c.in_ok-new.field-0 c.loop.invariant.beside c.in_ok-new.ensures);
    }
