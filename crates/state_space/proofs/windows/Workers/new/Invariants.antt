use Rattle.std.specs.Prelude.{All}
use Rattle.state_space.specs.Carried.{IsBeside}
use Rattle.state_space.proofs.windows.Workers.new.Given as goal

abbrev pub invariant-loop : goal.invariant-loop
invariant-loop g l = record {
  beside : All (λ worker. IsBeside g.S.System.setting g.S.Carries.knows l.system worker.system worker.memo worker.back) l.workers.items;
}
