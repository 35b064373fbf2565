use Rattle.std.proofs.lemmas.Result.{IfOk-weaker}
use Rattle.bench_sweep.proofs.finds.found_on.Goals as goal

pub returns-in-None : goal.returns-in-None
returns-in-None c = record {
  told = IfOk-weaker c.unloaded.result _ _ (λ plain spoilt size said f s some is image finds. absurd (let never : ⊥ = cc (c.in-None.is) in never)) c.unloaded.ensures.spoilt;
}
