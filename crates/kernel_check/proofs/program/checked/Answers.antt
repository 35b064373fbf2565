use Rattle.std.proofs.lemmas.Result.{IfOk-weaker}
use Rattle.kernel_check.proofs.program.checked.Goals as goal

pub returns-clause-holds : goal.returns-clause-holds
returns-clause-holds g c = IfOk-weaker c.check_bytes.result _ _ (λ v h is. (c.as_slice.result.now, h is)) c.check_bytes.ensures.holds

pub returns-clause-within : goal.returns-clause-within
returns-clause-within g c = IfOk-weaker c.check_bytes.result _ _ (λ v h k is. (c.as_slice.result.now, h k is)) c.check_bytes.ensures.within

pub returns-clause-lives : goal.returns-clause-lives
returns-clause-lives g c = IfOk-weaker c.check_bytes.result _ _ (λ v h n is. (c.as_slice.result.now, h n is)) c.check_bytes.ensures.lives
