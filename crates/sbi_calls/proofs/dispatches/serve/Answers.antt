use Rattle.std.proofs.Common.{refl}
use Rattle.sbi_calls.proofs.dispatches.serve.Goals as goal

pub returns-in-Err-clause-alone : goal.returns-in-Err-clause-alone
returns-in-Err-clause-alone c = λ t are. rw c.in-Err.is (refl, are)

pub returns-in-Ok-clause-alone : goal.returns-in-Ok-clause-alone
returns-in-Ok-clause-alone c = λ t are. rw c.in-Ok.is (c.do_request.ensures.alone t are)
