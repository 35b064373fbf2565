use Rattle.std.proofs.Common.{rules}
use Rattle.sbi.proofs.dispatches.reset.Goals as goal

pub returns-in-Err-apply : goal.returns-in-Err-apply
returns-in-Err-apply g c = search rules
