use Rattle.std.proofs.Common.{refl}
use Rattle.sbi_calls.proofs.dispatches.do_request.Goals as goal

pub returns-in-Value-clause-alone : goal.returns-in-Value-clause-alone
returns-in-Value-clause-alone c = λ t are. rw c.in-Value.is (refl, are)

pub returns-in-Start-clause-alone : goal.returns-in-Start-clause-alone
returns-in-Start-clause-alone c = λ t are. rw c.in-Start.is (c.start.ensures.alone t are)

pub returns-in-Stop-clause-alone : goal.returns-in-Stop-clause-alone
returns-in-Stop-clause-alone c = λ t are. rw c.in-Stop.is (c.stop.ensures.alone t are)

pub returns-in-Status-clause-alone : goal.returns-in-Status-clause-alone
returns-in-Status-clause-alone c = λ t are. rw c.in-Status.is (c.status.ensures.alone t are)

pub returns-in-Suspend-clause-alone : goal.returns-in-Suspend-clause-alone
returns-in-Suspend-clause-alone c = λ t are. rw c.in-Suspend.is (c.suspend.ensures.alone t are)

pub returns-in-SuspendAfresh-clause-alone : goal.returns-in-SuspendAfresh-clause-alone
returns-in-SuspendAfresh-clause-alone c = λ t are. rw c.in-SuspendAfresh.is (c.suspend_afresh.ensures.alone t are)

pub returns-in-Send-clause-alone : goal.returns-in-Send-clause-alone
returns-in-Send-clause-alone c = λ t are. rw c.in-Send.is (c.send.ensures.alone t are)

pub returns-in-Command-clause-alone : goal.returns-in-Command-clause-alone
returns-in-Command-clause-alone c = λ t are. rw c.in-Command.is (refl, are)
