use Rattle.bench_sweep.proofs.{Left.left_off, Calls.same_calls}
use Rattle.bench_sweep.proofs.sites.cut_by.Goals as goal

pub returns-clause-left : goal.returns-clause-left
returns-clause-left c = λ size b off. left_off c.kept_disks.ensures.goes_on size b c.args.off.now.disk c.in_ok-disk.disk off c.in_ok-disk.ensures.left c.in_ok-disk.ensures.fault_state

pub returns-clause-calls : goal.returns-clause-calls
returns-clause-calls c = λ caller. same_calls caller c.args.off.now.disk c.in_ok-disk.disk c.in_ok-disk.ensures.left.calls c.in_ok-disk.ensures.lane_calls

pub returns-clause-durable : goal.returns-clause-durable
returns-clause-durable c = c.in_ok-disk.ensures.left.fresh.durable
