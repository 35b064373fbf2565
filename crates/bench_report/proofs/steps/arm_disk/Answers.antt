use Rattle.bench_report.proofs.Armed.{armed_off}
use Rattle.bench_report.proofs.steps.arm_disk.Goals as goal

pub returns-clause-reported : goal.returns-clause-reported
returns-clause-reported c = λ size b h. armed_off c.kept_disks.ensures.goes_on size b c.args.fault c.args.off.disk c.arm.new.self h c.arm.ensures.facts c.arm.ensures.armed
