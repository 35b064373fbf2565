use Rattle.std.proofs.Common.{refl, sym, ◌∙◌, ap, arith}
use Rattle.disk.specs.FaultState.{fault_state_left}
use Rattle.bench_report.{specs.Views.facts, proofs.{Sides.sides_stay, Ended.{left_on, cut_leaves}, KeptDisks.less}}
use Rattle.bench_report.proofs.steps.cut.Goals as goal

pub returns-clause-reported : goal.returns-clause-reported
returns-clause-reported c = λ size b h.
    let was = c.disk_left.ensures.reported size b h in
    let cut = c.after_cut.ensures in
    let fewer = cut_leaves c.disk_left.result c.after_cut.result cut.left in
    (refl, left_on c.kept_disks.ensures.goes_on size b.disk_state b.kept c.disk_left.result c.after_cut.result was.1 (less c.disk_left.result c.after_cut.result fewer), (ap fault_state_left was.2.0 ∙ sym cut.fault_state, omega (arith, was.2.1, cut.left.failures), omega (arith, was.2.2), sides_stay size b (facts c.disk_left.result) (facts c.after_cut.result) fewer was.2.3))

pub returns-clause-exact : goal.returns-clause-exact
returns-clause-exact c = (c.disk_left.result, c.disk_left.ensures.disk, c.after_cut.ensures.exact)
