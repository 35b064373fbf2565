use Rattle.simdisk.{specs.Views.{lent_of, pieces}, proofs.Notes.lent_written}
use Rattle.disk.specs.WriteLog.{ranges}
use Rattle.simdisk.proofs.exactness.exactly_the_model.Goals as goal

pub returns-clause-lent : goal.returns-clause-lent
returns-clause-lent c k le lt u =
    let d = c.args.disk.now in
    lent_written (lent_of d.loan) (ranges (pieces d.history.written.items)) d.loan.patch (λ lt. (d.noted lt).noted) k le lt u
