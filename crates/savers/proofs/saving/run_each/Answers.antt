use Rattle.std.proofs.Common.{ℕ, ◌<◌, length, get_or, arith}
use Rattle.savers.{specs.{Jobs.JobDone, declared.saver.Saver.Saver}, proofs.{HandedOn.at_both, saving.run_each.Given.Over}}
use Rattle.savers.proofs.saving.run_each.Goals.{After-each}
use Rattle.savers.proofs.saving.run_each.Goals as goal

job_done : (g : Over) (c : After-each g) (i : ℕ) (d : Saver g.row.L.Denot) → i < length c.args.savers.now
    → JobDone g.L.Lane.lane_facts c.args.ticket.now c.args.snapshot.now.shape.now c.args.snapshot.now.ram.now c.args.snapshot.now.serial (get_or c.args.savers.now i d) (get_or c.each.new.jobs i d)
job_done g c i d lt =
    let done = (c.each.ensures.done i d lt).1 in
    at_both (JobDone g.L.Lane.lane_facts c.args.ticket.now c.args.snapshot.now.shape.now c.args.snapshot.now.ram.now c.args.snapshot.now.serial) done.argument.now done.after_call.now
    (get_or c.args.savers.now i d) (get_or c.each.new.jobs i d) done.argument_is done.left done.call

pub returns : goal.returns
returns g c =
    let at = (goal.at.returns g c).After-each in
    record {
      as_many = c.each.auto.jobs;
      seated = λ i d lt. (job_done g at i d (omega (arith, lt, c.each.auto.jobs))).seated;
      each = λ i d lt. job_done g at i d lt;
    }
