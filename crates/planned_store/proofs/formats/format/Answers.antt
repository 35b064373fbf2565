use Rattle.std.proofs.Common.{◌∙◌}
use Rattle.planned_store.proofs.{Begins.format_task, FormatEnds.formats_to}
use Rattle.planned_store.proofs.formats.format.Goals as goal

pub returns-clause-formats : goal.returns-clause-formats
returns-clause-formats g c =
    rw c.formatted.ensures
    (formats_to g.D.Disk.facts g.D.Disk.fault_state (λ d. g.met.D.Disk.bounded d) c.args.disk.now c.requires.none_out c.args.shape.now c.run.new.disk c.run.new.plan c.run.ensures.reached c.run.ensures.ended
    (c.run.ensures.task ∙ format_task c.sectors.result c.args.shape.now c.format-plan.result c.format-plan.ensures))
