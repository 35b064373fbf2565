use Rattle.std.proofs.Common.{ap, ◌∙◌}
use Rattle.bench_report.specs.Views.{machine_in}
use Rattle.hart.specs.State.{ArchState}
use Rattle.debug_session.{specs.Loads.load_in, proofs.Unread.reads_unread}
use Rattle.debug_session.proofs.reads.is_unread_at.Goals as goal

pub returns : goal.returns
returns c = λ is.
    let m = machine_in c.args.board.now in
    let found = c.instruction-found.result in
    let load = c.load_in-load.ensures.is ∙ ap (λ (s : ArchState). load_in found s) c.hart.ensures in
    reads_unread m c.args.hart found c.load_in-load.result c.args.before.now.items c.instruction-found.ensures load (c.are_unread.ensures.0 is)
