use Rattle.std.proofs.Common.{◌∙◌, ap, subst}
use Rattle.tallies.specs.declared.book_views.PartView.{PartView}
use Rattle.hart_threads.specs.{Bused.{StepsBus, part_in}, declared.bus_turns.BusTurn.BusTurn}
use Rattle.hart_threads.proofs.once.LockedBusMemoryBus.step.Goals as goal

pub returns : goal.returns
returns g c =
    let e = c.step-outcome.ensures in
    let part = c.held_part-part.ensures ∙ ap part_in c.take.ensures.value in
    (e.0, e.1, subst (λ (d : PartView BusTurn). StepsBus d c.step-outcome.result.1 e.0 e.1) part e.2, e.3)
