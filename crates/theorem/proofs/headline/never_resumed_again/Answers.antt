use Rattle.std.proofs.Common.{ap, subst, ◌∙◌}
use Rattle.board_model.specs.Durable.{DurableState}
use Rattle.disk.specs.Facts.{Facts, Unchanged}
use Rattle.bench_report.specs.Views.{facts}
use Rattle.machine.specs.Machine.{Machine}
use Rattle.board.specs.Views.{store_of}
use Rattle.store.specs.Views.{view_of, disk_of}
use Rattle.theorem.proofs.PowerLost.{none_on, resumed_once, left_resumed, not_powered}
use Rattle.theorem.proofs.headline.never_resumed_again.Goals as goal

pub returns : goal.returns
returns c =
    let one = c.content_determines_state.ensures.one in
    let on = c.in_ok-first.ensures.on in
    let given = subst (λ (f : Facts). Unchanged f (facts c.into_disk.result)) (ap disk_of c.into_parts-bus.ensures.store) c.into_disk.ensures.facts in
    let gone = c.after_cut-left.ensures.left in
    let found : DurableState = (view_of (store_of c.in_ok-first.first)).life.found in
    let stands = left_resumed _ _ _ _ _ _ on given gone in (
      (view_of (store_of c.in_ok-first.first)).size,
      (view_of (store_of c.in_ok-first.first)).life.found,
      on.begun.image,
      on.found,
      on.begun.stands,
      c.into_parts-bus.ensures.ram ∙ ap (λ (m : Machine). m.memory) on.begun.is,
      none_on c.power_on-again.result _ _ _ c.power_on-again.ensures.on (λ board second. resumed_once one _ _ _ _ _ _ _ _ _ on given gone second)
          c.power_on-again.ensures.off (λ e off. not_powered one _ _ _ _ found e.found e.now e.refusal stands off),
    )
