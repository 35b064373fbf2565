use Rattle.std.proofs.Common.{◌∙◌, Some, ap, sym, subst}
use Rattle.board_model.specs.{Durable.DurableState, Shapes.Size}
use Rattle.board.specs.Moments.{attempts_of}
use Rattle.machine.specs.{Machine.Machine, Held.{AreUntouched, IsHeld}}
use Rattle.store.specs.Lives.{Life}
use Rattle.tests.specs.Begun.{IsBegun}
use Rattle.tests.proofs.boards.parts_of.Goals as goal

pub returns-in-Ok-clause-held : goal.returns-in-Ok-clause-held
returns-in-Ok-clause-held c =
    let parts = c.into_parts.result in
    subst (λ (z : Size). IsHeld z parts.harts.items parts.tables (Some parts.seats) parts.bus.doze) (ap (λ (m : Machine). m.size) c.in-Ok.ensures.on.begun ∙ sym c.shape-shape.ensures) c.into_parts.ensures.held

pub returns-in-Ok-clause-untouched : goal.returns-in-Ok-clause-untouched
returns-in-Ok-clause-untouched c =
    let parts = c.into_parts.result in
    subst (λ (z : Size). AreUntouched z.harts parts.tables parts.seats) (ap (λ (m : Machine). m.size) c.in-Ok.ensures.on.begun ∙ sym c.shape-shape.ensures) c.into_parts.ensures.untouched

pub returns-in-Ok-clause-awake : goal.returns-in-Ok-clause-awake
returns-in-Ok-clause-awake c = sym (ap (λ (m : Machine). m.doze) c.into_parts.ensures.machine) ∙ ap (λ (m : Machine). m.doze) c.in-Ok.ensures.on.begun

pub returns-in-Ok-clause-begun : goal.returns-in-Ok-clause-begun
returns-in-Ok-clause-begun c =
    let on = c.in-Ok.ensures.on in
    let untried = (c.in_ok-disk.ensures.alone.only _ _ on.found).1 in
    subst (λ x. IsBegun c.shape-shape.result x) (sym c.into_parts.ensures.store)
    (sym c.shape-shape.ensures, ap (λ (x : Life). x.journal) on.life ∙ ap (λ (s : DurableState). attempts_of s.trial) untried, ap (λ (x : Life). x.doubt) on.life)
