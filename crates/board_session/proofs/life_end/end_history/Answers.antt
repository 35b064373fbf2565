use Rattle.std.proofs.Common.{◌∙◌, ◌∷◌, List, ap, subst}
use Rattle.tallies.specs.{Books.{Each, IsPart}, declared.book_views.PartView.PartView}
use Rattle.hart_threads.specs.{Views.{bus_in, bus_log}, declared.bus_turns.BusTurn.BusTurn}
use Rattle.board_session.proofs.life_end.end_history.Goals as goal

pub returns : goal.returns
returns g c =
    let bus = c.gather-2.new.self in
    let parts = c.gather-2.ensures.parts ∙ ap (λ (ds : List (PartView BusTurn)). c.args.runs.1 ∷ ds) c.gather.ensures.parts in
    (bus_log bus, record { left = bus_in bus; made = c.close.ensures.made; calls = c.close.ensures.calls; told = subst (λ (ds : List (PartView BusTurn)). Each (IsPart (bus_log bus)) ds) parts c.close.ensures.told; of = c.close.ensures.of })
