use Rattle.std.proofs.Common.{◌+◌, ◌∙◌, ◌∷◌, ap}
use Rattle.tallies.specs.{Books.keeper_view, declared.book_views.BookView.BookView}
use Rattle.hart_threads.specs.{Bused.{call_turn, held_call}, declared.bus_turns.BusTurn.BusTurn}
use Rattle.hart_threads.proofs.bus_turns.note_call.Goals as goal

pub returns-clause-keeper : goal.returns-clause-keeper
returns-clause-keeper g c =
    let look = call_turn (held_call g.A.RemembersCall.asked c.args.hart.now c.args.word) c.args.bus.now c.args.bus.now in
    c.note_look-store.ensures.keeper ∙ ap (λ (v : BookView BusTurn). keeper_view (g.J.Journal.size.harts + 2) ((c.args.parts.store.who, look) ∷ v.log) v.parts) c.note_asked-caller.ensures.keeper
