use Rattle.std.proofs.Common.{sym, subst}
use Rattle.store.specs.Views.{life_of}
use Rattle.tallies.specs.declared.book_views.PartView.{PartView}
use Rattle.hart_threads.specs.{Bused.AreSaved, declared.bus_turns.BusTurn.BusTurn}
use Rattle.hart_threads.proofs.unshared.Unshared.close.Goals as goal

pub returns-clause-saved : goal.returns-clause-saved
returns-clause-saved g c = subst (λ (d : PartView BusTurn). AreSaved g.J.Journal.size (life_of c.args.self.store) d) (sym c.held_part-run.ensures) c.args.self.saved
