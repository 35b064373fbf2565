use Rattle.std.proofs.Common.{sym, ap, subst}
use Rattle.tallies.specs.declared.book_views.BookView.{BookView}
use Rattle.hart_threads.specs.{Bused.{HasCalls, Made, begun_bus}, declared.bus_turns.BusTurn.BusTurn}
use Rattle.hart_threads.proofs.buses.SharedBus.new.Goals as goal

pub invariant_of-result : goal.invariant_of-result
invariant_of-result g c =
    let begun = begun_bus g.J.Journal.memory in
    record {
      made = subst (λ (v : BookView BusTurn). Made v.log begun c.args.bus) (sym c.named-book.ensures) ∣ c.requires.bus ∣₁;
      calls = subst (λ (v : BookView BusTurn). HasCalls v.log) (sym c.named-book.ensures) ∣ tt ∣₁;
    }

pub returns-clause-parts : goal.returns-clause-parts
returns-clause-parts g c = ap (λ (v : BookView BusTurn). v.parts) c.named-book.ensures
