use Rattle.std.proofs.Common.{◌∙◌, ℕ, ap}
use Rattle.tallies.specs.Books.{fresh_from}
use Rattle.hart_threads.specs.declared.bus_turns.BusTurn.{BusTurn}
use Rattle.tests.proofs.Empty.{none_ended}
use Rattle.tests.proofs.boards.shared.Goals as goal

pub new-whole-requires-clause-unended : goal.new-whole-requires-clause-unended
new-whole-requires-clause-unended g c κs within = λ told. none_ended _ _ _ c.requires.begun.1 c.requires.begun.2

pub hand_out_all-requires-clause-bus : goal.hand_out_all-requires-clause-bus
hand_out_all-requires-clause-bus g c κs within = c.new-whole.ensures.harts ∙ ap (λ (n : ℕ). fresh_from {E = BusTurn} 2 n) c.requires.bus.1
