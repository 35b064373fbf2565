use Rattle.std.proofs.Common.{◌+◌, ◌∙◌, suc, length, refl, ap}
use Rattle.susp.specs.declared.buses.Bus.{Bus}
use Rattle.tallies.specs.Books.{told_after}
use Rattle.hart_threads.{specs.Bused.{begun_bus, bus_turn}, proofs.Bussing.{calls_more, more}}
use Rattle.hart_threads.proofs.buses.SharedBus.step.Goals as goal

pub invariant_of-self : goal.invariant_of-self
invariant_of-self g c =
    let old = c.args.self.now in
    let left : Bus = record { ram = c.step-outcome.new.ram; doze = old.bus.doze } in
    record {
      made = more (g.J.Journal.size.harts + 2) c.args.part.who (bus_turn g.A.Remembers.found left) old.keeper.log old.keeper.parts c.note_turn-part.new.keeper (begun_bus g.J.Journal.memory) old.bus left old.made c.requires.before refl c.note_turn-part.ensures.keeper;
      calls = calls_more (g.J.Journal.size.harts + 2) c.args.part.who (bus_turn g.A.Remembers.found left) old.keeper.log old.keeper.parts c.note_turn-part.new.keeper old.calls refl c.note_turn-part.ensures.keeper;
    }

pub returns-clause-noted : goal.returns-clause-noted
returns-clause-noted g c =
    let left : Bus = record { ram = c.step-outcome.new.ram; doze = c.args.self.now.bus.doze } in
    (suc (length c.args.self.now.keeper.log), c.note_turn-part.ensures.part ∙ ap (λ (b : Bus). told_after (suc (length c.args.self.now.keeper.log)) (bus_turn b left) c.args.part) c.requires.before)
