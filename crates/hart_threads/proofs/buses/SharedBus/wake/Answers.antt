use Rattle.std.proofs.Common.{◌≡◌, ◌+◌, ◌∙◌, suc, true, length, Option, refl, sym, ap, subst}
use Rattle.susp.specs.{Dozes.can_wake, declared.buses.Bus.Bus}
use Rattle.tallies.specs.{Books.told_after, declared.book_views.PartView.PartView}
use Rattle.hart_threads.specs.{Bused.{AreWakes, Made, begun_bus, bus_turn, part_in}, declared.bus_turns.BusTurn.BusTurn}
use Rattle.hart_threads.proofs.{Bussing.{calls_more, more}, Waking.{holds_part, holds_some, woken_more}}
use Rattle.hart_threads.proofs.buses.SharedBus.wake.Goals as goal

pub held_part-part-requires : goal.held_part-part-requires
held_part-part-requires g c = rw c.take.ensures.value (holds_some c.heard.inside.run c.heard.inside.woken c.heard.invariant.1)

pub invariant_of-self-2 : goal.invariant_of-self-2
invariant_of-self-2 g c =
    let old = c.args.self.now in
    let left = c.wake.new.bus in
    record {
      made = more (g.J.Journal.size.harts + 2) c.held_part-part.result.who (bus_turn g.A.Remembers.found left) old.keeper.log old.keeper.parts c.note_turn-part.new.keeper (begun_bus g.J.Journal.memory) old.bus left old.made c.requires.before refl c.note_turn-part.ensures.keeper;
      calls = calls_more (g.J.Journal.size.harts + 2) c.held_part-part.result.who (bus_turn g.A.Remembers.found left) old.keeper.log old.keeper.parts c.note_turn-part.new.keeper old.calls refl c.note_turn-part.ensures.keeper;
    }

-- a board that was not woken stays as it was
pub invariant_of-self : goal.invariant_of-self
invariant_of-self g c =
    let old = c.args.self.now in
    record {
      made = subst (λ (b : Bus). Made old.keeper.log (begun_bus g.J.Journal.memory) b) (sym c.in_err-wake.ensures.refused.1) old.made;
      calls = old.calls;
    }

pub invariant_of-heard : goal.invariant_of-heard
invariant_of-heard g c =
    let h = c.heard in
    let old = c.args.self.now in
    let left = c.wake.new.bus in
    let part = c.held_part-part.ensures ∙ ap (λ (o : Option (PartView BusTurn)). part_in o) c.take.ensures.value in
    let was = subst (λ (d : PartView BusTurn). AreWakes h.inside.woken d) (sym part) (holds_part h.inside.run h.inside.woken h.invariant.1) in
    let can : can_wake old.bus.doze ≡ true = c.in_ok-wake.ensures.ok.0 refl in
    let told : c.note_turn-part.result ≡ told_after (suc (length old.keeper.log)) (bus_turn old.bus left) c.held_part-part.result =
    c.note_turn-part.ensures.part ∙ ap (λ (b : Bus). told_after (suc (length old.keeper.log)) (bus_turn b left) c.held_part-part.result) c.requires.before in
    (h.invariant.0, woken_more h.inside.woken (suc (length old.keeper.log)) old.bus left c.held_part-part.result c.note_turn-part.result was can c.wake.ensures.ram c.in_ok-wake.ensures.woken told)
