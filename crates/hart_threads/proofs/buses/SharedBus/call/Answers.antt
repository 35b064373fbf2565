use Rattle.std.proofs.Common.{◌+◌, ◌∙◌, ◌∷◌, refl, sym, ap, subst, subst₂}
use Rattle.hart.specs.State.{ArchState}
use Rattle.sbi_abi.specs.Calls.{call_of}
use Rattle.sbi_calls.specs.Both.{harts_of_both, known}
use Rattle.store.specs.Views.{life_of}
use Rattle.susp.specs.declared.buses.Bus.{Bus}
use Rattle.tallies.specs.Books.{keeper_view}
use Rattle.hart_threads.{specs.Bused.{Takes, begun_bus, call_turn, held_call}, proofs.Bussing.{call_more, held_called, more, saved_held}}
use Rattle.hart_threads.proofs.LifeEnding.{held_stays}
use Rattle.hart_threads.proofs.buses.SharedBus.call.Goals as goal

pub invariant_of-self : goal.invariant_of-self
invariant_of-self g c =
    let old = c.args.self.now in
    let d = c.dispatch_held-seats in
    let n = c.note_call-parts in
    let begun = begun_bus g.J.Journal.memory in
    let count = g.J.Journal.size.harts + 2 in
    let call = held_call g.A.RemembersCall.asked d.new.hart d.result.1 in
    let caller = c.args.parts.caller in
    let store = c.args.parts.store in
    let asked = call_turn call g.A.RemembersCall.bus d.new.bus in
    let look = call_turn call d.new.bus d.new.bus in
    let log = (caller.who, asked) ∷ old.keeper.log in
    let called = more count caller.who asked old.keeper.log old.keeper.parts (keeper_view count log old.keeper.parts) begun old.bus d.new.bus old.made c.requires.before refl refl in
    record {
      made = more count store.who look log old.keeper.parts n.new.keeper begun d.new.bus d.new.bus called refl refl n.ensures.keeper;
      calls = call_more count g.J.Journal.size call g.A.RemembersCall.bus d.new.bus old.keeper.log old.keeper.parts n.new.keeper (life_of c.args.store.now) caller store old.calls c.requires.saved
          (c.requires.caller ∙ ap (λ (s : ArchState). s.id + 2) (sym c.requires.asked)) n.ensures.keeper;
    }

pub returns-clause-memory : goal.returns-clause-memory
returns-clause-memory g c =
    let d = c.dispatch_held-seats in
    held_stays (harts_of_both c.args.tables.now) (call_of c.args.hart.now) c.args.hart.now d.new.hart (known c.args.seats) (known d.result.0) c.args.self.now.bus d.new.bus c.args.store.now d.new.store d.result.1 d.ensures.makes

pub returns-clause-saved : goal.returns-clause-saved
returns-clause-saved g c =
    let d = c.dispatch_held-seats in
    let n = c.note_call-parts in
    let same = held_stays (harts_of_both c.args.tables.now) (call_of c.args.hart.now) c.args.hart.now d.new.hart (known c.args.seats) (known d.result.0) c.args.self.now.bus d.new.bus c.args.store.now d.new.store d.result.1 d.ensures.makes in
    let told = subst (λ (s : ArchState). Takes (call_turn (held_call s d.new.hart d.result.1) d.new.bus d.new.bus) c.args.parts.store n.result.store) c.requires.asked n.ensures.store in
    saved_held (harts_of_both c.args.tables.now) g.J.Journal.size c.args.hart.now d.new.hart (known c.args.seats) (known d.result.0) c.args.self.now.bus d.new.bus c.args.store.now d.new.store d.result.1 c.args.parts.store n.result.store c.requires.board told c.requires.saved same d.ensures.makes

pub returns-clause-called : goal.returns-clause-called
returns-clause-called g c =
    let d = c.dispatch_held-seats in
    held_called (harts_of_both c.args.tables.now) (call_of c.args.hart.now) c.args.hart.now d.new.hart (known c.args.seats) (known d.result.0) c.args.self.now.bus d.new.bus c.args.store.now d.new.store d.result.1 d.ensures.makes

pub returns-clause-noted : goal.returns-clause-noted
returns-clause-noted g c =
    let d = c.dispatch_held-seats in
    let n = c.note_call-parts in
    subst₂ (λ (s : ArchState) (b : Bus). Takes (call_turn (held_call s d.new.hart d.result.1) b d.new.bus) c.args.parts.caller n.result.caller) c.requires.asked c.requires.before n.ensures.caller
