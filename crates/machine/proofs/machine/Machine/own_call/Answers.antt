use Rattle.std.proofs.Common.{None, sym, ◌∙◌, ◌≡◌, subst}
use Rattle.susp.specs.Dozes.{doze_of}
use Rattle.machine.specs.{Turns.{CallOf, calling}, Machine.Machine}
use Rattle.machine.proofs.Holding.{Finds, Left, finds, seats_there, in_place, seats_found, low_number, seat_rests, left_own, done_by}
use Rattle.machine.proofs.machine.Machine.own_call.Goals.{After-index_mut, After-seat_determines_pairs}
use Rattle.machine.proofs.machine.Machine.own_call.Goals as goal

found : (c : After-index_mut) → Finds c.self.inside c.unwrap-seats.result c.index.result c.args.id c.index_mut.result.now
found c = finds c.self.view_is c.self.invariant (sym c.take.ensures.value ∙ c.unwrap-seats.ensures) c.index.ensures.value c.requires.hart c.index_mut.ensures.value

did : (c : After-seat_determines_pairs) → Finds c.self.inside c.unwrap-seats.result c.index.result c.args.id c.index_mut.result.now
    → Left (λ size a b. CallOf size (calling a.hart c.args.call) a b c.call_in_place-seats.result.1) c.self.inside c.call_in_place-seats.result.0 c.index.result c.args.id c.call_in_place-seats.new.hart c.self.inside.bus.ram c.self.inside.bus.doze
did c it =
    let e = c.call_in_place-seats.ensures in
    let awake : doze_of c.args.id c.self.inside.bus.doze ≡ None = subst (λ (m : Machine). doze_of c.args.id m.doze ≡ None) (sym c.self.view_is) c.requires.awake in
    left_own it (λ size a b. CallOf size (calling a.hart c.args.call) a b c.call_in_place-seats.result.1) c.seat_determines_states.ensures.list c.seat_determines_pairs.ensures.list awake (e.alone c.self.inside.bus.ram) e.id e.gives e.rests

pub call_in_place-seats-requires-clause-rests : goal.call_in_place-seats-requires-clause-rests
call_in_place-seats-requires-clause-rests c =
    let awake : doze_of c.args.id c.self.inside.bus.doze ≡ None = subst (λ (m : Machine). doze_of c.args.id m.doze ≡ None) (sym c.self.view_is) c.requires.awake in
    seat_rests (found (goal.at.call_in_place-seats-requires-clause-rests c).After-index_mut) awake

pub invariant_of-self : goal.invariant_of-self
invariant_of-self c = let at = goal.at.invariant_of-self c in (did at.After-seat_determines_pairs (found at.After-index_mut)).held

pub returns : goal.returns
returns c = let at = goal.at.returns c in done_by (λ size a b. CallOf size (calling a.hart c.args.call) a b c.call_in_place-seats.result.1) _ _ _ _ _ _ _ c.self.view_is (did at.After-seat_determines_pairs (found at.After-index_mut))

pub unwrap-seats-requires : goal.unwrap-seats-requires
unwrap-seats-requires c = let i = c.self.inside in seats_there i.shape i.harts.items i.tables i.seats c.take.result i.bus.doze c.self.invariant c.take.ensures.value

pub index_mut-requires : goal.index_mut-requires
index_mut-requires c = in_place c.self.inside c.args.self.now c.index.result c.args.id c.self.view_is c.index.ensures.value c.requires.hart

pub call_in_place-seats-requires-clause-tables : goal.call_in_place-seats-requires-clause-tables
call_in_place-seats-requires-clause-tables c = c.self.invariant.tables

pub call_in_place-seats-requires-clause-seats : goal.call_in_place-seats-requires-clause-seats
call_in_place-seats-requires-clause-seats c = (seats_found (found (goal.at.call_in_place-seats-requires-clause-seats c).After-index_mut)).seats

pub call_in_place-seats-requires-clause-hart : goal.call_in_place-seats-requires-clause-hart
call_in_place-seats-requires-clause-hart c = low_number (found (goal.at.call_in_place-seats-requires-clause-hart c).After-index_mut)
