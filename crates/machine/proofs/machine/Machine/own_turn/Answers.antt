use Rattle.std.proofs.Common.{None, sym, ◌∙◌, ◌≡◌, subst}
use Rattle.susp.specs.Dozes.{doze_of}
use Rattle.turns.specs.Turns.{TurnOf}
use Rattle.machine.{specs.Machine.Machine, proofs.machine.Machine.own_turn.Goals.{After-index_mut, After-seat_determines_pairs}}
use Rattle.machine.proofs.Holding.{Finds, Left, finds, seats_there, in_place, seats_found, low_number, seat_rests, left_own, done_by}
use Rattle.machine.proofs.machine.Machine.own_turn.Goals as goal

found : (c : After-index_mut) → Finds c.self.inside c.unwrap-seats.result c.index.result c.args.id c.index_mut.result.now
found c = finds c.self.view_is c.self.invariant (sym c.take.ensures.value ∙ c.unwrap-seats.ensures) c.index.ensures.value c.requires.hart c.index_mut.ensures.value

did : (c : After-seat_determines_pairs) → Finds c.self.inside c.unwrap-seats.result c.index.result c.args.id c.index_mut.result.now
    → Left (λ size a b. TurnOf size a b c.turn-seats.result.1) c.self.inside c.turn-seats.result.0 c.index.result c.args.id c.turn-seats.new.hart c.turn-seats.new.ram c.self.inside.bus.doze
did c it =
    let e = c.turn-seats.ensures in
    let awake : doze_of c.args.id c.self.inside.bus.doze ≡ None = subst (λ (m : Machine). doze_of c.args.id m.doze ≡ None) (sym c.self.view_is) c.requires.awake in
    left_own it (λ size a b. TurnOf size a b c.turn-seats.result.1) c.seat_determines_states.ensures.list c.seat_determines_pairs.ensures.list awake e.alone e.id e.gives e.rests

pub turn-seats-requires-clause-rests : goal.turn-seats-requires-clause-rests
turn-seats-requires-clause-rests c =
    let awake : doze_of c.args.id c.self.inside.bus.doze ≡ None = subst (λ (m : Machine). doze_of c.args.id m.doze ≡ None) (sym c.self.view_is) c.requires.awake in
    seat_rests (found (goal.at.turn-seats-requires-clause-rests c).After-index_mut) awake

pub invariant_of-self : goal.invariant_of-self
invariant_of-self c = let at = goal.at.invariant_of-self c in (did at.After-seat_determines_pairs (found at.After-index_mut)).held

pub returns : goal.returns
returns c = let at = goal.at.returns c in done_by (λ size a b. TurnOf size a b c.turn-seats.result.1) _ _ _ _ _ _ _ c.self.view_is (did at.After-seat_determines_pairs (found at.After-index_mut))

pub unwrap-seats-requires : goal.unwrap-seats-requires
unwrap-seats-requires c = let i = c.self.inside in seats_there i.shape i.harts.items i.tables i.seats c.take.result i.bus.doze c.self.invariant c.take.ensures.value

pub index_mut-requires : goal.index_mut-requires
index_mut-requires c = in_place c.self.inside c.args.self.now c.index.result c.args.id c.self.view_is c.index.ensures.value c.requires.hart

pub turn-seats-requires-clause-tables : goal.turn-seats-requires-clause-tables
turn-seats-requires-clause-tables c = c.self.invariant.tables

pub turn-seats-requires-clause-seats : goal.turn-seats-requires-clause-seats
turn-seats-requires-clause-seats c = (seats_found (found (goal.at.turn-seats-requires-clause-seats c).After-index_mut)).seats

pub turn-seats-requires-clause-hart : goal.turn-seats-requires-clause-hart
turn-seats-requires-clause-hart c = low_number (found (goal.at.turn-seats-requires-clause-hart c).After-index_mut)
