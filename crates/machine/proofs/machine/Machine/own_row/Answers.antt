use Rattle.std.proofs.Common.{None, sym, ◌∙◌, ◌≡◌, subst}
use Rattle.susp.specs.Dozes.{doze_of}
use Rattle.turns.specs.Many.{RowOf}
use Rattle.machine.{specs.Machine.Machine, proofs.machine.Machine.own_row.Goals.{After-index_mut, After-seat_determines_pairs}}
use Rattle.machine.proofs.Holding.{Finds, Left, finds, seats_there, in_place, seats_found, low_number, seat_rests, left_own, done_by}
use Rattle.machine.proofs.machine.Machine.own_row.Goals as goal

found : (c : After-index_mut) → Finds c.self.inside c.unwrap-seats.result c.index.result c.args.id c.index_mut.result.now
found c = finds c.self.view_is c.self.invariant (sym c.take.ensures.value ∙ c.unwrap-seats.ensures) c.index.ensures.value c.requires.hart c.index_mut.ensures.value

did : (c : After-seat_determines_pairs) → Finds c.self.inside c.unwrap-seats.result c.index.result c.args.id c.index_mut.result.now
    → Left (λ size a b. RowOf size c.turns_by_one_look-seats.result.1 a b c.turns_by_one_look-seats.result.2) c.self.inside c.turns_by_one_look-seats.result.0 c.index.result c.args.id c.turns_by_one_look-seats.new.hart c.turns_by_one_look-seats.new.ram c.self.inside.bus.doze
did c it =
    let e = c.turns_by_one_look-seats.ensures in
    let awake : doze_of c.args.id c.self.inside.bus.doze ≡ None = subst (λ (m : Machine). doze_of c.args.id m.doze ≡ None) (sym c.self.view_is) c.requires.awake in
    left_own it (λ size a b. RowOf size c.turns_by_one_look-seats.result.1 a b c.turns_by_one_look-seats.result.2) c.seat_determines_states.ensures.list c.seat_determines_pairs.ensures.list awake e.alone e.id e.gives e.rests

pub turns_by_one_look-seats-requires-clause-rests : goal.turns_by_one_look-seats-requires-clause-rests
turns_by_one_look-seats-requires-clause-rests c =
    let awake : doze_of c.args.id c.self.inside.bus.doze ≡ None = subst (λ (m : Machine). doze_of c.args.id m.doze ≡ None) (sym c.self.view_is) c.requires.awake in
    seat_rests (found (goal.at.turns_by_one_look-seats-requires-clause-rests c).After-index_mut) awake

pub invariant_of-self : goal.invariant_of-self
invariant_of-self c = let at = goal.at.invariant_of-self c in (did at.After-seat_determines_pairs (found at.After-index_mut)).held

pub returns-clause-row : goal.returns-clause-row
returns-clause-row c = let at = goal.at.returns-clause-row c in done_by (λ size a b. RowOf size c.turns_by_one_look-seats.result.1 a b c.turns_by_one_look-seats.result.2) _ _ _ _ _ _ _ c.self.view_is (did at.After-seat_determines_pairs (found at.After-index_mut))

pub unwrap-seats-requires : goal.unwrap-seats-requires
unwrap-seats-requires c = let i = c.self.inside in seats_there i.shape i.harts.items i.tables i.seats c.take.result i.bus.doze c.self.invariant c.take.ensures.value

pub index_mut-requires : goal.index_mut-requires
index_mut-requires c = in_place c.self.inside c.args.self.now c.index.result c.args.id c.self.view_is c.index.ensures.value c.requires.hart

pub turns_by_one_look-seats-requires-clause-tables : goal.turns_by_one_look-seats-requires-clause-tables
turns_by_one_look-seats-requires-clause-tables c = c.self.invariant.tables

pub turns_by_one_look-seats-requires-clause-seats : goal.turns_by_one_look-seats-requires-clause-seats
turns_by_one_look-seats-requires-clause-seats c = (seats_found (found (goal.at.turns_by_one_look-seats-requires-clause-seats c).After-index_mut)).seats

pub turns_by_one_look-seats-requires-clause-hart : goal.turns_by_one_look-seats-requires-clause-hart
turns_by_one_look-seats-requires-clause-hart c = low_number (found (goal.at.turns_by_one_look-seats-requires-clause-hart c).After-index_mut)

pub turns_by_one_look-seats-requires-clause-some : goal.turns_by_one_look-seats-requires-clause-some
turns_by_one_look-seats-requires-clause-some c = c.requires.some

pub returns-clause-range : goal.returns-clause-range
returns-clause-range c = c.turns_by_one_look-seats.ensures.range
