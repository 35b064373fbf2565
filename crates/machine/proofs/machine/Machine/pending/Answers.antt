use Rattle.std.{proofs.Common.{ℕ, ◌<◌, sym, ◌≡◌, ◌∙◌, subst}, specs.Prelude.length}
use Rattle.sbi_calls.specs.Both.{TableState}
use Rattle.susp.specs.Dozes.{doze_of}
use Rattle.turns.specs.Turns.{has_pending}
use Rattle.machine.{specs.Machine.Machine, proofs.{Owners.sits_by, Holding.{all_seats, seats_there, by_table}}}
use Rattle.machine.proofs.Looks.{held_still, shows_still, found_it, stand_same}
use Rattle.machine.proofs.machine.Machine.pending.Goals as goal

pub invariant_of-self : goal.invariant_of-self
invariant_of-self c =
    let i = c.self.inside in
    held_still i.shape i.bus.ram i.harts.items i.tables i.seats i.bus.doze c.unwrap-seats.result c.look-seats.result.0 _ c.args.id (λ (l : TableState). c.look-seats.result.1 ≡ has_pending c.args.id l.pairs) c.seat_determines_states.ensures.list c.seat_determines_pairs.ensures.list c.self.invariant
    (sym c.take.ensures.value ∙ c.unwrap-seats.ensures) c.self.invariant.tables c.look-seats.ensures.gives (stand_same c.unwrap-seats.result c.look-seats.result.0 c.look-seats.ensures.harts) c.look-seats.ensures.alone

pub returns-clause-value : goal.returns-clause-value
returns-clause-value c =
    let i = c.self.inside in
    subst (λ (m : Machine). c.look-seats.result.1 ≡ has_pending c.args.id m.table.pairs) c.self.view_is
    (found_it i.shape i.bus.ram i.harts.items i.tables i.seats i.bus.doze c.unwrap-seats.result c.look-seats.result.0 _ c.args.id (λ (l : TableState). c.look-seats.result.1 ≡ has_pending c.args.id l.pairs) c.seat_determines_states.ensures.list c.seat_determines_pairs.ensures.list c.self.invariant
    (sym c.take.ensures.value ∙ c.unwrap-seats.ensures) c.self.invariant.tables c.look-seats.ensures.gives (stand_same c.unwrap-seats.result c.look-seats.result.0 c.look-seats.ensures.harts) c.look-seats.ensures.alone)

pub returns-clause-stays : goal.returns-clause-stays
returns-clause-stays c =
    let i = c.self.inside in
    shows_still i.shape i.bus.ram i.harts.items i.tables i.seats i.bus.doze c.unwrap-seats.result c.look-seats.result.0 _ c.args.id (λ (l : TableState). c.look-seats.result.1 ≡ has_pending c.args.id l.pairs) c.seat_determines_states.ensures.list c.seat_determines_pairs.ensures.list c.self.invariant
    (sym c.take.ensures.value ∙ c.unwrap-seats.ensures) c.self.invariant.tables c.look-seats.ensures.gives (stand_same c.unwrap-seats.result c.look-seats.result.0 c.look-seats.ensures.harts) c.look-seats.ensures.alone
    ∙ c.self.view_is

pub look-seats-requires-clause-sits : goal.look-seats-requires-clause-sits
look-seats-requires-clause-sits c =
    let i = c.self.inside in
    let whole = all_seats i.shape i.harts.items i.tables i.seats c.unwrap-seats.result i.bus.doze c.self.invariant (sym c.take.ensures.value ∙ c.unwrap-seats.ensures) in
    let within : c.args.id < length i.harts.items = subst (λ (m : Machine). c.args.id < length m.harts) (sym c.self.view_is) c.requires in
    sits_by (doze_of c.args.id i.bus.doze) c.args.id c.unwrap-seats.result (whole.rests c.args.id (subst (λ (n : ℕ). c.args.id < n) c.self.invariant.long within))

pub unwrap-seats-requires : goal.unwrap-seats-requires
unwrap-seats-requires c = let i = c.self.inside in seats_there i.shape i.harts.items i.tables i.seats c.take.result i.bus.doze c.self.invariant c.take.ensures.value

pub look-seats-requires-clause-seats : goal.look-seats-requires-clause-seats
look-seats-requires-clause-seats c = let i = c.self.inside in (all_seats i.shape i.harts.items i.tables i.seats c.unwrap-seats.result i.bus.doze c.self.invariant (sym c.take.ensures.value ∙ c.unwrap-seats.ensures)).seats

pub look-seats-requires-clause-by : goal.look-seats-requires-clause-by
look-seats-requires-clause-by c = by_table c.self.inside c.args.self.now c.args.id c.self.view_is c.self.invariant c.requires
