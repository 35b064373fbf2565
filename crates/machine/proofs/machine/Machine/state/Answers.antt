use Rattle.std.{proofs.Common.{ℕ, ◌<◌, sym, ◌≡◌, ◌∙◌, subst}, specs.Prelude.length}
use Rattle.sbi_calls.specs.Both.{TableState}
use Rattle.susp.specs.Dozes.{doze_of}
use Rattle.hsm.specs.{Calls.named, Views.listed}
use Rattle.machine.{specs.Machine.{Machine, status_at}, proofs.{Owners.seated_by, Holding.{all_seats, seats_there, by_table}}}
use Rattle.machine.proofs.Looks.{held_still, shows_still, found_it}
use Rattle.machine.proofs.machine.Machine.state.Goals as goal

pub invariant_of-self : goal.invariant_of-self
invariant_of-self c =
    let i = c.self.inside in
    held_still i.shape i.bus.ram i.harts.items i.tables i.seats i.bus.doze c.unwrap-seats.result c.see-seats.result.0 _ c.args.id (λ (l : TableState). c.see-seats.result.1 ≡ named (listed l.states c.args.id)) c.seat_determines_states.ensures.list c.seat_determines_pairs.ensures.list c.self.invariant
    (sym c.take.ensures.value ∙ c.unwrap-seats.ensures) c.self.invariant.tables c.see-seats.ensures.gives (λ h st p. c.see-seats.ensures.stays.stages h st p) c.see-seats.ensures.alone

pub returns-clause-value : goal.returns-clause-value
returns-clause-value c =
    let i = c.self.inside in
    subst (λ (m : Machine). c.see-seats.result.1 ≡ status_at m c.args.id) c.self.view_is
    (found_it i.shape i.bus.ram i.harts.items i.tables i.seats i.bus.doze c.unwrap-seats.result c.see-seats.result.0 _ c.args.id (λ (l : TableState). c.see-seats.result.1 ≡ named (listed l.states c.args.id)) c.seat_determines_states.ensures.list c.seat_determines_pairs.ensures.list c.self.invariant
    (sym c.take.ensures.value ∙ c.unwrap-seats.ensures) c.self.invariant.tables c.see-seats.ensures.gives (λ h st p. c.see-seats.ensures.stays.stages h st p) c.see-seats.ensures.alone)

pub returns-clause-stays : goal.returns-clause-stays
returns-clause-stays c =
    let i = c.self.inside in
    shows_still i.shape i.bus.ram i.harts.items i.tables i.seats i.bus.doze c.unwrap-seats.result c.see-seats.result.0 _ c.args.id (λ (l : TableState). c.see-seats.result.1 ≡ named (listed l.states c.args.id)) c.seat_determines_states.ensures.list c.seat_determines_pairs.ensures.list c.self.invariant
    (sym c.take.ensures.value ∙ c.unwrap-seats.ensures) c.self.invariant.tables c.see-seats.ensures.gives (λ h st p. c.see-seats.ensures.stays.stages h st p) c.see-seats.ensures.alone
    ∙ c.self.view_is

pub see-seats-requires-clause-sits : goal.see-seats-requires-clause-sits
see-seats-requires-clause-sits c =
    let i = c.self.inside in
    let whole = all_seats i.shape i.harts.items i.tables i.seats c.unwrap-seats.result i.bus.doze c.self.invariant (sym c.take.ensures.value ∙ c.unwrap-seats.ensures) in
    let within : c.args.id < length i.harts.items = subst (λ (m : Machine). c.args.id < length m.harts) (sym c.self.view_is) c.requires in
    seated_by (doze_of c.args.id i.bus.doze) c.args.id c.unwrap-seats.result (whole.rests c.args.id (subst (λ (n : ℕ). c.args.id < n) c.self.invariant.long within))

pub unwrap-seats-requires : goal.unwrap-seats-requires
unwrap-seats-requires c = let i = c.self.inside in seats_there i.shape i.harts.items i.tables i.seats c.take.result i.bus.doze c.self.invariant c.take.ensures.value

pub see-seats-requires-clause-seats : goal.see-seats-requires-clause-seats
see-seats-requires-clause-seats c = let i = c.self.inside in (all_seats i.shape i.harts.items i.tables i.seats c.unwrap-seats.result i.bus.doze c.self.invariant (sym c.take.ensures.value ∙ c.unwrap-seats.ensures)).seats

pub see-seats-requires-clause-by : goal.see-seats-requires-clause-by
see-seats-requires-clause-by c = by_table c.self.inside c.args.self.now c.args.id c.self.view_is c.self.invariant c.requires
