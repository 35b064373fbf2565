use Rattle.std.{proofs.Common.{◌≡◌, ◌<◌, ℕ, sym, ap, ◌∙◌, subst, inl, inr}, specs.Prelude.slice_set}
use Rattle.hsm.specs.{Views.listed, declared.view.Stage.TheVariants.{Running, Quiet}}
use Rattle.sbi_abi.specs.Calls.{call_of}
use Rattle.machine.specs.{Machine.Machine, Held.{shown_by, stage_left}, Durables.{StandsAtCall, HeldOf, MakesCall}}
use Rattle.machine.proofs.Holding.{Action, shown_as, Finds, Left, finds, seats_there, in_place, seats_found, low_number, one_shown, left}
use Rattle.machine.proofs.{Fallen.stands_still, machine.Machine.make_call.Given.Over}
use Rattle.machine.proofs.Commands.{started_acts, held_action, LeavesBus, leaves_bus, held_then, own_then, others_then}
use Rattle.machine.proofs.machine.Machine.make_call.Goals.{After-index_mut, After-seat_determines_pairs}
use Rattle.sbi_calls.specs.Both.{TableState}
use Rattle.sbi.specs.Helds.{HeldAlone}
use Rattle.susp.specs.{Sleeps.AreStopped, declared.buses.Bus.Bus}
use Rattle.machine.proofs.machine.Machine.make_call.Goals as goal

found : (g : Over) (c : After-index_mut g) → Finds c.self.inside c.unwrap-seats.result c.index.result c.args.id c.index_mut.result.now
found g c = finds c.self.view_is c.self.invariant (sym c.take.ensures.value ∙ c.unwrap-seats.ensures) c.index.ensures.value c.requires.hart c.index_mut.ensures.value

stands : (g : Over) (c : After-index_mut g) → StandsAtCall c.args.id (shown_as c.self.inside)
stands g c = subst (λ (m : Machine). StandsAtCall c.args.id m) (sym c.self.view_is) c.requires.stands

-- the call by the harts of the board's shape, as many as the tables have
alone : (g : Over) (c : After-seat_determines_pairs g) → Finds c.self.inside c.unwrap-seats.result c.index.result c.args.id c.index_mut.result.now
    → HeldAlone c.self.inside.shape.harts (call_of c.index_mut.result.now) c.index_mut.result.now c.make_held-seats.new.hart c.unwrap-seats.result c.make_held-seats.result.0
    c.self.inside.bus c.make_held-seats.new.bus c.args.store.now c.make_held-seats.new.store c.make_held-seats.result.1
alone g c it =
    held_then _ c.self.inside.shape.harts (call_of c.index_mut.result.now) c.index_mut.result.now c.make_held-seats.new.hart c.unwrap-seats.result c.make_held-seats.result.0 c.make_held-seats.result.0
    c.self.inside.bus c.make_held-seats.new.bus c.args.store.now c.make_held-seats.new.store c.make_held-seats.result.1 it.held.tables c.make_held-seats.ensures.alone (λ x are. are)

abbrev makes : (g : Over) (c : After-seat_determines_pairs g) → Action
makes g c size a b = HeldOf size c.self.inside.bus.doze c.make_held-seats.new.bus.doze a b c.args.store.now c.make_held-seats.new.store c.make_held-seats.result.1

did : (g : Over) (c : After-seat_determines_pairs g) → Finds c.self.inside c.unwrap-seats.result c.index.result c.args.id c.index_mut.result.now → StandsAtCall c.args.id (shown_as c.self.inside)
    → Left (makes g c) c.self.inside c.make_held-seats.result.0 c.index.result c.args.id c.make_held-seats.new.hart c.make_held-seats.new.bus.ram c.make_held-seats.new.bus.doze
did g c it is =
    let i = c.self.inside in
    let e = c.make_held-seats.ensures in
    let x = c.index_mut.result.now in
    let s = c.unwrap-seats.result in
    let bus = c.make_held-seats.new.bus in
    let word = c.make_held-seats.result.1 in
    let made = alone g c it (shown_by i.shape.harts s) (seats_found it).shows in
    let leaves : LeavesBus i.shape.harts x.id (listed (shown_by i.shape.harts s).states) i.bus bus word =
    leaves_bus i.shape.harts (call_of x) x c.make_held-seats.new.hart (shown_by i.shape.harts s) i.bus bus c.args.store.now c.make_held-seats.new.store word made.0 in
    left it (makes g c) bus.doze c.seat_determines_states.ensures.list c.seat_determines_pairs.ensures.list
    (held_action i.shape x c.make_held-seats.new.hart s c.make_held-seats.result.0 i.bus bus c.args.store.now c.make_held-seats.new.store word (alone g c it))
    e.id e.gives (own_then it is bus word leaves e.gives e.acts) (others_then it is bus word leaves e.gives e.acts)

pub returns-clause-dozes : goal.returns-clause-dozes
returns-clause-dozes g c is =
    let at = goal.at.returns-clause-dozes g c in
    let i = c.self.inside in
    let it = found g at.After-index_mut in
    let l = did g at.After-seat_determines_pairs it (stands g at.After-index_mut) in
    let x = c.index_mut.result.now in
    let s = c.unwrap-seats.result in
    let s' = c.make_held-seats.result.0 in
    let bus = c.make_held-seats.new.bus in
    let word = c.make_held-seats.result.1 in
    let made = alone g at.After-seat_determines_pairs it (shown_by i.shape.harts s) (seats_found it).shows in
    let leaves : LeavesBus i.shape.harts x.id (listed (shown_by i.shape.harts s).states) i.bus bus word =
    leaves_bus i.shape.harts (call_of x) x c.make_held-seats.new.hart (shown_by i.shape.harts s) i.bus bus c.args.store.now c.make_held-seats.new.store word made.0 in
    let same : shown_by i.shape.harts s' ≡ shown_by i.shape.harts s = one_shown c.seat_determines_states.ensures.list c.seat_determines_pairs.ensures.list i.shape.harts s' (shown_by i.shape.harts s) made.1 in
    let new : Machine = record { size = i.shape; memory = bus.ram; doze = bus.doze; harts = slice_set i.harts.items c.index.result c.make_held-seats.new.hart; table = shown_by i.shape.harts s' } in
    elim leaves [
      | inl p ↦ (
          stands_still i.shape.harts new x.id p.2 (ap (λ (b : Bus). b.doze) p.5) p.3 p.4 l.held.numbered l.held.seats.shows.0.0
          (subst (λ (t : TableState). AreStopped i.shape.harts x.id (listed t.states)) (sym same) p.1))
      | inr p ↦ absurd (let z : Running ≡ Quiet = sym p.0 ∙ ap stage_left is in let n : ⊥ = cc in n)
    ]

pub make_held-seats-requires-clause-hart : goal.make_held-seats-requires-clause-hart
make_held-seats-requires-clause-hart g c κs within =
    let it = found g (goal.at.make_held-seats-requires-clause-hart g c).After-index_mut in
    subst (λ (n : ℕ). c.index_mut.result.now.id < n) (sym it.held.tables) (low_number it)

pub make_held-seats-requires-clause-acts : goal.make_held-seats-requires-clause-acts
make_held-seats-requires-clause-acts g c κs within =
    let at = (goal.at.make_held-seats-requires-clause-acts g c).After-index_mut in
    started_acts (found g at) (stands g at)

pub invariant_of-self : goal.invariant_of-self
invariant_of-self g c = let at = goal.at.invariant_of-self g c in (did g at.After-seat_determines_pairs (found g at.After-index_mut) (stands g at.After-index_mut)).held

pub returns-clause-makes : goal.returns-clause-makes
returns-clause-makes g c =
    let at = goal.at.returns-clause-makes g c in
    let l = did g at.After-seat_determines_pairs (found g at.After-index_mut) (stands g at.After-index_mut) in
    let new : Machine = record { size = c.self.inside.shape; memory = c.make_held-seats.new.bus.ram; doze = c.make_held-seats.new.bus.doze; harts = slice_set c.self.inside.harts.items c.index.result c.make_held-seats.new.hart; table = shown_by c.self.inside.shape.harts c.make_held-seats.result.0 } in
    subst (λ (m : Machine). MakesCall c.args.id m new c.args.store.now c.make_held-seats.new.store c.make_held-seats.result.1) c.self.view_is (c.make_held-seats.new.bus.doze, l.after, l.did, l.made)

pub unwrap-seats-requires : goal.unwrap-seats-requires
unwrap-seats-requires g c = let i = c.self.inside in seats_there i.shape i.harts.items i.tables i.seats c.take.result i.bus.doze c.self.invariant c.take.ensures.value

pub index_mut-requires : goal.index_mut-requires
index_mut-requires g c = in_place c.self.inside c.args.self.now c.index.result c.args.id c.self.view_is c.index.ensures.value c.requires.hart

pub make_held-seats-requires-clause-seats : goal.make_held-seats-requires-clause-seats
make_held-seats-requires-clause-seats g c κs within = (seats_found (found g (goal.at.make_held-seats-requires-clause-seats g c).After-index_mut)).seats
