use Rattle.std.proofs.Common.{◌≡◌, ◌<◌, ℕ, Bool, true, false, true≢false, Option, Some, None, refl, sym, ap, ◌∙◌, subst, inl, inr}
use Rattle.std.specs.Prelude.{slice_set, not}
use Rattle.hart.specs.State.{ArchState, started as fresh}
use Rattle.susp.specs.{Dozes.doze_of, declared.buses.Doze.Doze}
use Rattle.sbi_calls.specs.declared.words.{Turned.TheVariants.Made, Did.TheVariants.Resumed}
use Rattle.turns.specs.Turns.{Moment, moment, Rests, TakesAlone, after_take}
use Rattle.machine.{specs.{Held.{RestsBy, shown_by}, Machine.Machine, Turns.{DozeTurn, resumed, with_moment}}, proofs.Owners.of_no_other}
use Rattle.machine.proofs.Holding.{Action, shown_as, Finds, Left, finds, seats_there, in_place, seats_found, rests_found, number_found, low_number, others_rest, left}
use Rattle.machine.proofs.machine.Machine.doze_turn.Goals.{After-index_mut, After-seat_determines_pairs}
use Rattle.machine.proofs.machine.Machine.doze_turn.Goals as goal

found : (c : After-index_mut) → Finds c.self.inside c.unwrap-seats.result c.index.result c.args.id c.index_mut.result.now
found c = finds c.self.view_is c.self.invariant (sym c.take.ensures.value ∙ c.unwrap-seats.ensures) c.index.ensures.value c.requires.hart c.index_mut.ensures.value

-- what the hart of a doze does that begins again
abbrev begins_again : ℕ → ℕ → Action
begins_again site opaque size a b = b ≡ moment (after_take a.table a.hart.id) (fresh a.hart.id site opaque) a.memory

dozes : (c : After-index_mut) → doze_of c.args.id c.self.inside.bus.doze ≡ Some c.args.doze
dozes c = subst (λ (m : Machine). doze_of c.args.id m.doze ≡ Some c.args.doze) (sym c.self.view_is) c.requires.dozes

did : (c : After-seat_determines_pairs) → Finds c.self.inside c.unwrap-seats.result c.index.result c.args.id c.index_mut.result.now → doze_of c.args.id c.self.inside.bus.doze ≡ Some c.args.doze
    → Left (begins_again c.args.doze.at.address c.args.doze.at.opaque) c.self.inside c.resume-seats.result c.index.result c.args.id c.resume-seats.new.hart c.self.inside.bus.ram None
did c it is =
    let e = c.resume-seats.ensures in
    let x = c.index_mut.result.now in
    let alone : TakesAlone c.self.inside.shape.harts x.id c.unwrap-seats.result c.resume-seats.result = subst (λ (n : ℕ). TakesAlone n x.id c.unwrap-seats.result c.resume-seats.result) it.held.tables e.alone in
    let rests : Rests x.id c.resume-seats.result = (inr (inl e.acts.0), e.acts.1) in
    left it (begins_again c.args.doze.at.address c.args.doze.at.opaque) None c.seat_determines_states.ensures.list c.seat_determines_pairs.ensures.list
    (λ t are. (after_take t x.id, ap (λ (y : ArchState). moment (after_take t x.id) y c.self.inside.bus.ram) e.hart, alone t are))
    (ap (λ (y : ArchState). y.id) e.hart) e.gives rests
    (λ k below ne.
    let awake : doze_of k c.self.inside.bus.doze ≡ None = of_no_other c.args.id k c.self.inside.bus.doze c.args.doze is (λ at. ne (at ∙ sym (number_found it))) in
    let before : Rests k c.unwrap-seats.result = subst (λ (o : Option Doze). RestsBy o k c.unwrap-seats.result) awake ((seats_found it).rests k below) in
    others_rest None x.id k c.self.inside.tables c.unwrap-seats.result c.resume-seats.result e.gives ne before)

pub resume-seats-requires-clause-hart : goal.resume-seats-requires-clause-hart
resume-seats-requires-clause-hart c =
    let it = found (goal.at.resume-seats-requires-clause-hart c).After-index_mut in
    subst (λ (n : ℕ). c.index_mut.result.now.id < n) (sym it.held.tables) (low_number it)

pub resume-seats-requires-clause-quiet : goal.resume-seats-requires-clause-quiet
resume-seats-requires-clause-quiet c =
    let at = (goal.at.resume-seats-requires-clause-quiet c).After-index_mut in
    rests_found (found at) (Some c.args.doze) (dozes at)

pub invariant_of-self : goal.invariant_of-self
invariant_of-self c = let at = goal.at.invariant_of-self c in (did at.After-seat_determines_pairs (found at.After-index_mut) (dozes at.After-index_mut)).held

not_not : (b : Bool) → not b ≡ false → true ≡ b
not_not true e = refl
not_not false e = absurd (true≢false e)

pub returns : goal.returns
returns c =
    let at = goal.at.returns c in
    let i = c.self.inside in
    let d = c.args.doze in
    let id = c.args.id in
    let l = did at.After-seat_determines_pairs (found at.After-index_mut) (dozes at.After-index_mut) in
    let new : Machine = record { size = i.shape; memory = i.bus.ram; doze = None; harts = slice_set i.harts.items c.index.result c.resume-seats.new.hart; table = shown_by i.shape.harts c.resume-seats.result } in
    let same : new ≡ resumed d id (shown_as i) = l.made ∙ ap (λ (m : Moment). let r : Machine = record (with_moment id (shown_as i) m) { doze = None } in r) l.did in
    let turn : DozeTurn true d id c.args.self.now new (Made Resumed) = (subst (λ (m : Machine). new ≡ resumed d id m) c.self.view_is same, refl) in
    let is : true ≡ d.woken = not_not d.woken c.if-not-doze.false in
    subst (λ (b : Bool). DozeTurn b d id c.args.self.now new (Made Resumed)) is turn

pub unwrap-seats-requires : goal.unwrap-seats-requires
unwrap-seats-requires c = let i = c.self.inside in seats_there i.shape i.harts.items i.tables i.seats c.take.result i.bus.doze c.self.invariant c.take.ensures.value

pub index_mut-requires : goal.index_mut-requires
index_mut-requires c = in_place c.self.inside c.args.self.now c.index.result c.args.id c.self.view_is c.index.ensures.value c.requires.hart

pub resume-seats-requires-clause-seats : goal.resume-seats-requires-clause-seats
resume-seats-requires-clause-seats c = (seats_found (found (goal.at.resume-seats-requires-clause-seats c).After-index_mut)).seats
