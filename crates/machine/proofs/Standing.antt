-- A doze that was not woken stands.
use Rattle.board_model.specs.{declared.call_words.CallWords.CallWords, Shapes.Size}
use Rattle.std.proofs.Common.{◌≡◌, ℕ, zero, suc, Bool, false, Option, Some, None, refl, sym, ap, ◌∙◌, subst, inl, inr}
use Rattle.hart.specs.State.{ArchState}
use Rattle.hsm.specs.{States.{HartState, stopped, started}, Views.listed}
use Rattle.susp.specs.{Dozes.doze_of, declared.buses.Doze.Doze}
use Rattle.sbi_calls.specs.declared.words.{Turned.{Turned, TheVariants.Made}, Did.TheVariants.Idle}
use Rattle.turns.specs.Turns.{Moment, begun_by, TurnAs}
use Rattle.machine.specs.{Machine.{Machine, hart_at, state_at}, Durables.StandsAtCall, Dozes.{Dozes, Moves, MovesOften}}
use Rattle.machine.{specs.Turns.{moment_of, with_moment, DozeTurn, TurnBy, MakesTurn, CallBy, MakesOneCall, calling}, proofs.Owners.doze_is}
use Rattle.machine.proofs.Rows.{put_same}

-- ---- a turn
stopped_turn : (size : Size) (a b : Moment) (word : Turned) (s : HartState) → s ≡ stopped → TurnAs size (begun_by a.hart.id a.table s).ready (begun_by a.hart.id a.table s).table a b word → (b ≡ a) × (word ≡ Made Idle)
stopped_turn size a b word s e p =
    subst (λ (x : HartState). TurnAs size (begun_by a.hart.id a.table x).ready (begun_by a.hart.id a.table x).table a b word) e p

-- a turn of the hart of a doze that was not woken
asleep : (woken : Bool) (d : Doze) (h : ℕ) (old new : Machine) (word : Turned) → woken ≡ false → DozeTurn woken d h old new word → (new ≡ old) × (word ≡ Made Idle)
asleep woken d h old new word e p = subst (λ (w : Bool). DozeTurn w d h old new word) e p

stays : (h : ℕ) (old new : Machine) (b : Moment) → new ≡ with_moment h old b → b ≡ moment_of h old → new ≡ old
stays h old new b e same = e ∙ (ap (with_moment h old) same ∙ put_same h old)

turn_by : (o : Option Doze) (h : ℕ) (old new : Machine) (word : Turned) → Dozes old → doze_of h old.doze ≡ o → TurnBy o h old new word → (new ≡ old) × (word ≡ Made Idle)
turn_by (Some d) h old new word dozes e p =
    let same : d ≡ dozes.doze = doze_is h old.doze dozes.doze d dozes.stands e in
    asleep d.woken d h old new word (ap (λ (x : Doze). x.woken) same ∙ dozes.sleeps) p
turn_by None h old new word dozes e p =
    let a = moment_of h old in
    let q = stopped_turn old.size a p.0 word (listed a.table.states a.hart.id) (dozes.others h e) p.1 in
    (stays h old new p.0 p.2 q.0, q.1)

pub no_turn : (h : ℕ) (old new : Machine) (word : Turned) → Dozes old → MakesTurn h old new word → (new ≡ old) × (word ≡ Made Idle)
no_turn h old new word dozes p = turn_by (doze_of h old.doze) h old new word dozes refl p

-- ---- a call
not_started : (s : HartState) → s ≡ stopped → s ≡ started → ⊥
not_started s e f = let z : stopped ≡ started = sym e ∙ f in let n : ⊥ = cc in n

call_by : (o : Option Doze) (h : ℕ) (u : ArchState) (old new : Machine) (called : Option Turned) → Dozes old → doze_of h old.doze ≡ o → CallBy o h u old new called → (new ≡ old) × (called ≡ None)
call_by (Some d) h u old new called dozes e p = p
call_by None h u old new called dozes e p =
    let a = moment_of h old in
    let q = p.1.not_started (not_started (listed a.table.states a.hart.id) (dozes.others h e)) in
    (stays h old new p.0 p.2 q.0, q.1)

pub no_call : (h : ℕ) (asked : CallWords) (old new : Machine) (called : Option Turned) → Dozes old → MakesOneCall h asked old new called → (new ≡ old) × (called ≡ None)
no_call h asked old new called dozes p = call_by (doze_of h old.doze) h (calling (hart_at old h) asked) old new called dozes refl p

-- ---- many of them
no_move : (old new : Machine) → Dozes old → Moves old new → new ≡ old
no_move old new dozes (inl p) = (no_turn p.0 old new p.1 dozes p.2).0
no_move old new dozes (inr p) = (no_call p.0 p.1 old new p.2 dozes p.3).0

pub no_moves : (n : ℕ) (old new : Machine) → Dozes old → MovesOften n old new → new ≡ old
no_moves zero old new dozes p = p
no_moves (suc n) old new dozes p =
    let e = no_move old p.0 dozes p.1 in
    no_moves n p.0 new (subst Dozes (sym e) dozes) p.2 ∙ e

-- ---- no hart of it stands at a durable call
pub no_asking : (h : ℕ) (m : Machine) → Dozes m → StandsAtCall h m → ⊥
no_asking h m dozes at = not_started (state_at m (hart_at m h).id) (dozes.others h at.1) at.0
