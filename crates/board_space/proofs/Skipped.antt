-- Events that can't happen to a board, by what was seen of it.
use Rattle.std.proofs.Common.{◌≡◌, ℕ, ◌<◌, ◌≤◌, Bool, true, false, List, Option, Some, None, refl, subst, inl, inr, arith}
use Rattle.std.specs.Prelude.{Result, Ok, Err}
use Rattle.board_model.specs.Shapes.{Size}
use Rattle.sbi_abi.specs.{Calls.call_of, declared.{call.Call.Call, ret.SbiError.SbiError}}
use Rattle.sbi_abi.specs.declared.call.Call.TheVariants as calls
use Rattle.sbi_calls.specs.declared.words.Turned.{Turned, TheVariants.{Made, Durable}}
use Rattle.susp.specs.{Dozes.can_wake, declared.{buses.Doze.Doze, sleeps.Sleep.Sleep}}
use Rattle.machine.specs.Machine.{Machine, hart_at}
use Rattle.model_board.specs.{Boards.{Board, Life, On, Off, Ended}, Held.{HeldBy, SleptBy}}
use Rattle.model_board.specs.Events.{Event, Turn, Refused, Wake, Cut, PowerOn, WakeOn, PowersOn, RefusedOn, ToldBy}
use Rattle.board_space.specs.{Expanding.AsksNone, Rows.IsAwake, Space.{Asked, IsOne, Happens, number_of}}
use Rattle.board_space.proofs.EventNumbers.{small, same_event}

-- ---- the turn of a hart, by its number
pub no_turn : (asked : Asked) (n : ℕ) (f : Event) → n < 8 → asked.size.harts ≤ n → IsOne asked f → number_of f ≡ n → ⊥
no_turn asked n (Turn h) low past one is = omega (arith, low, past, one.0, is)
no_turn asked n (Refused h false) low past one is = omega (arith, low, is)
no_turn asked n (Refused h true) low past one is = omega (arith, low, is)
no_turn asked n Wake low past one is = omega (arith, low, is)
no_turn asked n Cut low past one is = omega (arith, low, is)
no_turn asked n PowerOn low past one is = omega (arith, low, is)

pub only_turn : (asked : Asked) (n : ℕ) (f : Event) → n < 8 → asked.size.harts ≤ 8 → IsOne asked f → number_of f ≡ n → f ≡ Turn n
only_turn asked n f low few one is = same_event f (Turn n) (small asked f few one) low is

-- ---- refusals
-- where the store can't refuse and stay up, it can't refuse and be down
slept_down : (asked : Result (Sleep × ℕ) SbiError) (opaque h : ℕ) (l : Life) (down : Bool) (c : Board) → SleptBy false h l asked opaque c → (d : Board) × SleptBy false h (record l { down = down }) asked opaque d
slept_down (Err e) opaque h l down c held = (_, refl)
slept_down (Ok asked) opaque h l down c (inl denied) = (_, inl (denied.0, refl))
slept_down (Ok asked) opaque h l down c (inr alone) = (_, inr (alone.0, refl))

held_down : (call : Call) (h : ℕ) (l : Life) (down : Bool) (c : Board) → HeldBy false h l call c → (d : Board) × HeldBy false h (record l { down = down }) call d
held_down calls.SpecVersion h l down c held = (_, refl)
held_down calls.ImplementationId h l down c held = (_, refl)
held_down calls.ImplementationVersion h l down c held = (_, refl)
held_down (calls.Probe extension) h l down c held = (_, refl)
held_down calls.VendorId h l down c held = (_, refl)
held_down calls.ArchitectureId h l down c held = (_, refl)
held_down calls.MachineId h l down c held = (_, refl)
held_down (calls.HartStart hart address opaque) h l down c held = (_, refl)
held_down calls.HartStop h l down c held = (_, refl)
held_down (calls.HartStatus hart) h l down c held = (_, refl)
held_down (calls.HartSuspend kind address opaque) h l down c held = (_, refl)
held_down (calls.SendIpi mask base) h l down c held = (_, refl)
held_down (calls.SystemReset kind reason) h l down c held = (_, refl)
held_down (calls.SystemSuspend kind address opaque) h l down c held =
    let slept = slept_down held.0 opaque h l down c held.2 in
    (slept.0, (held.0, held.1, slept.1))
held_down calls.Unknown h l down c held = (_, refl)

told_down : (word : Turned) (h : ℕ) (l : Life) (m : Machine) (down other : Bool) (c : Board) → ToldBy false h (record l { down = down }) m word c → (d : Board) × ToldBy false h (record l { down = other }) m word d
told_down (Made did) h l m down other c told = (_, refl)
told_down Durable h l m down other c told = held_down (call_of (hart_at m h)) h (record l { machine = m; down = down }) other c told

pub none_refused : (h : ℕ) (b : Board) → ((c : Board) → RefusedOn h false b c → ⊥) → (down : Bool) (c : Board) → RefusedOn h down b c → ⊥
none_refused h (On l) none down c did =
    let turn = did.2 in
    let told = told_down turn.1 h l turn.0 down false c turn.3 in
    none told.0 (did.0, did.1, (turn.0, turn.1, turn.2, told.1))
none_refused h (Off s) none down c did = did
none_refused h (Ended s) none down c did = did

pub no_refusal : (asked : Asked) (b : Board) → asked.size.harts ≤ 8 → ((h : ℕ) → h < 8 → AsksNone asked h b) → (f : Event) (c : Board) → 8 ≤ number_of f → number_of f < 24 → Happens asked f b c → ⊥
no_refusal asked b few none (Turn h) c from to did = omega (arith, few, did.0.0, from)
no_refusal asked b few none (Refused h down) c from to did = none h (omega (arith, few, did.0.0)) down c did
no_refusal asked b few none Wake c from to did = omega (arith, to)
no_refusal asked b few none Cut c from to did = omega (arith, to)
no_refusal asked b few none PowerOn c from to did = omega (arith, to)

-- ---- the operator
cannot : (doze : Option Doze) → doze ≡ None → can_wake doze ≡ true → ⊥
cannot None is can = cc
cannot (Some d) is can = cc

wakes_not : (b c : Board) → IsAwake b → WakeOn b c → ⊥
wakes_not b c awake wakes =
    cannot awake.0.machine.doze awake.2 (subst (λ (d : Board). WakeOn d c) awake.1 wakes).0

powers_not : (payload : List ℕ) (size : Size) (b c : Board) → IsAwake b → PowersOn payload size b c → ⊥
powers_not payload size b c awake powers = subst (λ (d : Board). PowersOn payload size d c) awake.1 powers

pub no_wake : (asked : Asked) (b : Board) → asked.size.harts ≤ 8 → IsAwake b → (f : Event) (c : Board) → 24 ≤ number_of f → number_of f < 25 → Happens asked f b c → ⊥
no_wake asked b few awake (Turn h) c from to did = omega (arith, few, did.0.0, from)
no_wake asked b few awake (Refused h false) c from to did = omega (arith, few, did.0.0, from)
no_wake asked b few awake (Refused h true) c from to did = omega (arith, few, did.0.0, from)
no_wake asked b few awake Wake c from to did = wakes_not b c awake did.1
no_wake asked b few awake Cut c from to did = omega (arith, to)
no_wake asked b few awake PowerOn c from to did = omega (arith, to)

pub no_power_on : (asked : Asked) (b : Board) → asked.size.harts ≤ 8 → IsAwake b → (f : Event) (c : Board) → 26 ≤ number_of f → number_of f < 27 → Happens asked f b c → ⊥
no_power_on asked b few awake (Turn h) c from to did = omega (arith, few, did.0.0, from)
no_power_on asked b few awake (Refused h false) c from to did = omega (arith, few, did.0.0, from)
no_power_on asked b few awake (Refused h true) c from to did = omega (arith, few, did.0.0, from)
no_power_on asked b few awake Wake c from to did = omega (arith, from)
no_power_on asked b few awake Cut c from to did = omega (arith, from)
no_power_on asked b few awake PowerOn c from to did = powers_not asked.payload asked.size b c awake did.1
