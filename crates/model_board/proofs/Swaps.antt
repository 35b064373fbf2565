-- Events of the model board, before and after a local turn.
use Rattle.std.proofs.Common.{ℕ, Bool, true, false, List, ◌≡◌, ◌≢◌, ◌⊎◌, refl, sym, ap, ◌∙◌, subst, inl, inr, not, None}
use Rattle.std.{specs.Prelude.{Result, Ok, Err, []}, proofs.lemmas.List.get_or-set_same}
use Rattle.board_model.specs.{Shapes.Size, declared.durable.Reason.Reason}
use Rattle.hart.specs.{State.{ArchState, never_started, answered}, declared.Outcome.TheVariants.Next}
use Rattle.hart.proofs.Decided.{either, same_number}
use Rattle.hsm.specs.{States.{HartState, stopped, started}, Views.listed}
use Rattle.sbi_abi.specs.{Answers.error_of, Calls.call_of, declared.{call.Call.Call, ret.SbiError.SbiError}}
use Rattle.sbi_abi.specs.declared.ret.SbiError.TheVariants.{NotSupported, Denied, Failed}
use Rattle.sbi_abi.specs.declared.call.Call.TheVariants as calls
use Rattle.sbi_calls.specs.declared.words.Turned.{Turned, TheVariants.{Made, Durable}}
use Rattle.sbi_calls.specs.declared.words.Did.TheVariants as dids
use Rattle.sbi.specs.{Resets.reset_of, declared.resets.ResetType.{ResetType, TheVariants.{Shutdown, ColdReboot}}}
use Rattle.susp.specs.{Dozes.can_wake, declared.sleeps.Sleep.Sleep}
use Rattle.turns.specs.Turns.{moment, begun_by, TurnAs}
use Rattle.machine.specs.{Machine.{Machine, hart_at}, Turns.MakesTurn}
use Rattle.model_board.specs.Boards.{Standing, Life, Board, On, Off, Ended}
use Rattle.model_board.specs.Held.{refused, after_reset, reset_by, IsAlone, SleptBy, Sleeps, HeldBy, AsksStore, with_hart}
use Rattle.model_board.specs.Events.{Event, Turn, Refused, Wake, Cut, PowerOn, ToldBy, TurnsBy, Asks, Does, IsEnd, IsOff}
use Rattle.model_board.specs.Maps.{Map, KeepsMap, Keeps, MovesAlone, IsLocal, Local, moved}
use Rattle.model_board.proofs.Locals.{beside, keeps_before, keeps_own, turn_awake, swaps, beside_hart, hart_moved}

-- the event leads to that board, which is off, or it leads to one that a local turn of hart h makes of it
abbrev pub Joins : Map → ℕ → (Board → Type 0) → Board → Type 0
Joins map h Leads c = (Leads c × IsOff c) ⊎ ((d : Board) × Leads d × Local map h c d)

joins_by : (map : Map) (h : ℕ) (F G : Board → Type 0) (c : Board) → ((d : Board) → F d → G d) → Joins map h F c → Joins map h G c
joins_by map h F G c f (inl x) = inl (f c x.0, x.1)
joins_by map h F G c f (inr x) = inr (x.0, f x.0 x.1, x.2)

-- ---- a durable call
refused_joins : (map : Map) (g h : ℕ) (e : SbiError) (l : Life) (m : Machine) (t : ArchState) (n : List ℕ) (c : Board) → g ≢ h → MovesAlone map h m t n → c ≡ refused e g (record l { machine = m }) → Joins map h (λ (d : Board). d ≡ refused e g (record l { machine = moved h t n m })) c
refused_joins map g h e l m t n c ne local is =
    let z : ArchState = answered (hart_at m g) (error_of (Err e)) 0 in
    let same : with_hart g (moved h t n m) (answered (hart_at (moved h t n m) g) (error_of (Err e)) 0) ≡ moved h t n (with_hart g m z) =
    ap (λ (u : ArchState). with_hart g (moved h t n m) (answered u (error_of (Err e)) 0)) (beside g h t n m ne) ∙ hart_moved g h m z t n ne in
    let d : Board = refused e g (record l { machine = moved h t n m }) in
    subst (λ (x : Board). Joins map h (λ (d : Board). d ≡ refused e g (record l { machine = moved h t n m })) x) (sym is)
    (inr (d, refl, (t, n, beside_hart map g h m z t n ne local, ap (λ (k : Machine). record l { machine = k }) same)))

off_after : (reset : ResetType) (s : Standing) → IsOff (after_reset reset s)
off_after Shutdown s = tt
off_after ColdReboot s = tt

reset_joins : (map : Map) (g h : ℕ) (granted : Bool) (r : Result (ResetType × Reason) SbiError) (l : Life) (m : Machine) (t : ArchState) (n : List ℕ) (c : Board) → g ≢ h → MovesAlone map h m t n → c ≡ reset_by granted g (record l { machine = m }) r → Joins map h (λ (d : Board). d ≡ reset_by granted g (record l { machine = moved h t n m }) r) c
reset_joins map g h granted (Err e) l m t n c ne local is = refused_joins map g h e l m t n c ne local is
reset_joins map g h true (Ok r) l m t n c ne local is =
    inl (is, subst IsOff (sym is) (off_after r.0 (record l.stands { reason = r.1 })))
reset_joins map g h false (Ok r) l m t n c ne local is = refused_joins map g h Failed l m t n c ne local is

-- a hart that is STARTED beside it lets no board sleep
awake_beside : (map : Map) (g h : ℕ) (m : Machine) (t : ArchState) (n : List ℕ) → g ≢ h → MovesAlone map h m t n → IsAlone g m → ⊥
awake_beside map g h m t n ne local alone =
    let at : listed m.table.states h ≡ stopped = alone h local.counted (λ e. ne (sym e)) in
    let runs : listed m.table.states h ≡ started = subst (λ (k : ℕ). listed m.table.states k ≡ started) local.numbered local.runs in
    let differ : stopped ≡ started = sym at ∙ runs in
    cc

slept_joins : (map : Map) (g h : ℕ) (granted : Bool) (asked : Result (Sleep × ℕ) SbiError) (opaque : ℕ) (l : Life) (m : Machine) (t : ArchState) (n : List ℕ) (c : Board) → g ≢ h → MovesAlone map h m t n → SleptBy granted g (record l { machine = m }) asked opaque c → Joins map h (SleptBy granted g (record l { machine = moved h t n m }) asked opaque) c
slept_joins map g h granted (Err e) opaque l m t n c ne local is = refused_joins map g h e l m t n c ne local is
slept_joins map g h granted (Ok asked) opaque l m t n c ne local (inl is) =
    joins_by map h (λ (d : Board). d ≡ refused Denied g (record l { machine = moved h t n m })) (SleptBy granted g (record l { machine = moved h t n m }) (Ok asked) opaque) c (λ d e. inl (is.0, e))
    (refused_joins map g h Denied l m t n c ne local is.1)
slept_joins map g h granted (Ok asked) opaque l m t n c ne local (inr is) = absurd (awake_beside map g h m t n ne local is.0)

held_joins : (map : Map) (g h : ℕ) (granted : Bool) (call : Call) (l : Life) (m : Machine) (t : ArchState) (n : List ℕ) (c : Board) → g ≢ h → MovesAlone map h m t n → HeldBy granted g (record l { machine = m }) call c → Joins map h (HeldBy granted g (record l { machine = moved h t n m }) call) c
held_joins map g h granted (calls.SystemReset kind reason) l m t n c ne local x =
    reset_joins map g h granted (reset_of kind reason) l m t n c ne local x
held_joins map g h granted (calls.SystemSuspend kind address opaque) l m t n c ne local x =
    joins_by map h (SleptBy granted g (record l { machine = moved h t n m }) x.0 opaque) (Sleeps granted g (record l { machine = moved h t n m }) kind address opaque) c (λ d y. (x.0, x.1, y))
    (slept_joins map g h granted x.0 opaque l m t n c ne local x.2)
held_joins map g h granted call l m t n c ne local x = refused_joins map g h NotSupported l m t n c ne local x

told_joins : (map : Map) (g h : ℕ) (granted : Bool) (word : Turned) (l : Life) (m : Machine) (t : ArchState) (n : List ℕ) (c : Board) → g ≢ h → MovesAlone map h m t n → ToldBy granted g l m word c → Joins map h (ToldBy granted g l (moved h t n m) word) c
told_joins map g h granted (Made did) l m t n c ne local is =
    subst (λ (x : Board). Joins map h (ToldBy granted g l (moved h t n m) (Made did)) x) (sym is)
    (inr (On (record l { machine = moved h t n m }), refl, (t, n, local, refl)))
told_joins map g h granted Durable l m t n c ne local x =
    held_joins map g h granted (call_of (hart_at (moved h t n m) g)) l m t n c ne local (subst (λ (u : ArchState). HeldBy granted g (record l { machine = m }) (call_of u) c) (sym (beside g h t n m ne)) x)

turn_joins : (map : Map) (g h : ℕ) (granted : Bool) (l : Life) (t : ArchState) (n : List ℕ) (c : Board) → g ≢ h → MovesAlone map h l.machine t n → KeepsMap map g l.machine → TurnsBy granted g l c → Joins map h (TurnsBy granted g (record l { machine = moved h t n l.machine })) c
turn_joins map g h granted l t n c ne local keeps x =
    let sw = swaps map g h l.machine x.0 t n x.1 ne local keeps x.2 in
    joins_by map h (ToldBy granted g l (moved h t sw.memory x.0) x.1) (TurnsBy granted g (record l { machine = moved h t n l.machine })) c (λ d told. (moved h t sw.memory x.0, x.1, sw.makes, told))
    (told_joins map g h granted x.1 l x.0 t sw.memory c ne sw.local x.3)

-- ---- the local turn itself
pub local_turn : (map : Map) (h : ℕ) (m : Machine) (t : ArchState) (n : List ℕ) → MovesAlone map h m t n → MakesTurn h m (moved h t n m) (Made dids.Next)
local_turn map h m t n local =
    let id : ℕ = (hart_at m h).id in
    let a = moment m.table (hart_at m h) m.memory in
    let b = moment m.table t n in
    turn_awake h m (moved h t n m) (Made dids.Next) local.awake (
      b,
      subst (λ (state : HartState). TurnAs m.size (begun_by id m.table state).ready (begun_by id m.table state).table a b (Made dids.Next)) (sym local.runs) (t, Next, local.alone.step, (refl, refl, refl)),
      refl,
    )

pub turns : (payload : List ℕ) (size : Size) (map : Map) (h : ℕ) (b c : Board) → Local map h b c → Does payload size (Turn h) b c
turns payload size map h (On l) (On k) x =
    (moved h x.0 x.1 l.machine, Made dids.Next, local_turn map h l.machine x.0 x.1 x.2, ap On x.3)
turns payload size map h (On l) (Off s) x = absurd x
turns payload size map h (On l) (Ended s) x = absurd x
turns payload size map h (Off s) c x = absurd x
turns payload size map h (Ended s) c x = absurd x

-- a machine has one outcome of a turn
abbrev pub IsOneTurn : Type 0
IsOneTurn = (h : ℕ) (old new other : Machine) (word also : Turned) → MakesTurn h old new word → MakesTurn h old other also → (new ≡ other) × (word ≡ also)

pub one : IsOneTurn → (payload : List ℕ) (size : Size) (map : Map) (h : ℕ) (b c d : Board) → Local map h b c → Does payload size (Turn h) b d → d ≡ c
one single payload size map h (On l) (On k) d x y =
    let e = single h l.machine y.0 (moved h x.0 x.1 l.machine) y.1 (Made dids.Next) y.2 (local_turn map h l.machine x.0 x.1 x.2) in
    let told : ToldBy (not l.down) h l y.0 (Made dids.Next) d = subst (λ (w : Turned). ToldBy (not l.down) h l y.0 w d) e.1 y.3 in
    told ∙ ap On (ap (λ (m : Machine). record l { machine = m }) e.0 ∙ sym x.3)
one single payload size map h (On l) (Off s) d x y = absurd x
one single payload size map h (On l) (Ended s) d x y = absurd x
one single payload size map h (Off s) c d x y = absurd x
one single payload size map h (Ended s) c d x y = absurd x

pub moves : (map : Map) (h : ℕ) (b c : Board) → Local map h b c → IsEnd b → ⊥
moves map h (On l) (On k) x ends =
    let e : On k ≡ On l = ends.1 h (On k) x.2.counted (turns [] l.machine.size map h (On l) (On k) x) in
    let same : k ≡ l = cc in
    let stays : moved h x.0 x.1 l.machine ≡ l.machine = ap (λ (a : Life). a.machine) (sym x.3 ∙ same) in
    let here : x.0 ≡ hart_at l.machine h = sym (get_or-set_same l.machine.harts h x.0 (never_started h) x.2.known) ∙ ap (λ (m : Machine). hart_at m h) stays in
    x.2.changes here (ap (λ (m : Machine). m.memory) stays)
moves map h (On l) (Off s) x ends = absurd x
moves map h (On l) (Ended s) x ends = absurd x
moves map h (Off s) c x ends = absurd x
moves map h (Ended s) c x ends = absurd x

pub decides : (h : ℕ) (e : Event) → (e ≡ Turn h) ⊎ (e ≡ Turn h → ⊥)
decides h (Turn g) = either (same_number g h) (λ e. inl (ap Turn e)) (λ ne. inr (λ e. ne (cc)))
decides h (Refused g down) = inr (λ e. cc)
decides h Wake = inr (λ e. cc)
decides h Cut = inr (λ e. cc)
decides h PowerOn = inr (λ e. cc)

-- ---- what keeps the map
keeps_beside : (map : Map) (g h : ℕ) (m : Machine) (t : ArchState) (n : List ℕ) → MovesAlone map h m t n → KeepsMap map g (moved h t n m) → KeepsMap map g m
keeps_beside map g h m t n local keeps =
    either (same_number g h)
    (λ e. subst (λ (k : ℕ). KeepsMap map k m) (sym e) (keeps_own map h m t n local))
    (λ ne. keeps_before map g h m t n ne local keeps)

keeps_life : (map : Map) (g h : ℕ) (l k : Life) → IsLocal map h l k → KeepsMap map g k.machine → KeepsMap map g l.machine
keeps_life map g h l k x keeps =
    keeps_beside map g h l.machine x.0 x.1 x.2 (subst (λ (a : Life). KeepsMap map g a.machine) x.3 keeps)

pub keeps_back : (map : Map) (h : ℕ) (e : Event) (b c : Board) → Local map h b c → Keeps map e c → Keeps map e b
keeps_back map h (Turn g) (On l) (On k) x keeps = keeps_life map g h l k x keeps
keeps_back map h (Refused g down) (On l) (On k) x keeps = keeps_life map g h l k x keeps
keeps_back map h Wake (On l) (On k) x keeps = tt
keeps_back map h Cut (On l) (On k) x keeps = tt
keeps_back map h PowerOn (On l) (On k) x keeps = tt
keeps_back map h e (On l) (Off s) x keeps = absurd x
keeps_back map h e (On l) (Ended s) x keeps = absurd x
keeps_back map h e (Off s) c x keeps = absurd x
keeps_back map h e (Ended s) c x keeps = absurd x

pub keeps_turn : (map : Map) (h : ℕ) (b c : Board) → Local map h b c → Keeps map (Turn h) b
keeps_turn map h (On l) (On k) x = keeps_own map h l.machine x.0 x.1 x.2
keeps_turn map h (On l) (Off s) x = absurd x
keeps_turn map h (On l) (Ended s) x = absurd x
keeps_turn map h (Off s) c x = absurd x
keeps_turn map h (Ended s) c x = absurd x

-- ---- an event, before and after a local turn
asks_moved : (g h : ℕ) (m : Machine) (t : ArchState) (n : List ℕ) (call : Call) → AsksStore g m call → AsksStore g (moved h t n m) call
asks_moved g h m t n (calls.SystemReset kind reason) x = x
asks_moved g h m t n (calls.SystemSuspend kind address opaque) x = x
asks_moved g h m t n call x = absurd x

asks_behind : (map : Map) (g h : ℕ) (m : Machine) (t : ArchState) (n : List ℕ) → g ≢ h → MovesAlone map h m t n → KeepsMap map g m → Asks g m → Asks g (moved h t n m)
asks_behind map g h m t n ne local keeps x =
    let sw = swaps map g h m x.0 t n Durable ne local keeps x.1 in (
      moved h t sw.memory x.0,
      sw.makes,
      asks_moved g h x.0 t sw.memory (call_of (hart_at (moved h t sw.memory x.0) g)) (subst (λ (u : ArchState). AsksStore g x.0 (call_of u)) (sym (beside g h t sw.memory x.0 ne)) x.2),
    )

own_asks : IsOneTurn → (map : Map) (h : ℕ) (m : Machine) (t : ArchState) (n : List ℕ) → MovesAlone map h m t n → Asks h m → ⊥
own_asks single map h m t n local x =
    let e = single h m x.0 (moved h t n m) Durable (Made dids.Next) x.1 (local_turn map h m t n local) in
    let differ : Durable ≡ Made dids.Next = e.1 in
    cc

refusal_joins : IsOneTurn → (payload : List ℕ) (size : Size) (map : Map) (g h : ℕ) (down : Bool) (l : Life) (t : ArchState) (n : List ℕ) (c : Board) → MovesAlone map h l.machine t n → KeepsMap map g l.machine → Does payload size (Refused g down) (On l) c → Joins map h (Does payload size (Refused g down) (On (record l { machine = moved h t n l.machine }))) c
refusal_joins single payload size map g h down l t n c local keeps x =
    either (same_number g h)
    (λ e. absurd (own_asks single map h l.machine t n local (subst (λ (k : ℕ). Asks k l.machine) e x.1)))
    (λ ne. joins_by map h (TurnsBy false g (record l { machine = moved h t n l.machine; down = down })) (Does payload size (Refused g down) (On (record l { machine = moved h t n l.machine }))) c (λ d y. (x.0, asks_behind map g h l.machine t n ne local keeps x.1, y))
    (turn_joins map g h false (record l { down = down }) t n c ne local keeps x.2))

wakes_none : (l : Life) → l.machine.doze ≡ None → can_wake l.machine.doze ≡ true → ⊥
wakes_none l awake x =
    let e : false ≡ true = sym (ap can_wake awake) ∙ x in
    cc

event_joins : IsOneTurn → (payload : List ℕ) (size : Size) (map : Map) (h : ℕ) (e : Event) (l : Life) (t : ArchState) (n : List ℕ) (c : Board) → MovesAlone map h l.machine t n → (e ≡ Turn h → ⊥) → Keeps map e (On l) → Does payload size e (On l) c → Joins map h (Does payload size e (On (record l { machine = moved h t n l.machine }))) c
event_joins single payload size map h (Turn g) l t n c local ne keeps x =
    turn_joins map g h (not l.down) l t n c (λ e. ne (ap Turn e)) local keeps x
event_joins single payload size map h (Refused g down) l t n c local ne keeps x =
    refusal_joins single payload size map g h down l t n c local keeps x
event_joins single payload size map h Wake l t n c local ne keeps x = absurd (wakes_none l local.awake x.0)
event_joins single payload size map h Cut l t n c local ne keeps x = inl (x, subst IsOff (sym x) tt)
event_joins single payload size map h PowerOn l t n c local ne keeps x = absurd x

pub events_swap : IsOneTurn → (payload : List ℕ) (size : Size) (map : Map) (h : ℕ) (e : Event) (b b' c : Board) → Local map h b b' → (e ≡ Turn h → ⊥) → Keeps map e b → Does payload size e b c → Joins map h (Does payload size e b') c
events_swap single payload size map h e (On l) (On k) c x ne keeps does =
    subst (λ (a : Life). Joins map h (Does payload size e (On a)) c) (sym x.3) (event_joins single payload size map h e l x.0 x.1 c x.2 ne keeps does)
events_swap single payload size map h e (On l) (Off s) c x ne keeps does = absurd x
events_swap single payload size map h e (On l) (Ended s) c x ne keeps does = absurd x
events_swap single payload size map h e (Off s) b' c x ne keeps does = absurd x
events_swap single payload size map h e (Ended s) b' c x ne keeps does = absurd x

-- the same for what keeps the map after the local turn
pub events_swap_after : IsOneTurn → (payload : List ℕ) (size : Size) (map : Map) (h : ℕ) (e : Event) (b b' c : Board) → Local map h b b' → (e ≡ Turn h → ⊥) → Keeps map e b' → Does payload size e b c → Joins map h (Does payload size e b') c
events_swap_after single payload size map h e b b' c x ne keeps does =
    events_swap single payload size map h e b b' c x ne (keeps_back map h e b b' x keeps) does
