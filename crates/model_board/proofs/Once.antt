-- An event leads to one board.
use Rattle.std.proofs.Common.{ℕ, Bool, false, List, ◌≡◌, ◌≢◌, ◌⊎◌, refl, sym, ap, ◌∙◌, subst, inl, inr, not, arith}
use Rattle.std.specs.Prelude.{Result, Ok, Err}
use Rattle.board_model.specs.Shapes.{Size}
use Rattle.sbi_abi.specs.{Calls.call_of, declared.{call.Call.Call, ret.SbiError.SbiError}}
use Rattle.sbi_abi.specs.declared.call.Call.TheVariants as calls
use Rattle.sbi_calls.specs.declared.words.Turned.{Turned, TheVariants.{Made, Durable}}
use Rattle.susp.specs.{Checks.{IsChecked, kind_of, to_ram, to_disk}, declared.sleeps.Sleep.{Sleep, TheVariants.{ToRam, ToDisk}}}
use Rattle.machine.specs.Machine.{Machine, hart_at}
use Rattle.model_board.{specs.{Boards.{Life, Board, On, Off, Ended}, Held.{SleptBy, HeldBy}}, proofs.Swaps.IsOneTurn}
use Rattle.model_board.specs.Events.{Event, Turn, Refused, Wake, Cut, PowerOn, ToldBy, TurnsBy, Does}

one_sleep : (a b : Sleep) → kind_of a ≡ kind_of b → a ≡ b
one_sleep ToRam ToRam e = refl
one_sleep ToRam ToDisk e = absurd (omega (arith, e))
one_sleep ToDisk ToRam e = absurd (omega (arith, e))
one_sleep ToDisk ToDisk e = refl

is_one : (a : Sleep) (kind : ℕ) → kind ≡ kind_of a → (kind ≢ to_ram) → (kind ≢ to_disk) → ⊥
is_one ToRam kind e f g = f e
is_one ToDisk kind e f g = g e

is_either : (kind : ℕ) → (kind ≢ to_ram) → (kind ≢ to_disk) → (kind ≡ to_ram) ⊎ (kind ≡ to_disk) → ⊥
is_either kind f g (inl e) = f e
is_either kind f g (inr e) = g e

one_checked : (size : Size) (kind address : ℕ) (x y : Result (Sleep × ℕ) SbiError) → IsChecked size kind address x → IsChecked size kind address y → x ≡ y
one_checked size kind address (Ok x) (Ok y) p q =
    ap (λ (s : Sleep). Ok (s, x.1)) (one_sleep x.0 y.0 (sym p.0 ∙ q.0)) ∙ ap (λ (a : ℕ). Ok (y.0, a)) (p.1 ∙ sym q.1)
one_checked size kind address (Ok x) (Err f) p (inl q) = absurd (is_one x.0 kind p.0 q.0 q.1)
one_checked size kind address (Ok x) (Err f) p (inr q) = absurd (q.1 p.2)
one_checked size kind address (Err e) (Ok y) (inl p) q = absurd (is_one y.0 kind q.0 p.0 p.1)
one_checked size kind address (Err e) (Ok y) (inr p) q = absurd (p.1 q.2)
one_checked size kind address (Err e) (Err f) (inl p) (inl q) = ap (λ (a : SbiError). Err a) (p.2 ∙ sym q.2)
one_checked size kind address (Err e) (Err f) (inl p) (inr q) = absurd (is_either kind p.0 p.1 q.0)
one_checked size kind address (Err e) (Err f) (inr p) (inl q) = absurd (is_either kind q.0 q.1 p.0)
one_checked size kind address (Err e) (Err f) (inr p) (inr q) = ap (λ (a : SbiError). Err a) (p.2 ∙ sym q.2)

one_slept : (granted : Bool) (h : ℕ) (l : Life) (asked : Result (Sleep × ℕ) SbiError) (opaque : ℕ) (c d : Board) → SleptBy granted h l asked opaque c → SleptBy granted h l asked opaque d → c ≡ d
one_slept granted h l (Err e) opaque c d x y = x ∙ sym y
one_slept granted h l (Ok asked) opaque c d (inl x) (inl y) = x.1 ∙ sym y.1
one_slept granted h l (Ok asked) opaque c d (inl x) (inr y) = absurd (x.0 y.0)
one_slept granted h l (Ok asked) opaque c d (inr x) (inl y) = absurd (y.0 x.0)
one_slept granted h l (Ok asked) opaque c d (inr x) (inr y) = x.1 ∙ sym y.1

one_held : (granted : Bool) (h : ℕ) (l : Life) (call : Call) (c d : Board) → HeldBy granted h l call c → HeldBy granted h l call d → c ≡ d
one_held granted h l (calls.SystemReset kind reason) c d x y = x ∙ sym y
one_held granted h l (calls.SystemSuspend kind address opaque) c d x y =
    one_slept granted h l y.0 opaque c d (subst (λ (asked : Result (Sleep × ℕ) SbiError). SleptBy granted h l asked opaque c) (one_checked l.machine.size kind address x.0 y.0 x.1 y.1) x.2) y.2
one_held granted h l call c d x y = x ∙ sym y

one_told : (granted : Bool) (h : ℕ) (l : Life) (m : Machine) (word : Turned) (c d : Board) → ToldBy granted h l m word c → ToldBy granted h l m word d → c ≡ d
one_told granted h l m (Made did) c d x y = x ∙ sym y
one_told granted h l m Durable c d x y = one_held granted h (record l { machine = m }) (call_of (hart_at m h)) c d x y

one_board : IsOneTurn → (granted : Bool) (h : ℕ) (l : Life) (c d : Board) → TurnsBy granted h l c → TurnsBy granted h l d → c ≡ d
one_board single granted h l c d x y =
    let e = single h l.machine x.0 y.0 x.1 y.1 x.2 y.2 in
    one_told granted h l y.0 y.1 c d (subst (λ (w : Turned). ToldBy granted h l y.0 w c) e.1 (subst (λ (m : Machine). ToldBy granted h l m x.1 c) e.0 x.3)) y.3

pub event_determines_board : IsOneTurn → (payload : List ℕ) (size : Size) (e : Event) (b c d : Board) → Does payload size e b c → Does payload size e b d → c ≡ d
event_determines_board single payload size (Turn h) (On l) c d x y = one_board single (not l.down) h l c d x y
event_determines_board single payload size (Turn h) (Off s) c d x y = x ∙ sym y
event_determines_board single payload size (Turn h) (Ended s) c d x y = x ∙ sym y
event_determines_board single payload size (Refused h down) (On l) c d x y = one_board single false h (record l { down = down }) c d x.2 y.2
event_determines_board single payload size (Refused h down) (Off s) c d x y = absurd x
event_determines_board single payload size (Refused h down) (Ended s) c d x y = absurd x
event_determines_board single payload size Wake (On l) c d x y = x.1 ∙ sym y.1
event_determines_board single payload size Wake (Off s) c d x y = absurd x
event_determines_board single payload size Wake (Ended s) c d x y = absurd x
event_determines_board single payload size Cut b c d x y = x ∙ sym y
event_determines_board single payload size PowerOn (On l) c d x y = absurd x
event_determines_board single payload size PowerOn (Off s) c d x y = x ∙ sym y
event_determines_board single payload size PowerOn (Ended s) c d x y = absurd x
