-- Registers of a hart that are left out one after the other.
use Rattle.std.proofs.Common.{ℕ, Bool, true, false, None, List, ◌≡◌, ◌<◌, length, refl, sym, ap, ◌∙◌, subst, if◌then◌else◌, arith}
use Rattle.std.{specs.Prelude.{slice_index, slice_set, nat_eq}, proofs.lemmas.{Bool.eqb-true, List.{set-set, set-get_or, get_or-set_same}}}
use Rattle.board_model.specs.declared.durable.Reason.{Reason}
use Rattle.hart.specs.State.{ArchState, put, reg, never_started}
use Rattle.machine.specs.Machine.{Machine, hart_at}
use Rattle.model_board.specs.{Boards.{Board, Life, On, Off, Ended}, Held.with_hart, Rests.IsRest, declared.rests.Rest.Rest}
use Rattle.model_board.specs.{LeftOut.{LEFT_OUT, PROBE, IsLeftOut, StandsFor, held_at}, declared.powers.Power.Power}
use Rattle.model_board.specs.Plain.{Sized, board_shown, status_of, standing, with_machine}
use Rattle.model_board.{specs.Registers.{with_register, machine_holding, board_holding}, proofs.Filling.{fills_set, stands_on, stands_one}}
use Rattle.model_board.specs.declared.powers.Power.TheVariants as powers
use Rattle.model_board.specs.declared.powers.Status.TheVariants as statuses
use Rattle.board_space.specs.Leaving.{IsLeft}

pub left_none : (s t : ArchState) → t ≡ s → IsLeft s t
left_none s t is h l has at =
    stands_one (On (record l { machine = with_hart h l.machine t })) (On l)
    (ap (λ (harts : List ArchState). On (record l { machine = record l.machine { harts = harts } }))
    (ap (λ (a : ArchState). slice_set l.machine.harts h a) (is ∙ sym at) ∙ set-get_or l.machine.harts h (never_started h)))

-- a register that is left out more
put_by : (z : Bool) (k : ℕ) (s : ArchState) → z ≡ false → (if z then s else record s { regs = slice_set s.regs k LEFT_OUT }) ≡ with_register k LEFT_OUT s
put_by true k s is = absurd (cc)
put_by false k s is = refl

not_zero : (z : Bool) (k : ℕ) → nat_eq k 0 ≡ z → 0 < k → z ≡ false
not_zero true k is some = absurd (let e = eqb-true k 0 is in omega (arith, e, some))
not_zero false k is some = refl

put_left : (k : ℕ) (s : ArchState) → 0 < k → put s k LEFT_OUT ≡ with_register k LEFT_OUT s
put_left k s some = put_by (nat_eq k 0) k s (not_zero (nat_eq k 0) k refl some)

held : (h k : ℕ) (m : Machine) (t : ArchState) → h < length m.harts → machine_holding h k LEFT_OUT (with_hart h m t) ≡ with_hart h m (with_register k LEFT_OUT t)
held h k m t has =
    ap (λ (a : ArchState). record m { harts = slice_set (slice_set m.harts h t) h (with_register k LEFT_OUT a) }) (get_or-set_same m.harts h t (never_started h) has)
    ∙ ap (λ (harts : List ArchState). record m { harts = harts }) (set-set m.harts h t (with_register k LEFT_OUT t))

pub left_more : (s t : ArchState) (k : ℕ) → 0 < k → k < 32 → IsLeft s t → IsLeft s (put t k LEFT_OUT)
left_more s t k some low left h l has at =
    let now : Board = On (record l { machine = with_hart h l.machine t }) in
    let is : board_holding h k LEFT_OUT (On (record l { machine = with_hart h l.machine t })) ≡ On (record l { machine = with_hart h l.machine (put t k LEFT_OUT) }) =
    ap (λ (m : Machine). On (record l { machine = m })) (held h k l.machine t has)
    ∙ ap (λ (a : ArchState). On (record l { machine = with_hart h l.machine a })) (sym (put_left k t some)) in
    stands_on (On (record l { machine = with_hart h l.machine (put t k LEFT_OUT) })) now (On l)
    (subst (λ (b : Board). StandsFor b (On (record l { machine = with_hart h l.machine t }))) is (fills_set h k (λ e. omega (arith, e, some)) low now))
    (left h l has at)

-- the board with that hart
pub left_board : (power : Power) (reason : Reason) (down : Bool) (m : Machine) (h : ℕ) (t : ArchState) → statuses.On ≡ status_of (board_shown power reason down m) → h < length m.harts → IsLeft (hart_at m h) t → StandsFor (board_shown power reason down (with_hart h m t)) (board_shown power reason down m)
left_board powers.On reason down m h t is has left =
    left h (record { machine = m; stands = standing reason None; down = down }) has refl
left_board (powers.Off at) reason down m h t is has left = absurd (cc)
left_board powers.Ended reason down m h t is has left = absurd (cc)

pub left_sized : (rest : Rest) (b : Sized) (h : ℕ) (t : ArchState) → IsRest rest b → statuses.On ≡ status_of b.board → h < length b.machine.harts → IsLeft (hart_at b.machine h) t → StandsFor (with_machine (with_hart h b.machine t) b).board b.board
left_sized rest b h t is on has left =
    let shown : b.board ≡ board_shown b.power b.reason b.down b.machine = ap (λ (s : Sized). s.board) is ∙ sym (ap (λ (s : Sized). board_shown s.power s.reason s.down s.machine) is) in
    subst (λ (x : Board). StandsFor (board_shown b.power b.reason b.down (with_hart h b.machine t)) x) (sym shown)
    (left_board b.power b.reason b.down b.machine h t (subst (λ (x : Board). statuses.On ≡ status_of x) shown on) has left)

id_by : (z : Bool) (k : ℕ) (s : ArchState) → (if z then s else record s { regs = slice_set s.regs k LEFT_OUT }).id ≡ s.id
id_by true k s = refl
id_by false k s = refl

pub put_id : (k : ℕ) (s : ArchState) → (put s k LEFT_OUT).id ≡ s.id
put_id k s = id_by (nat_eq k 0) k s

-- ---- probes
pub none_off : (h k : ℕ) (b : Board) → statuses.Off ≡ status_of b → IsLeftOut h k b → ⊥
none_off h k (On l) is left = cc
none_off h k (Off s) is left = left
none_off h k (Ended s) is left = left

pub none_ended : (h k : ℕ) (b : Board) → statuses.Ended ≡ status_of b → IsLeftOut h k b → ⊥
none_ended h k (On l) is left = cc
none_ended h k (Off s) is left = left
none_ended h k (Ended s) is left = left

held_by : (z : Bool) (v : ℕ) → (if z then 0 else v) ≡ PROBE → v ≡ PROBE
held_by true v e = absurd (omega (arith, e))
held_by false v e = e

pub held_on : (b : Board) (m : Machine) (h k : ℕ) → statuses.On ≡ status_of b → ((l : Life) → b ≡ On l → m ≡ l.machine) → reg (hart_at m h) k ≡ PROBE → held_at h k b ≡ PROBE
held_on (On l) m h k is at held =
    held_by (nat_eq k 0) (slice_index (hart_at l.machine h).regs k) (subst (λ (n : Machine). reg (hart_at n h) k ≡ PROBE) (at l refl) held)
held_on (Off s) m h k is at held = absurd (cc)
held_on (Ended s) m h k is at held = absurd (cc)
