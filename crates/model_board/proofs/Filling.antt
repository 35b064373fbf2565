-- A board that stands for others goes where they go.
use Rattle.std.proofs.Common.{ℕ, zero, suc, Bool, true, false, ◌≡◌, ◌⊎◌, ⊎_elim, inl, inr, ◌<◌, ◌≤◌, List, length, length-set, refl, sym, ap, ◌∙◌, subst, if◌then◌else◌, arith}
use Rattle.std.{specs.Prelude.{slice_index, slice_set, get_or, nat_eq, not}, proofs.lemmas.Bool.{cases_lt, eqb-true}}
use Rattle.std.proofs.lemmas.List.{set-set, set-get_or, set_comm, set_past, get_or-set_same, get_or-set_other}
use Rattle.board_model.specs.Shapes.{Size}
use Rattle.hart.{specs.{State.{ArchState, reg, never_started}, Means.word_at}, proofs.{Decided.{either, same_number}, Obeyed.HasOne}}
use Rattle.rv_decode.specs.Spells.{Reads}
use Rattle.machine.specs.Machine.{Machine, hart_at}
use Rattle.model_board.specs.{Boards.{Standing, Life, Board, On, Off, Ended}, Maps.{Map, Keeps, Local}}
use Rattle.model_board.{specs.Events.{Event, Turn, Refused, Wake, Cut, PowerOn, Does, TurnOn}, proofs.Once.event_determines_board}
use Rattle.model_board.specs.Registers.{with_register, machine_holding, board_holding, TurnUnread, TurnsUnread, EventUnread, KnowsHart, MovesPc}
use Rattle.model_board.specs.LeftOut.{LEFT_OUT, PROBE, IsLeftOut, Filled, StandsFor, ReadsNone, HartFor, LifeFor, held_at, IsProbed, AreProbed}
use Rattle.model_board.proofs.{Swaps.{IsOneTurn, turns, one}, UnreadEvents.{event_unread, other_turns, own_hart, other_hart}}
use Rattle.model_board.proofs.UnreadTouches.{keeps_unread, local_unread}

-- ---- registers
left_by : (z : Bool) (v : ℕ) → (if z then 0 else v) ≡ LEFT_OUT → v ≡ LEFT_OUT
left_by true v e = absurd (omega (arith, e))
left_by false v e = e

-- what is held in the list
left_held : (s : ArchState) (k : ℕ) → reg s k ≡ LEFT_OUT → slice_index s.regs k ≡ LEFT_OUT
left_held s k e = left_by (nat_eq k 0) (slice_index s.regs k) e

held_by : (z : Bool) (v w : ℕ) → v ≡ LEFT_OUT → (if z then 0 else w) ≡ LEFT_OUT → (if z then 0 else v) ≡ LEFT_OUT
held_by true v w is e = e
held_by false v w is e = is

back_register : (k x : ℕ) (s : ArchState) → slice_index s.regs k ≡ LEFT_OUT → with_register k LEFT_OUT (with_register k x s) ≡ s
back_register k x s is =
    ap (λ (l : List ℕ). record s { regs = l })
    (set-set s.regs k x LEFT_OUT ∙ (ap (λ (v : ℕ). slice_set s.regs k v) (sym is) ∙ set-get_or s.regs k 0))

fill_register : (k : ℕ) (s : ArchState) → with_register k (slice_index s.regs k) (with_register k LEFT_OUT s) ≡ s
fill_register k s =
    ap (λ (l : List ℕ). record s { regs = l }) (set-set s.regs k LEFT_OUT (slice_index s.regs k) ∙ set-get_or s.regs k 0)

past_register : (k x : ℕ) (s : ArchState) → length s.regs ≤ k → with_register k x s ≡ s
past_register k x s past = ap (λ (l : List ℕ). record s { regs = l }) (set_past s.regs k x past)

same_hart : (h : ℕ) (m : Machine) (s : ArchState) → s ≡ hart_at m h → record m { harts = slice_set m.harts h s } ≡ m
same_hart h m s is =
    ap (λ (l : List ArchState). record m { harts = l })
    (ap (λ (t : ArchState). slice_set m.harts h t) is ∙ set-get_or m.harts h (never_started h))

-- register k holds x, and then y
twice : (h k x y : ℕ) (m : Machine) → h < length m.harts → machine_holding h k y (machine_holding h k x m) ≡ record m { harts = slice_set m.harts h (with_register k y (with_register k x (hart_at m h))) }
twice h k x y m has =
    ap (λ (s : ArchState). record m { harts = slice_set (slice_set m.harts h (with_register k x (hart_at m h))) h (with_register k y s) }) (own_hart h k x m has)
    ∙ ap (λ (l : List ArchState). record m { harts = l }) (set-set m.harts h (with_register k x (hart_at m h)) (with_register k y (with_register k x (hart_at m h))))

back_machine : (h k x : ℕ) (m : Machine) → h < length m.harts → reg (hart_at m h) k ≡ LEFT_OUT → machine_holding h k LEFT_OUT (machine_holding h k x m) ≡ m
back_machine h k x m has is =
    twice h k x LEFT_OUT m has ∙ same_hart h m _ (back_register k x (hart_at m h) (left_held (hart_at m h) k is))

pub back_board : (h k x : ℕ) (b : Board) → IsLeftOut h k b → board_holding h k LEFT_OUT (board_holding h k x b) ≡ b
back_board h k x (On l) left =
    ap (λ (m : Machine). On (record l { machine = m })) (back_machine h k x l.machine left.0 left.2)
back_board h k x (Off s) left = absurd left
back_board h k x (Ended s) left = absurd left

-- the hart's pc stays
same_pc : (h k x g : ℕ) (m : Machine) → (hart_at (machine_holding h k x m) g).pc ≡ (hart_at m g).pc
same_pc h k x g m =
    ⊎_elim
    (λ has.
    either (same_number g h)
    (λ same. subst (λ (i : ℕ). (hart_at (machine_holding h k x m) i).pc ≡ (hart_at m i).pc) (sym same) (ap (λ (s : ArchState). s.pc) (own_hart h k x m has)))
    (λ apart. ap (λ (s : ArchState). s.pc) (other_hart h k x m g apart)))
    (λ past. ap (λ (l : List ArchState). (get_or l g (never_started g)).pc) (set_past m.harts h (with_register k x (hart_at m h)) past))
    (cases_lt h (length m.harts))

pub knows : (h k : ℕ) (b : Board) → IsLeftOut h k b → KnowsHart h b
knows h k (On l) left = left.0
knows h k (Off s) left = absurd left
knows h k (Ended s) left = absurd left

knows_on : (h k x : ℕ) (b : Board) → IsLeftOut h k b → KnowsHart h (board_holding h k x b)
knows_on h k x (On l) left =
    subst (λ (n : ℕ). h < n) (sym (length-set l.machine.harts h (with_register k x (hart_at l.machine h)))) left.0
knows_on h k x (Off s) left = absurd left
knows_on h k x (Ended s) left = absurd left

not_zero : (h k : ℕ) (b : Board) → IsLeftOut h k b → k ≡ 0 → ⊥
not_zero h k (On l) left is =
    let e : reg (hart_at l.machine h) 0 ≡ LEFT_OUT = subst (λ (i : ℕ). reg (hart_at l.machine h) i ≡ LEFT_OUT) is left.2 in
    omega (arith, e)
not_zero h k (Off s) left is = left
not_zero h k (Ended s) left is = left

small : (h k : ℕ) (b : Board) → IsLeftOut h k b → k < 32
small h k (On l) left = left.1
small h k (Off s) left = absurd left
small h k (Ended s) left = absurd left

-- ---- boards that stand for others
pub stands_one : (b c : Board) → b ≡ c → StandsFor b c
stands_one b c is = (0, sym is)

filled_on : (n : ℕ) (b c d : Board) → Filled n b c → StandsFor c d → StandsFor b d
filled_on zero b c d is later = subst (λ (x : Board). StandsFor x d) is later
filled_on (suc n) b c d first later =
    let rest = filled_on n (board_holding first.0 first.1 first.2 b) c d first.4 later in
    (suc rest.0, (first.0, first.1, first.2, first.3, rest.1))

pub stands_on : (b c d : Board) → StandsFor b c → StandsFor c d → StandsFor b d
stands_on b c d first later = filled_on first.0 b c d first.1 later

-- a board, once a register of it is left out, stands for it
module _ (h k : ℕ) (some : k ≡ 0 → ⊥) (low : k < 32) where
  abbrev R : Machine → Machine
  R m = machine_holding h k LEFT_OUT m

  left_after : (m : Machine) → h < length m.harts → k < length (hart_at m h).regs → reg (hart_at (R m) h) k ≡ LEFT_OUT
  left_after m has within =
      let held : slice_index (with_register k LEFT_OUT (hart_at m h)).regs k ≡ LEFT_OUT = get_or-set_same (hart_at m h).regs k LEFT_OUT 0 within in
      subst (λ (s : ArchState). reg s k ≡ LEFT_OUT) (sym (own_hart h k LEFT_OUT m has)) (by_number (nat_eq k 0) refl held)
    where
      by_number : (z : Bool) → nat_eq k 0 ≡ z → slice_index (with_register k LEFT_OUT (hart_at m h)).regs k ≡ LEFT_OUT → (if z then 0 else slice_index (with_register k LEFT_OUT (hart_at m h)).regs k) ≡ LEFT_OUT
      by_number true is held = absurd (some (eqb-true k 0 is))
      by_number false is held = held

  filled_back : (m : Machine) → h < length m.harts → machine_holding h k (slice_index (hart_at m h).regs k) (R m) ≡ m
  filled_back m has =
      twice h k LEFT_OUT (slice_index (hart_at m h).regs k) m has ∙ same_hart h m _ (fill_register k (hart_at m h))

  pub fills_set : (c : Board) → StandsFor (board_holding h k LEFT_OUT c) c
  fills_set (On l) =
      ⊎_elim
      (λ has.
      ⊎_elim
      (λ within.
      let left : IsLeftOut h k (board_holding h k LEFT_OUT (On l)) = (subst (λ (n : ℕ). h < n) (sym (length-set l.machine.harts h (with_register k LEFT_OUT (hart_at l.machine h)))) has, low, left_after l.machine has within) in
      (1, (h, k, slice_index (hart_at l.machine h).regs k, left, sym (ap (λ (m : Machine). On (record l { machine = m })) (filled_back l.machine has)))))
      (λ past.
      stands_one (board_holding h k LEFT_OUT (On l)) (On l)
      (ap (λ (m : Machine). On (record l { machine = m })) (same_hart h l.machine (with_register k LEFT_OUT (hart_at l.machine h)) (past_register k LEFT_OUT (hart_at l.machine h) past))))
      (cases_lt k (length (hart_at l.machine h).regs)))
      (λ past.
      stands_one (board_holding h k LEFT_OUT (On l)) (On l)
      (ap (λ (harts : List ArchState). On (record l { machine = record l.machine { harts = harts } })) (set_past l.machine.harts h (with_register k LEFT_OUT (hart_at l.machine h)) past)))
      (cases_lt h (length l.machine.harts))
  fills_set (Off s) = stands_one (Off s) (Off s) refl
  fills_set (Ended s) = stands_one (Ended s) (Ended s) refl

-- ---- what an event reads
turn_unread_on : (h k x i j : ℕ) (m : Machine) → h < length m.harts → TurnUnread i j m → TurnUnread i j (machine_holding h k x m)
turn_unread_on h k x i j m has none =
    (none.0, subst (λ (pc : ℕ). Reads none.0 (word_at m.memory pc)) (sym (same_pc h k x i m)) none.1, none.2)

turns_unread_on : (h k x g i j : ℕ) (b : Board) → KnowsHart h b → TurnsUnread g i j b → TurnsUnread g i j (board_holding h k x b)
turns_unread_on h k x g i j (On l) has none = λ is. turn_unread_on h k x i j l.machine has (none is)
turns_unread_on h k x g i j (Off s) has none = none
turns_unread_on h k x g i j (Ended s) has none = none

event_unread_on : (h k x : ℕ) (e : Event) (i j : ℕ) (b : Board) → KnowsHart h b → EventUnread e i j b → EventUnread e i j (board_holding h k x b)
event_unread_on h k x (Turn g) i j b has none = turns_unread_on h k x g i j b has none
event_unread_on h k x (Refused g down) i j b has none = turns_unread_on h k x g i j b has none
event_unread_on h k x Wake i j b has none = none
event_unread_on h k x Cut i j b has none = none
event_unread_on h k x PowerOn i j b has none = none

-- a register that is left out after another one was filled was left out before
read_apart : (k x j : ℕ) (s : ArchState) → (j ≡ k → ⊥) → reg (with_register k x s) j ≡ reg s j
read_apart k x j s apart =
    ap (λ (v : ℕ). if nat_eq j 0 then 0 else v) (get_or-set_other s.regs k j x 0 apart)

left_before_on : (h k x i j : ℕ) (l : Life) → h < length l.machine.harts → reg (hart_at l.machine h) k ≡ LEFT_OUT → IsLeftOut i j (board_holding h k x (On l)) → IsLeftOut i j (On l)
left_before_on h k x i j l has is left =
    let m = l.machine in
    let within : i < length m.harts = subst (λ (n : ℕ). i < n) (length-set m.harts h (with_register k x (hart_at m h))) left.0 in
    either (same_number i h)
    (λ same.
    let here : reg (with_register k x (hart_at m h)) j ≡ LEFT_OUT = subst (λ (s : ArchState). reg s j ≡ LEFT_OUT) (own_hart h k x m has) (subst (λ (n : ℕ). reg (hart_at (machine_holding h k x m) n) j ≡ LEFT_OUT) same left.2) in
    either (same_number j k)
    (λ own. (within, left.1, subst (λ (n : ℕ). reg (hart_at m n) j ≡ LEFT_OUT) (sym same) (subst (λ (n : ℕ). reg (hart_at m h) n ≡ LEFT_OUT) (sym own) is)))
    (λ apart. (within, left.1, subst (λ (n : ℕ). reg (hart_at m n) j ≡ LEFT_OUT) (sym same) (sym (read_apart k x j (hart_at m h) apart) ∙ here))))
    (λ other. (within, left.1, subst (λ (s : ArchState). reg s j ≡ LEFT_OUT) (other_hart h k x m i other) left.2))

left_before : (h k x i j : ℕ) (b : Board) → IsLeftOut h k b → IsLeftOut i j (board_holding h k x b) → IsLeftOut i j b
left_before h k x i j (On l) is left = left_before_on h k x i j l is.0 is.2 left
left_before h k x i j (Off s) is left = absurd left
left_before h k x i j (Ended s) is left = absurd left

pub reads_none_on : (h k x : ℕ) (e : Event) (b : Board) → IsLeftOut h k b → ReadsNone e b → ReadsNone e (board_holding h k x b)
reads_none_on h k x e b is none i j left =
    event_unread_on h k x e i j b (knows h k b is) (none i j (left_before h k x i j b is left))

-- ---- events
module _ (law : HasOne) (single : IsOneTurn) (payload : List ℕ) (size : Size) where
  -- one register is filled
  filled_one : (e : Event) (b c : Board) (h k x : ℕ) → IsLeftOut h k b → EventUnread e h k b → Does payload size e b c → (d : Board) × Does payload size e (board_holding h k x b) d × StandsFor c d
  filled_one e b c h k x is none did =
      let has = knows h k b is in
      let on : Board = board_holding h k x b in
      let back : board_holding h k LEFT_OUT (board_holding h k x b) ≡ b = back_board h k x b is in
      ⊎_elim
      (λ kept.
      let kept_c : Board = board_holding h k x c in
      ⊎_elim
      (λ again.
      let same : c ≡ board_holding h k LEFT_OUT (board_holding h k x c) = event_determines_board single payload size e b c _ did (subst (λ (a : Board). Does payload size e a (board_holding h k LEFT_OUT (board_holding h k x c))) back again) in
      (board_holding h k x c, kept, subst (λ (a : Board). StandsFor a (board_holding h k x c)) (sym same) (fills_set h k (not_zero h k b is) (small h k b is) (board_holding h k x c))))
      (λ again.
      let same : c ≡ board_holding h k x c = event_determines_board single payload size e b c _ did (subst (λ (a : Board). Does payload size e a (board_holding h k x c)) back again) in
      (board_holding h k x c, kept, stands_one c (board_holding h k x c) same))
      (event_unread h k LEFT_OUT law payload size e (board_holding h k x b) (board_holding h k x c) (knows_on h k x b is) (event_unread_on h k x e h k b has none) kept))
      (λ hidden. (c, hidden, stands_one c c refl))
      (event_unread h k x law payload size e b c has none did)

  -- what an event does to a board that stands for another, it does to that
  pub filled_event : (n : ℕ) (e : Event) (b c d : Board) → Filled n b d → ReadsNone e b → Does payload size e b c → (f : Board) × Does payload size e d f × StandsFor c f
  filled_event zero e b c d is none did =
      (c, subst (λ (a : Board). Does payload size e a c) (sym is) did, stands_one c c refl)
  filled_event (suc n) e b c d filled none did =
      let h = filled.0 in
      let k = filled.1 in
      let x = filled.2 in
      let one = filled_one e b c h k x filled.3 (none h k filled.3) did in
      let rest = filled_event n e (board_holding h k x b) one.0 d filled.4 (reads_none_on h k x e b filled.3 none) one.1 in
      (rest.0, rest.1, stands_on c one.0 rest.0 one.2 rest.2)

  -- and what it does to that, it does to the board
  pub event_back : (n : ℕ) (e : Event) (b d f : Board) → Filled n b d → ReadsNone e b → Does payload size e d f → (c : Board) × Does payload size e b c × StandsFor c f
  event_back zero e b d f is none did =
      (f, subst (λ (a : Board). Does payload size e a f) is did, stands_one f f refl)
  event_back (suc n) e b d f filled none did =
      let h = filled.0 in
      let k = filled.1 in
      let x = filled.2 in
      let left = filled.3 in
      let on = event_back n e (board_holding h k x b) d f filled.4 (reads_none_on h k x e b left none) did in
      let back : board_holding h k LEFT_OUT (board_holding h k x b) ≡ b = back_board h k x b left in
      ⊎_elim
      (λ kept.
      (board_holding h k LEFT_OUT on.0, subst (λ (a : Board). Does payload size e a (board_holding h k LEFT_OUT on.0)) back kept, stands_on (board_holding h k LEFT_OUT on.0) on.0 f (fills_set h k (not_zero h k b left) (small h k b left) on.0) on.2))
      (λ hidden. (on.0, subst (λ (a : Board). Does payload size e a on.0) back hidden, on.2))
      (event_unread h k LEFT_OUT law payload size e (board_holding h k x b) on.0 (knows_on h k x b left) (event_unread_on h k x e h k b (knows h k b left) (none h k left)) on.1)

-- ---- what keeps a map
pub keeps_filled : HasOne → (map : Map) (n : ℕ) (e : Event) (b d : Board) → Filled n b d → ReadsNone e b → Keeps map e b → Keeps map e d
keeps_filled law map zero e b d is none keeps = subst (λ (a : Board). Keeps map e a) (sym is) keeps
keeps_filled law map (suc n) e b d filled none keeps =
    let h = filled.0 in
    let k = filled.1 in
    let x = filled.2 in
    keeps_filled law map n e (board_holding h k x b) d filled.4 (reads_none_on h k x e b filled.3 none)
    (keeps_unread law map h k x e b (knows h k b filled.3) (none h k filled.3) keeps)

-- ---- local turns
module _ (law : HasOne) (single : IsOneTurn) (payload : List ℕ) (size : Size) where
  moves_kept : (h k x g : ℕ) (b c : Board) → MovesPc g b c → MovesPc g (board_holding h k x b) (board_holding h k x c)
  moves_kept h k x g (On l) (On n) moves = λ e.
      moves (sym (same_pc h k x g n.machine) ∙ (e ∙ same_pc h k x g l.machine))
  moves_kept h k x g (On l) (Off s) moves = tt
  moves_kept h k x g (On l) (Ended s) moves = tt
  moves_kept h k x g (Off s) c moves = tt
  moves_kept h k x g (Ended s) c moves = tt

  moves_hidden : (h k x g : ℕ) (b c : Board) → MovesPc g b c → MovesPc g (board_holding h k x b) c
  moves_hidden h k x g (On l) (On n) moves = λ e. moves (e ∙ same_pc h k x g l.machine)
  moves_hidden h k x g (On l) (Off s) moves = tt
  moves_hidden h k x g (On l) (Ended s) moves = tt
  moves_hidden h k x g (Off s) c moves = tt
  moves_hidden h k x g (Ended s) c moves = tt

  abbrev LocalOn : Map → ℕ → Board → Board → Board → Type 0
  LocalOn map g b c a = (d : Board) × Local map g a d × StandsFor c d × MovesPc g a d

  local_one : (map : Map) (g : ℕ) (b c : Board) (h k x : ℕ) → IsLeftOut h k b → EventUnread (Turn g) h k b → MovesPc g b c → Local map g b c → LocalOn map g b c (board_holding h k x b)
  local_one map g b c h k x left none moves local =
      let by = filled_one law single payload size (Turn g) b c h k x left none (turns payload size map g b c local) in
      ⊎_elim
      (λ kept.
      let same : by.0 ≡ board_holding h k x c = one single payload size map g (board_holding h k x b) (board_holding h k x c) by.0 kept by.1 in
      (board_holding h k x c, kept, subst (λ (a : Board). StandsFor c a) same by.2, moves_kept h k x g b c moves))
      (λ hidden.
      let same : by.0 ≡ c = one single payload size map g (board_holding h k x b) c by.0 hidden by.1 in
      (c, hidden, subst (λ (a : Board). StandsFor c a) same by.2, moves_hidden h k x g b c moves))
      (local_unread law map h k x g b c (knows h k b left) none moves local)

  -- a local turn of a board is one of each board for which it stands
  pub local_filled : (map : Map) (n g : ℕ) (b c d : Board) → Filled n b d → ReadsNone (Turn g) b → MovesPc g b c → Local map g b c → (f : Board) × Local map g d f × StandsFor c f
  local_filled map zero g b c d is none moves local =
      (c, subst (λ (a : Board). Local map g a c) (sym is) local, stands_one c c refl)
  local_filled map (suc n) g b c d filled none moves local =
      let h = filled.0 in
      let k = filled.1 in
      let x = filled.2 in
      let left = filled.3 in
      let on = local_one map g b c h k x left (none h k left) moves local in
      let rest = local_filled map n g (board_holding h k x b) on.0 d filled.4 (reads_none_on h k x (Turn g) b left none) on.3 on.1 in
      (rest.0, rest.1, stands_on c on.0 rest.0 on.2 rest.2)

-- ---- what two such boards have in common
hart_for : (k x : ℕ) (s : ArchState) → reg s k ≡ LEFT_OUT → HartFor s (with_register k x s)
hart_for k x s is = record {
  same = refl;
  regs = λ j.
      either (same_number j k)
      (λ own. inl (subst (λ (i : ℕ). reg s i ≡ LEFT_OUT) (sym own) is))
      (λ apart. inr (read_apart k x j s apart));
}

hart_itself : (s : ArchState) → HartFor s s
hart_itself s = record { same = refl; regs = λ k. inr refl }

hart_for_on : (s t u : ArchState) → HartFor s t → HartFor t u → HartFor s u
hart_for_on s t u first later = record {
  same = later.same ∙ ap (λ (a : ArchState). record a { regs = u.regs }) first.same;
  regs = λ k.
      ⊎_elim (λ left. inl left)
      (λ same. ⊎_elim (λ left. inl (sym same ∙ left)) (λ other. inr (other ∙ same)) (later.regs k))
      (first.regs k);
}

harts_for : (h k x : ℕ) (m : Machine) → h < length m.harts → reg (hart_at m h) k ≡ LEFT_OUT → (g : ℕ) → HartFor (hart_at m g) (hart_at (machine_holding h k x m) g)
harts_for h k x m has is g =
    either (same_number g h)
    (λ same.
    subst (λ (i : ℕ). HartFor (hart_at m i) (hart_at (machine_holding h k x m) i)) (sym same)
    (subst (λ (s : ArchState). HartFor (hart_at m h) s) (sym (own_hart h k x m has)) (hart_for k x (hart_at m h) is)))
    (λ apart. subst (λ (s : ArchState). HartFor (hart_at m g) s) (sym (other_hart h k x m g apart)) (hart_itself (hart_at m g)))

pub life_for : (n : ℕ) (l : Life) (d : Board) → Filled n (On l) d → (k : Life) × (d ≡ On k) × LifeFor l k
life_for zero l d is =
    (l, is, record { same = refl; harts = λ h. hart_itself (hart_at l.machine h) })
life_for (suc n) l d filled =
    let h = filled.0 in
    let k = filled.1 in
    let x = filled.2 in
    let on : Life = record l { machine = machine_holding h k x l.machine } in
    let rest = life_for n on d filled.4 in (
      rest.0,
      rest.1,
      record {
        same = rest.2.same;
        harts = λ g.
            hart_for_on (hart_at l.machine g) (hart_at on.machine g) (hart_at rest.0.machine g)
            (harts_for h k x l.machine filled.3.0 filled.3.2 g) (rest.2.harts g);
      },
    )

pub off_filled : (n : ℕ) (s : Standing) (d : Board) → Filled n (Off s) d → d ≡ Off s
off_filled zero s d is = is
off_filled (suc n) s d filled = absurd filled.3

pub ended_filled : (n : ℕ) (s : Standing) (d : Board) → Filled n (Ended s) d → d ≡ Ended s
ended_filled zero s d is = is
ended_filled (suc n) s d filled = absurd filled.3

-- ---- a board at rest
-- what is set is read again, or the board stays as it is
set_reads : (h k x : ℕ) (c : Board) → (board_holding h k x c ≡ c) ⊎ (held_at h k (board_holding h k x c) ≡ x)
set_reads h k x (On l) =
    let m = l.machine in
    ⊎_elim
    (λ has.
    ⊎_elim
    (λ within. inr (ap (λ (s : ArchState). slice_index s.regs k) (own_hart h k x m has) ∙ get_or-set_same (hart_at m h).regs k x 0 within))
    (λ past. inl (ap (λ (n : Machine). On (record l { machine = n })) (same_hart h m (with_register k x (hart_at m h)) (past_register k x (hart_at m h) past))))
    (cases_lt k (length (hart_at m h).regs)))
    (λ past. inl (ap (λ (harts : List ArchState). On (record l { machine = record m { harts = harts } })) (set_past m.harts h (with_register k x (hart_at m h)) past)))
    (cases_lt h (length m.harts))
set_reads h k x (Off s) = inl refl
set_reads h k x (Ended s) = inl refl

-- another register stays
abbrev Apart : ℕ → ℕ → ℕ → ℕ → Type 0
Apart h k g j = (g ≡ h → ⊥) ⊎ (j ≡ k → ⊥)

held_register : (k x j : ℕ) (s : ArchState) → (j ≡ k → ⊥) → slice_index (with_register k x s).regs j ≡ slice_index s.regs j
held_register k x j s apart = get_or-set_other s.regs k j x 0 apart

held_apart : (h k x g j : ℕ) (c : Board) → Apart h k g j → held_at g j (board_holding h k x c) ≡ held_at g j c
held_apart h k x g j (On l) (inl apart) = ap (λ (s : ArchState). slice_index s.regs j) (other_hart h k x l.machine g apart)
held_apart h k x g j (On l) (inr apart) =
    let m = l.machine in
    ⊎_elim
    (λ has.
    either (same_number g h)
    (λ same.
    subst (λ (i : ℕ). slice_index (hart_at (machine_holding h k x m) i).regs j ≡ slice_index (hart_at m i).regs j) (sym same)
    (ap (λ (s : ArchState). slice_index s.regs j) (own_hart h k x m has) ∙ held_register k x j (hart_at m h) apart))
    (λ other. ap (λ (s : ArchState). slice_index s.regs j) (other_hart h k x m g other)))
    (λ past. ap (λ (l : List ArchState). slice_index (get_or l g (never_started g)).regs j) (set_past m.harts h (with_register k x (hart_at m h)) past))
    (cases_lt h (length m.harts))
held_apart h k x g j (Off s) apart = refl
held_apart h k x g j (Ended s) apart = refl

both_registers : (k x j y : ℕ) (s : ArchState) → (j ≡ k → ⊥) → with_register j y (with_register k x s) ≡ with_register k x (with_register j y s)
both_registers k x j y s apart =
    ap (λ (l : List ℕ). record s { regs = l }) (set_comm s.regs k j x y (λ e. apart (sym e)))

both_machine : (h k x g j y : ℕ) (m : Machine) → h < length m.harts → Apart h k g j → machine_holding g j y (machine_holding h k x m) ≡ machine_holding h k x (machine_holding g j y m)
both_machine h k x g j y m has apart =
    either (same_number g h)
    (λ same.
    let other : j ≡ k → ⊥ = ⊎_elim (λ not. absurd (not same)) (λ not. not) apart in
    subst (λ (i : ℕ). machine_holding i j y (machine_holding h k x m) ≡ machine_holding h k x (machine_holding i j y m)) (sym same)
    (twice_other h k x j y m has
    ∙ (ap (λ (s : ArchState). record m { harts = slice_set m.harts h s }) (both_registers k x j y (hart_at m h) other)
    ∙ sym (twice_other h j y k x m has))))
    (λ other. set_beside h k x g j y m other)
  where
    twice_other : (h k x j y : ℕ) (m : Machine) → h < length m.harts → machine_holding h j y (machine_holding h k x m) ≡ record m { harts = slice_set m.harts h (with_register j y (with_register k x (hart_at m h))) }
    twice_other h k x j y m has =
        ap (λ (s : ArchState). record m { harts = slice_set (slice_set m.harts h (with_register k x (hart_at m h))) h (with_register j y s) }) (own_hart h k x m has)
        ∙ ap (λ (l : List ArchState). record m { harts = l }) (set-set m.harts h (with_register k x (hart_at m h)) (with_register j y (with_register k x (hart_at m h))))

    set_beside : (h k x g j y : ℕ) (m : Machine) → (g ≡ h → ⊥) → machine_holding g j y (machine_holding h k x m) ≡ machine_holding h k x (machine_holding g j y m)
    set_beside h k x g j y m other =
        ap (λ (s : ArchState). record m { harts = slice_set (slice_set m.harts h (with_register k x (hart_at m h))) g (with_register j y s) }) (other_hart h k x m g other)
        ∙ (ap (λ (l : List ArchState). record m { harts = l }) (set_comm m.harts h g (with_register k x (hart_at m h)) (with_register j y (hart_at m g)) (λ e. other (sym e)))
        ∙ ap (λ (s : ArchState). record m { harts = slice_set (slice_set m.harts g (with_register j y (hart_at m g))) h (with_register k x s) }) (sym (other_hart g j y m h (λ e. other (sym e)))))

both_set : (h k x g j y : ℕ) (b : Board) → KnowsHart h b → Apart h k g j → board_holding g j y (board_holding h k x b) ≡ board_holding h k x (board_holding g j y b)
both_set h k x g j y (On l) has apart =
    ap (λ (m : Machine). On (record l { machine = m })) (both_machine h k x g j y l.machine has apart)
both_set h k x g j y (Off s) has apart = refl
both_set h k x g j y (Ended s) has apart = refl

again_set : (h k x y : ℕ) (b : Board) → KnowsHart h b → board_holding h k y (board_holding h k x b) ≡ board_holding h k y b
again_set h k x y (On l) has =
    ap (λ (m : Machine). On (record l { machine = m }))
    (twice h k x y l.machine has
    ∙ ap (λ (t : List ℕ). record l.machine { harts = slice_set l.machine.harts h (record (hart_at l.machine h) { regs = t }) }) (set-set (hart_at l.machine h).regs k x y))
again_set h k x y (Off s) has = refl
again_set h k x y (Ended s) has = refl

left_at : (h k : ℕ) (b : Board) → IsLeftOut h k b → held_at h k b ≡ LEFT_OUT
left_at h k (On l) left = left_held (hart_at l.machine h) k left.2
left_at h k (Off s) left = absurd left
left_at h k (Ended s) left = absurd left

module _ (law : HasOne) (single : IsOneTurn) (payload : List ℕ) (size : Size) (g : ℕ) where
  abbrev Turns : Board → Board → Type 0
  Turns b c = Does payload size (Turn g) b c

  -- the probe of another register stays
  probed_apart : (h k x j : ℕ) (b : Board) → IsLeftOut h k b → ReadsNone (Turn g) b → KnowsHart g b → Apart h k g j → IsProbed g j b → IsProbed g j (board_holding h k x b)
  probed_apart h k x j b left none own apart probe =
      let has = knows h k b left in
      let at : board_holding h k x (board_holding g j PROBE b) ≡ board_holding g j PROBE (board_holding h k x b) = sym (both_set h k x g j PROBE b has apart) in
      let unread : EventUnread (Turn g) h k (board_holding g j PROBE b) = event_unread_on g j PROBE (Turn g) h k b own (none h k left) in
      ⊎_elim
      (λ kept. (board_holding h k x probe.0, subst (λ (a : Board). TurnOn g a (board_holding h k x probe.0)) at kept, held_apart h k x g j probe.0 apart ∙ probe.2))
      (λ hidden. (probe.0, subst (λ (a : Board). TurnOn g a probe.0) at hidden, probe.2))
      (event_unread h k x law payload size (Turn g) (board_holding g j PROBE b) probe.0 (knows_any h g j PROBE b has) unread probe.1)
    where
      knows_any : (h g j y : ℕ) (b : Board) → KnowsHart h b → KnowsHart h (board_holding g j y b)
      knows_any h g j y (On l) has = subst (λ (n : ℕ). h < n) (sym (length-set l.machine.harts g (with_register j y (hart_at l.machine g)))) has
      knows_any h g j y (Off s) has = has
      knows_any h g j y (Ended s) has = has

  probed_own : (h k x j : ℕ) (b : Board) → KnowsHart h b → g ≡ h → j ≡ k → IsProbed g j b → IsProbed g j (board_holding h k x b)
  probed_own h k x j b has same own probe =
      let at : board_holding g j PROBE (board_holding g j x b) ≡ board_holding g j PROBE b = again_set g j x PROBE b (subst (λ (i : ℕ). KnowsHart i b) (sym same) has) in
      let here : IsProbed g j (board_holding g j x b) = (probe.0, subst (λ (a : Board). TurnOn g a probe.0) (sym at) probe.1, probe.2) in
      subst (λ (i : ℕ). IsProbed g j (board_holding i k x b)) same (subst (λ (i : ℕ). IsProbed g j (board_holding g i x b)) own here)

  probed_on : (h k x : ℕ) (b : Board) → IsLeftOut h k b → ReadsNone (Turn g) b → AreProbed g b → AreProbed g (board_holding h k x b)
  probed_on h k x b left none probes j is =
      let was : IsLeftOut g j b = left_before h k x g j b left is in
      either (same_number g h)
      (λ same.
      either (same_number j k)
      (λ own. probed_own h k x j b (knows h k b left) same own (probes j was))
      (λ apart. probed_apart h k x j b left none (knows g j b was) (inr apart) (probes j was)))
      (λ other. probed_apart h k x j b left none (knows g j b was) (inl other) (probes j was))

  -- A turn that leads from a board back to it writes no register that is left out, since the probe would show it.
  own_rests : (k x : ℕ) (b : Board) → IsLeftOut g k b → ReadsNone (Turn g) b → AreProbed g b → Turns b b → Turns (board_holding g k x b) b → Turns (board_holding g k x b) (board_holding g k x b)
  own_rests k x b left none probes rests hidden =
      let a : Board = board_holding g k x b in
      let probe = probes k left in
      let at : board_holding g k x (board_holding g k PROBE b) ≡ board_holding g k x b = again_set g k PROBE x b (knows g k b left) in
      let not_same : b ≡ probe.0 → ⊥ = λ e. (let n : LEFT_OUT ≡ PROBE = sym (left_at g k b left) ∙ (ap (λ (d : Board). held_at g k d) e ∙ probe.2) in omega (arith, n)) in
      let by_set : b ≡ board_holding g k x probe.0 → Turns (board_holding g k x b) (board_holding g k x b) = λ e.
      ⊎_elim
      (λ stays. absurd (not_same (e ∙ stays)))
      (λ reads.
      let held : x ≡ LEFT_OUT = sym reads ∙ (ap (λ (d : Board). held_at g k d) (sym e) ∙ left_at g k b left) in
      let same : board_holding g k x b ≡ b = subst (λ (v : ℕ). board_holding g k v b ≡ b) (sym held) (again_left g k b left) in
      subst (λ (d : Board). Turns d d) (sym same) rests)
      (set_reads g k x probe.0) in
      ⊎_elim
      (λ kept. by_set (event_determines_board single payload size (Turn g) a b (board_holding g k x probe.0) hidden (subst (λ (d : Board). Turns d (board_holding g k x probe.0)) at kept)))
      (λ lost. absurd (not_same (event_determines_board single payload size (Turn g) a b probe.0 hidden (subst (λ (d : Board). Turns d probe.0) at lost))))
      (event_unread g k x law payload size (Turn g) (board_holding g k PROBE b) probe.0 (knows_on g k PROBE b left) (event_unread_on g k PROBE (Turn g) g k b (knows g k b left) (none g k left)) probe.1)
    where
      again_left : (g k : ℕ) (b : Board) → IsLeftOut g k b → board_holding g k LEFT_OUT b ≡ b
      again_left g k b left = sym (again_set g k 0 LEFT_OUT b (knows g k b left)) ∙ back_board g k 0 b left

  one_rests : (h k x : ℕ) (b : Board) → IsLeftOut h k b → ReadsNone (Turn g) b → AreProbed g b → Turns b b → Turns (board_holding h k x b) (board_holding h k x b)
  one_rests h k x b left none probes rests =
      either (same_number g h)
      (λ same.
      subst (λ (i : ℕ). Turns (board_holding i k x b) (board_holding i k x b)) same
      (own_by (subst (λ (i : ℕ). IsLeftOut i k b) (sym same) left)))
      (λ other. other_rests h k x b other rests)
    where
      own_by : IsLeftOut g k b → Turns (board_holding g k x b) (board_holding g k x b)
      own_by own =
          ⊎_elim
          (λ kept. kept)
          (λ hidden. own_rests k x b own none probes rests hidden)
          (event_unread g k x law payload size (Turn g) b b (knows g k b own) (none g k own) rests)

      other_rests : (h k x : ℕ) (b : Board) → (g ≡ h → ⊥) → Turns b b → Turns (board_holding h k x b) (board_holding h k x b)
      other_rests h k x (On l) other rests = other_turns h k x (not l.down) g l (On l) other rests
      other_rests h k x (Off s) other rests = refl
      other_rests h k x (Ended s) other rests = refl

  pub all_rest : (n : ℕ) (b d : Board) → Filled n b d → ReadsNone (Turn g) b → AreProbed g b → Turns b b → Turns d d
  all_rest zero b d is none probes rests = subst (λ (a : Board). Turns a a) (sym is) rests
  all_rest (suc n) b d filled none probes rests =
      let h = filled.0 in
      let k = filled.1 in
      let x = filled.2 in
      all_rest n (board_holding h k x b) d filled.4 (reads_none_on h k x (Turn g) b filled.3 none) (probed_on h k x b filled.3 none probes) (one_rests h k x b filled.3 none probes rests)
