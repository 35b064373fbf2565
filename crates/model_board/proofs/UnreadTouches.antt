-- What a turn touches, and whether it is local, does not depend on a register that it does not read.
use Rattle.std.proofs.Common.{ℕ, Bool, ◌≡◌, ◌⊎◌, inl, inr, ◌<◌, List, length, Option, Some, None, refl, sym, ap, ◌∙◌, subst, length-set}
use Rattle.std.{proofs.lemmas.List.get_or-set_same, specs.Prelude.Ok}
use Rattle.board_model.specs.Shapes.{Size}
use Rattle.hart.{specs.{State.{ArchState, never_started}, Means.{Steps, sum, load_bytes, store_bytes, word_at}}, proofs.Obeyed.HasOne}
use Rattle.hart.proofs.Decided.{either, same_number}
use Rattle.turns.specs.Turns.{has_pending}
use Rattle.hart.specs.declared.Outcome.TheVariants as outcomes
use Rattle.hsm.specs.{States.started, Views.listed}
use Rattle.rv_decode.specs.{Spells.{spells, Reads}, declared.{instr.Instr.Instr, ops.SystemOp.TheVariants.Ecall}}
use Rattle.rv_decode.specs.declared.instr.Instr.TheVariants as instr
use Rattle.sbi_abi.specs.declared.call.Call.{Call}
use Rattle.sbi_calls.specs.{Requests.request_of, declared.requests.Request.TheVariants.Send}
use Rattle.machine.specs.Machine.{Machine, hart_at}
use Rattle.model_board.specs.{Boards.{Life, Board, On, Off, Ended}, Events.{Event, Turn, Refused, Wake, Cut, PowerOn}}
use Rattle.model_board.specs.Touches.{Fetches, ComesTo, Accesses, ReadsWord, WritesWord, SendsTo, ReadsPending}
use Rattle.model_board.specs.Maps.{Map, StepKeeps, KeepsMap, Keeps, pending_at, IsSure, StepsAlone, MovesAlone, Local, moved}
use Rattle.model_board.specs.Registers.{with_register, machine_holding, board_holding, IsRead, IsUnread, IsOfCall, TurnUnread, TurnsUnread, EventUnread, KnowsHart, MovesPc}
use Rattle.model_board.proofs.Unread.{map_sum, read_other, called, step_unread}
use Rattle.model_board.proofs.UnreadEvents.{own_hart, other_hart, set_own, set_hidden, set_other}

-- no instruction that the word is written as reads it
none_read : HasOne → (d : Option Instr) (k w : ℕ) (i : Instr) → Reads d w → IsUnread d k → spells i w → IsRead i k → ⊥
none_read one None k w i reads none spelled = absurd (reads i spelled)
none_read one (Some j) k w i reads none spelled = subst (λ (a : Instr). IsRead a k → ⊥) (one j i w reads spelled) none

module _ (one : HasOne) (k x : ℕ) (s : ArchState) (m : List ℕ) (d : Option Instr) (reads : Reads d (word_at m s.pc)) (none : IsUnread d k) where
  abbrev V : ArchState
  V = with_register k x s

  fetches : (p : Bool) → Fetches p V m → Fetches p s m
  fetches p y = record { calm = y.calm; aligned = y.aligned; inside = y.inside }

  comes : (p : Bool) (i : Instr) → ComesTo p V m i → ComesTo p s m i
  comes p i y = record { fetches = fetches p y.fetches; spelled = y.spelled }

  reads_word : (p : Bool) (n : ℕ) → ReadsWord p V m n → ReadsWord p s m n
  reads_word p n (inl y) = inl (fetches p y.0, y.1)
  reads_word p n (inr y) =
      inr (record {
        op = y.op;
        rd = y.rd;
        rs1 = y.rs1;
        imm = y.imm;
        comes = comes p (instr.Load y.op y.rd y.rs1 y.imm) y.comes;
        accesses = subst (λ (a : ℕ). Accesses m (sum a y.imm) (load_bytes y.op) n) (read_other k x s y.rs1 (none_read one d k (word_at m s.pc) (instr.Load y.op y.rd y.rs1 y.imm) reads none y.comes.spelled)) y.accesses;
      })

  writes_word : (p : Bool) (n : ℕ) → WritesWord p V m n → WritesWord p s m n
  writes_word p n y =
      let unread : IsRead (instr.Store y.op y.rs1 y.rs2 y.imm) k → ⊥ = none_read one d k (word_at m s.pc) (instr.Store y.op y.rs1 y.rs2 y.imm) reads none y.comes.spelled in
      record {
        op = y.op;
        rs1 = y.rs1;
        rs2 = y.rs2;
        imm = y.imm;
        comes = comes p (instr.Store y.op y.rs1 y.rs2 y.imm) y.comes;
        accesses = subst (λ (a : ℕ). Accesses m (sum a y.imm) (store_bytes y.op) n) (read_other k x s y.rs1 (λ e. unread (inl e))) y.accesses;
      }

  sends_to : (size : Size) (p : Bool) (t : ℕ) → SendsTo size p V m t → SendsTo size p s m t
  sends_to size p t y =
      let unread : IsOfCall k → ⊥ = none_read one d k (word_at m s.pc) (instr.System Ecall) reads none y.comes.spelled in
      record {
        comes = comes p (instr.System Ecall) y.comes;
        targets = y.targets;
        asks = subst (λ (call : Call). request_of size call ≡ Ok (Send y.targets)) (called k x s unread) y.asks;
        named = y.named;
      }

  asks_pending : (p : Bool) → ReadsPending p V m → ReadsPending p s m
  asks_pending p (inl opened) = inl opened
  asks_pending p (inr y) =
      inr (record { op = y.op; rd = y.rd; source = y.source; comes = map_sum (λ c. comes p _ c) (λ c. comes p _ c) y.comes })

  step_keeps : (map : Map) (h : ℕ) (size : Size) (p : Bool) → StepKeeps map h size p s m → StepKeeps map h size p V m
  step_keeps map h size p y = record {
    reads = λ n touched. y.reads n (reads_word p n touched);
    writes = λ n touched. y.writes n (writes_word p n touched);
    sends = λ t touched. y.sends t (sends_to size p t touched);
  }

  sure : (map : Map) (h : ℕ) (p : Bool) → IsSure map h p s m → IsSure map h p V m
  sure map h p (inl taken) = inl taken
  sure map h p (inr (inl never)) = inr (inl (λ y. never (asks_pending p y)))
  sure map h p (inr (inr hears)) = inr (inr hears)

  steps_alone : (map : Map) (h : ℕ) (p : Bool) (t : ArchState) (n : List ℕ) → StepsAlone map h p s m t n → StepsAlone map h p V m (with_register k x t) n ⊎ StepsAlone map h p V m t n
  steps_alone map h p t n y = map_sum (λ step. at step) (λ step. at step) (step_unread k x one d p s t m n outcomes.Next reads none y.step)
    where
      at : {u : ArchState} → Steps p V m u n outcomes.Next → StepsAlone map h p V m u n
      at step = record {
        step = step;
        reads = λ a touched. y.reads a (reads_word p a touched);
        writes = λ a touched. y.writes a (writes_word p a touched);
        sure = sure map h p y.sure;
      }

-- ---- of a board
module _ (one : HasOne) (map : Map) (h k x : ℕ) where
  own_keeps : (m : Machine) → h < length m.harts → TurnUnread h k m → KeepsMap map h m → KeepsMap map h (machine_holding h k x m)
  own_keeps m has none y =
      let is : hart_at (machine_holding h k x m) h ≡ with_register k x (hart_at m h) = own_hart h k x m has in
      let id : (hart_at (machine_holding h k x m) h).id ≡ (hart_at m h).id = ap (λ (s : ArchState). s.id) is in
      record {
        numbered = id ∙ y.numbered;
        step = λ runs.
            subst (λ (s : ArchState). StepKeeps map h m.size (has_pending s.id m.table.pairs) s m.memory) (sym is)
            (step_keeps one k x (hart_at m h) m.memory none.0 none.1 none.2 map h m.size (pending_at h m) (y.step (subst (λ (i : ℕ). listed m.table.states i ≡ started) id runs)));
      }

  other_keeps : (m : Machine) (g : ℕ) → (g ≡ h → ⊥) → KeepsMap map g m → KeepsMap map g (machine_holding h k x m)
  other_keeps m g apart y =
      let is : hart_at (machine_holding h k x m) g ≡ hart_at m g = other_hart h k x m g apart in
      record {
        numbered = ap (λ (s : ArchState). s.id) is ∙ y.numbered;
        step = λ runs.
            subst (λ (s : ArchState). StepKeeps map g m.size (has_pending s.id m.table.pairs) s m.memory) (sym is)
            (y.step (subst (λ (s : ArchState). listed m.table.states s.id ≡ started) is runs));
      }

  any_keeps : (m : Machine) (g : ℕ) → h < length m.harts → (g ≡ h → TurnUnread h k m) → KeepsMap map g m → KeepsMap map g (machine_holding h k x m)
  any_keeps m g has none y =
      either (same_number g h)
      (λ same. subst (λ (i : ℕ). KeepsMap map i (machine_holding h k x m)) (sym same) (own_keeps m has (none same) (subst (λ (i : ℕ). KeepsMap map i m) same y)))
      (λ apart. other_keeps m g apart y)

  pub keeps_unread : (e : Event) (b : Board) → KnowsHart h b → EventUnread e h k b → Keeps map e b → Keeps map e (board_holding h k x b)
  keeps_unread (Turn g) (On l) has none y = any_keeps l.machine g has none y
  keeps_unread (Refused g down) (On l) has none y = any_keeps l.machine g has none y
  keeps_unread Wake (On l) has none y = y
  keeps_unread Cut (On l) has none y = y
  keeps_unread PowerOn (On l) has none y = y
  keeps_unread e (Off s) has none y = y
  keeps_unread e (Ended s) has none y = y

  -- ---- local turns
  abbrev Moved : ℕ → Machine → ArchState → List ℕ → Machine → Type 0
  Moved g m t n after = (u : ArchState) × MovesAlone map g (machine_holding h k x m) u n × (moved g u n (machine_holding h k x m) ≡ after)

  own_moves : (m : Machine) (t u : ArchState) (n : List ℕ) → h < length m.harts → MovesAlone map h m t n → u.pc ≡ t.pc → (t.pc ≡ (hart_at m h).pc → ⊥) → StepsAlone map h (pending_at h m) (with_register k x (hart_at m h)) m.memory u n → MovesAlone map h (machine_holding h k x m) u n
  own_moves m t u n has y same moves alone =
      let is : hart_at (machine_holding h k x m) h ≡ with_register k x (hart_at m h) = own_hart h k x m has in
      let id : (hart_at (machine_holding h k x m) h).id ≡ (hart_at m h).id = ap (λ (s : ArchState). s.id) is in
      record {
        numbered = id ∙ y.numbered;
        known = subst (λ (i : ℕ). h < i) (sym (length-set m.harts h (with_register k x (hart_at m h)))) y.known;
        counted = y.counted;
        awake = y.awake;
        runs = ap (λ (i : ℕ). listed m.table.states i) id ∙ y.runs;
        alone = subst (λ (s : ArchState). StepsAlone map h (has_pending s.id m.table.pairs) s m.memory u n) (sym is) alone;
        changes = λ e _. moves (sym same ∙ ap (λ (s : ArchState). s.pc) e ∙ ap (λ (s : ArchState). s.pc) is);
      }

  own_local : (m : Machine) (t : ArchState) (n : List ℕ) → h < length m.harts → TurnUnread h k m → (t.pc ≡ (hart_at m h).pc → ⊥) → MovesAlone map h m t n → Moved h m t n (machine_holding h k x (moved h t n m)) ⊎ Moved h m t n (moved h t n m)
  own_local m t n has none moves y =
      map_sum
      (λ alone. (
        with_register k x t,
        own_moves m t (with_register k x t) n has y refl moves alone,
        ap (λ (harts : List ArchState). record m { memory = n; harts = harts }) (set_own h k x m t has),
      ))
      (λ alone. (
        t,
        own_moves m t t n has y refl moves alone,
        ap (λ (harts : List ArchState). record m { memory = n; harts = harts }) (set_hidden h k x m t),
      ))
      (steps_alone one k x (hart_at m h) m.memory none.0 none.1 none.2 map h (pending_at h m) t n y.alone)

  other_local : (m : Machine) (g : ℕ) (t : ArchState) (n : List ℕ) → (g ≡ h → ⊥) → MovesAlone map g m t n → Moved g m t n (machine_holding h k x (moved g t n m))
  other_local m g t n apart y =
      let is : hart_at (machine_holding h k x m) g ≡ hart_at m g = other_hart h k x m g apart in (
        t,
        record {
          numbered = ap (λ (s : ArchState). s.id) is ∙ y.numbered;
          known = subst (λ (i : ℕ). g < i) (sym (length-set m.harts h (with_register k x (hart_at m h)))) y.known;
          counted = y.counted;
          awake = y.awake;
          runs = ap (λ (s : ArchState). listed m.table.states s.id) is ∙ y.runs;
          alone = subst (λ (s : ArchState). StepsAlone map g (has_pending s.id m.table.pairs) s m.memory t n) (sym is) y.alone;
          changes = λ e same. y.changes (e ∙ is) same;
        },
        ap (λ (harts : List ArchState). record m { memory = n; harts = harts }) (set_other h k x m g t apart),
      )

  on_life : (g : ℕ) (l : Life) (t : ArchState) (n : List ℕ) (after : Machine) (c : Life) → c ≡ record l { machine = after } → Moved g l.machine t n after → Local map g (On (record l { machine = machine_holding h k x l.machine })) (On c)
  on_life g l t n after c is y =
      (y.0, n, y.1, is ∙ ap (λ (m : Machine). record l { machine = m }) (sym y.2))

  any_local : (g : ℕ) (l c : Life) → h < length l.machine.harts → (g ≡ h → TurnUnread h k l.machine) → ((hart_at c.machine g).pc ≡ (hart_at l.machine g).pc → ⊥) → Local map g (On l) (On c) → Local map g (board_holding h k x (On l)) (board_holding h k x (On c)) ⊎ Local map g (board_holding h k x (On l)) (On c)
  any_local g l c has none moves y =
      let m = l.machine in
      let t : ArchState = y.0 in
      let n : List ℕ = y.1 in
      let there : hart_at c.machine g ≡ t = ap (λ (a : Life). hart_at a.machine g) y.3 ∙ get_or-set_same m.harts g t (never_started g) y.2.known in
      either (same_number g h)
      (λ same.
      map_sum
      (λ made. on_life g l t n (machine_holding h k x (moved g t n m)) (record c { machine = machine_holding h k x c.machine }) (ap (λ (a : Life). record a { machine = machine_holding h k x a.machine }) y.3) made)
      (λ made. on_life g l t n (moved g t n m) c y.3 made)
      (subst (λ (i : ℕ). Moved i m t n (machine_holding h k x (moved i t n m)) ⊎ Moved i m t n (moved i t n m)) (sym same)
      (own_local m t n has (none same) (λ e. moves (ap (λ (s : ArchState). s.pc) there ∙ e ∙ ap (λ (i : ℕ). (hart_at m i).pc) (sym same))) (subst (λ (i : ℕ). MovesAlone map i m t n) same y.2))))
      (λ apart. inl (on_life g l t n (machine_holding h k x (moved g t n m)) (record c { machine = machine_holding h k x c.machine }) (ap (λ (a : Life). record a { machine = machine_holding h k x a.machine }) y.3) (other_local m g t n apart y.2)))

  pub local_unread : (g : ℕ) (b c : Board) → KnowsHart h b → TurnsUnread g h k b → MovesPc g b c → Local map g b c → Local map g (board_holding h k x b) (board_holding h k x c) ⊎ Local map g (board_holding h k x b) c
  local_unread g (On l) (On c) has none moves y = any_local g l c has none moves y
  local_unread g (On l) (Off s) has none moves y = absurd y
  local_unread g (On l) (Ended s) has none moves y = absurd y
  local_unread g (Off s) c has none moves y = absurd y
  local_unread g (Ended s) c has none moves y = absurd y
