-- An event that reads not a register of a hart does the same to a board whatever it holds.
use Rattle.std.proofs.Common.{ℕ, Bool, true, false, ◌≡◌, ◌⊎◌, ⊎_elim, inl, inr, ◌<◌, List, length, Option, Some, None, Result, Ok, Err, refl, sym, ap, ◌∙◌, subst, length-set}
use Rattle.std.{proofs.lemmas.List.{set-set, set_comm, get_or-set_same, get_or-set_other}, specs.Prelude.{slice_set, not}}
use Rattle.board_model.specs.{Shapes.Size, declared.durable.Reason.Reason}
use Rattle.hart.specs.{State.{ArchState, never_started, answered, started as fresh}, Means.{Steps, word_at}, declared.Outcome.Outcome}
use Rattle.hart.proofs.{Decided.{either, same_number}, Obeyed.HasOne}
use Rattle.hart.specs.declared.Outcome.TheVariants as outcomes
use Rattle.rv_decode.specs.{Spells.Reads, declared.instr.Instr.Instr}
use Rattle.sbi_abi.specs.{Answers.error_of, Calls.call_of, declared.{call.Call.Call, ret.SbiError.SbiError}}
use Rattle.sbi_abi.specs.declared.ret.SbiError.TheVariants.{Failed, NotSupported, Denied}
use Rattle.sbi_abi.specs.declared.call.Call.TheVariants as calls
use Rattle.sbi.specs.{Resets.reset_of, declared.resets.ResetType.{ResetType, TheVariants.{Shutdown, ColdReboot}}}
use Rattle.sbi_calls.specs.{Both.TableState, declared.words.Turned.{Turned, TheVariants.{Made, Durable}}}
use Rattle.susp.specs.{Dozes.doze_of, declared.{buses.Doze.Doze, sleeps.Sleep.{Sleep, TheVariants.{ToRam, ToDisk}}}}
use Rattle.turns.specs.{declared.readies.Ready.Ready, Turns.{Moment, moment, Finishes, TurnAs, TurnOf, turn_begun, after_take}}
use Rattle.turns.specs.declared.readies.Ready.TheVariants as readies
use Rattle.machine.specs.{Machine.{Machine, hart_at}, Turns.{MakesTurn, TurnBy, DozeTurn, moment_of, resumed}}
use Rattle.model_board.specs.Boards.{Standing, Life, Board, On, Off, Ended}
use Rattle.model_board.specs.Events.{Event, Turn, Refused, Wake, Cut, PowerOn, Does, TurnsBy, ToldBy, Asks}
use Rattle.model_board.specs.Held.{HeldBy, SleptBy, AsksStore, reset_by, after_reset, slept_by, refused, with_hart}
use Rattle.model_board.specs.Registers.{with_register, holding, machine_holding, board_holding, IsUnread, IsOfCall, TurnUnread, EventUnread, KnowsHart}
use Rattle.model_board.proofs.Unread.{map_sum, turn_unread, call_unread, answers, called}

-- a durable call is an ECALL, which reads the registers of its call
durable_by : (k : ℕ) (size : Size) (ready : Ready) (table : TableState) (d : Option Instr) (a b : Moment) (word : Turned) → word ≡ Durable → Reads d (word_at a.memory a.hart.pc) → IsUnread d k → TurnAs size ready table a b word → IsOfCall k → ⊥
durable_by k size readies.Idle table d a b word is reads none y of_call = let e = sym is ∙ y.1 in absurd (cc)
durable_by k size readies.Woke table d a b word is reads none y of_call = let e = sym is ∙ y.1 in absurd (cc)
durable_by k size (readies.Enters site opaque) table d a b word is reads none y of_call = let e = sym is ∙ y.1 in absurd (cc)
durable_by k size (readies.Steps pending) table d a b word is reads none y of_call = by_outcome y.1 refl
  where
    by_outcome : (o : Outcome) → y.1 ≡ o → ⊥
    by_outcome outcomes.Next e = absurd (let f = subst (λ (o : Outcome). Finishes size o table y.0 b.table b.hart word) e y.3 in let g = sym is ∙ f.2 in cc)
    by_outcome outcomes.TakePending e = absurd (let f = subst (λ (o : Outcome). Finishes size o table y.0 b.table b.hart word) e y.3 in let g = sym is ∙ f.2 in cc)
    by_outcome outcomes.Ecall e = call_unread d k pending a.hart y.0 a.memory b.memory reads none (subst (λ (o : Outcome). Steps pending a.hart a.memory y.0 b.memory o) e y.2) of_call

durable_unread : (h k : ℕ) (m n : Machine) → TurnUnread h k m → MakesTurn h m n Durable → IsOfCall k → ⊥
durable_unread h k m n none y of_call = by_doze (doze_of h m.doze) y
  where
    by_woken : (b : Bool) (d : Doze) → DozeTurn b d h m n Durable → ⊥
    by_woken false d y = let e = y.1 in absurd (cc)
    by_woken true d y = let e = y.1 in absurd (cc)

    by_doze : (o : Option Doze) → TurnBy o h m n Durable → ⊥
    by_doze None y =
        let a = moment_of h m in
        durable_by k m.size (turn_begun a.hart.id a.table).ready (turn_begun a.hart.id a.table).table none.0 a y.0 Durable refl none.1 none.2 y.1 of_call
    by_doze (Some d) y = by_woken d.woken d y

-- register k of hart h holds x
module _ (h k x : ℕ) where
  abbrev W : ArchState → ArchState
  W s = with_register k x s

  abbrev R : Machine → Machine
  R m = machine_holding h k x m

  abbrev B : Board → Board
  B b = board_holding h k x b

  abbrev L : Life → Life
  L l = record l { machine = R l.machine }

  pub own_hart : (m : Machine) → h < length m.harts → hart_at (R m) h ≡ W (hart_at m h)
  own_hart m has = get_or-set_same m.harts h (W (hart_at m h)) (never_started h) has

  pub other_hart : (m : Machine) (g : ℕ) → (g ≡ h → ⊥) → hart_at (R m) g ≡ hart_at m g
  other_hart m g apart = get_or-set_other m.harts h g (W (hart_at m h)) (never_started g) apart

  -- hart h then stands so, or another one
  pub set_own : (m : Machine) (s : ArchState) → h < length m.harts → slice_set (R m).harts h (W s) ≡ (R (record m { harts = slice_set m.harts h s })).harts
  set_own m s has =
      set-set m.harts h (W (hart_at m h)) (W s)
      ∙ sym
      (ap (λ (u : ArchState). slice_set (slice_set m.harts h s) h (W u)) (get_or-set_same m.harts h s (never_started h) has)
      ∙ set-set m.harts h s (W s))

  pub set_hidden : (m : Machine) (s : ArchState) → slice_set (R m).harts h s ≡ slice_set m.harts h s
  set_hidden m s = set-set m.harts h (W (hart_at m h)) s

  pub set_other : (m : Machine) (g : ℕ) (s : ArchState) → (g ≡ h → ⊥) → slice_set (R m).harts g s ≡ (R (record m { harts = slice_set m.harts g s })).harts
  set_other m g s apart =
      set_comm m.harts h g (W (hart_at m h)) s (λ e. apart (sym e))
      ∙ ap (λ (u : ArchState). slice_set (slice_set m.harts g s) h (W u)) (sym (get_or-set_other m.harts g h s (never_started h) (λ e. apart (sym e))))

  abbrev with_harts : Machine → Moment → Option Doze → List ArchState → Machine
  with_harts m a doze harts =
      record { size = m.size; memory = a.memory; doze = doze; harts = harts; table = a.table }

  -- ---- a turn of hart h
  own_done : HasOne → (m n : Machine) (word : Turned) → h < length m.harts → TurnUnread h k m → TurnBy None h m n word → TurnBy None h (R m) (R n) word ⊎ TurnBy None h (R m) n word
  own_done one m n word has none y =
      let there : moment_of h (R m) ≡ holding k x (moment_of h m) = ap (λ (s : ArchState). moment m.table s m.memory) (own_hart m has) in
      map_sum
      (λ turn. (
        holding k x y.0,
        subst (λ (a : Moment). TurnOf m.size a (holding k x y.0) word) (sym there) turn,
        ap (λ (a : Machine). R a) y.2 ∙ ap (λ (l : List ArchState). with_harts m y.0 m.doze l) (sym (set_own m y.0.hart has)),
      ))
      (λ turn. (
        y.0,
        subst (λ (a : Moment). TurnOf m.size a y.0 word) (sym there) turn,
        y.2 ∙ ap (λ (l : List ArchState). with_harts m y.0 m.doze l) (sym (set_hidden m y.0.hart)),
      ))
      (turn_unread k x one m.size none.0 (moment_of h m) y.0 word none.1 none.2 y.1)

  abbrev begun_anew : Machine → Doze → ℕ → List ArchState → ℕ → Machine
  begun_anew m d g harts id =
      record {
        size = m.size;
        memory = m.memory;
        doze = None;
        harts = slice_set harts g (fresh id d.at.address d.at.opaque);
        table = after_take m.table id;
      }

  own_resumed : (m : Machine) (d : Doze) → h < length m.harts → resumed d h (R m) ≡ resumed d h m
  own_resumed m d has =
      ap (λ (i : ℕ). begun_anew m d h (R m).harts i) (ap (λ (s : ArchState). s.id) (own_hart m has))
      ∙ ap (λ (l : List ArchState). record (begun_anew m d h m.harts (hart_at m h).id) { harts = l }) (set_hidden m (fresh (hart_at m h).id d.at.address d.at.opaque))

  own_dozes : (b : Bool) (d : Doze) (m n : Machine) (word : Turned) → h < length m.harts → DozeTurn b d h m n word → DozeTurn b d h (R m) (R n) word ⊎ DozeTurn b d h (R m) n word
  own_dozes false d m n word has y = inl (ap (λ (a : Machine). R a) y.0, y.1)
  own_dozes true d m n word has y = inr (y.0 ∙ sym (own_resumed m d has), y.1)

  own_by : HasOne → (o : Option Doze) (m n : Machine) (word : Turned) → h < length m.harts → TurnUnread h k m → TurnBy o h m n word → TurnBy o h (R m) (R n) word ⊎ TurnBy o h (R m) n word
  own_by one None m n word has none y = own_done one m n word has none y
  own_by one (Some d) m n word has none y = own_dozes d.woken d m n word has y

  own_turn : HasOne → (m n : Machine) (word : Turned) → h < length m.harts → TurnUnread h k m → MakesTurn h m n word → MakesTurn h (R m) (R n) word ⊎ MakesTurn h (R m) n word
  own_turn one m n word has none y = own_by one (doze_of h m.doze) m n word has none y

  -- ---- a turn of another hart
  other_resumed : (m : Machine) (d : Doze) (g : ℕ) → (g ≡ h → ⊥) → resumed d g (R m) ≡ R (resumed d g m)
  other_resumed m d g apart =
      ap (λ (i : ℕ). begun_anew m d g (R m).harts i) (ap (λ (s : ArchState). s.id) (other_hart m g apart))
      ∙ ap (λ (l : List ArchState). record (begun_anew m d g m.harts (hart_at m g).id) { harts = l }) (set_other m g (fresh (hart_at m g).id d.at.address d.at.opaque) apart)

  other_by : (o : Option Doze) (m n : Machine) (word : Turned) (g : ℕ) → (g ≡ h → ⊥) → TurnBy o g m n word → TurnBy o g (R m) (R n) word
  other_by None m n word g apart y = (
    y.0,
    subst (λ (s : ArchState). TurnOf m.size (moment m.table s m.memory) y.0 word) (sym (other_hart m g apart)) y.1,
    ap (λ (a : Machine). R a) y.2 ∙ ap (λ (l : List ArchState). with_harts m y.0 m.doze l) (sym (set_other m g y.0.hart apart)),
  )
  other_by (Some d) m n word g apart y = by_woken d.woken y
    where
      by_woken : (b : Bool) → DozeTurn b d g m n word → DozeTurn b d g (R m) (R n) word
      by_woken false y = (ap (λ (a : Machine). R a) y.0, y.1)
      by_woken true y = (ap (λ (a : Machine). R a) y.0 ∙ sym (other_resumed m d g apart), y.1)

  other_turn : (m n : Machine) (word : Turned) (g : ℕ) → (g ≡ h → ⊥) → MakesTurn g m n word → MakesTurn g (R m) (R n) word
  other_turn m n word g apart y = other_by (doze_of g m.doze) m n word g apart y

  -- ---- a durable call
  -- the hart finds the error on either board
  abbrev Refuses : ℕ → Life → Type 0
  Refuses g l = (e : SbiError) → refused e g (L l) ≡ B (refused e g l)

  own_refuses : (l : Life) → h < length l.machine.harts → (IsOfCall k → ⊥) → Refuses h l
  own_refuses l has none e =
      let code : ℕ = error_of (Err e) in
      ap (λ (s : ArchState). On (record l { machine = with_hart h (R l.machine) (answered s code 0) })) (own_hart l.machine has)
      ∙ ap (λ (s : ArchState). On (record l { machine = with_hart h (R l.machine) s })) (answers k x (hart_at l.machine h) code 0 none)
      ∙ ap (λ (harts : List ArchState). On (record l { machine = record l.machine { harts = harts } })) (set_own l.machine (answered (hart_at l.machine h) code 0) has)

  other_refuses : (l : Life) (g : ℕ) → (g ≡ h → ⊥) → Refuses g l
  other_refuses l g apart e =
      let code : ℕ = error_of (Err e) in
      ap (λ (s : ArchState). On (record l { machine = with_hart g (R l.machine) (answered s code 0) })) (other_hart l.machine g apart)
      ∙ ap (λ (harts : List ArchState). On (record l { machine = record l.machine { harts = harts } })) (set_other l.machine g (answered (hart_at l.machine g) code 0) apart)

  is_off : (reset : ResetType) (s : Standing) → after_reset reset s ≡ B (after_reset reset s)
  is_off Shutdown s = refl
  is_off ColdReboot s = refl

  resets : (granted : Bool) (g : ℕ) (l : Life) (r : Result (ResetType × Reason) SbiError) → Refuses g l → reset_by granted g (L l) r ≡ B (reset_by granted g l r)
  resets granted g l (Err e) refuses = refuses e
  resets true g l (Ok reset) refuses = is_off reset.0 (record l.stands { reason = reset.1 })
  resets false g l (Ok reset) refuses = refuses Failed

  sleeps : (granted : Bool) (sleep : Sleep) (site opaque g : ℕ) (l : Life) → Refuses g l → slept_by granted sleep site opaque g (L l) ≡ B (slept_by granted sleep site opaque g l)
  sleeps granted ToRam site opaque g l refuses = refl
  sleeps true ToDisk site opaque g l refuses = refl
  sleeps false ToDisk site opaque g l refuses = refuses Failed

  on_both : (c d e : Board) → c ≡ d → e ≡ B d → B c ≡ e
  on_both c d e is same = ap (λ (b : Board). B b) is ∙ sym same

  slept : (granted : Bool) (g : ℕ) (l : Life) (asked : Result (Sleep × ℕ) SbiError) (opaque : ℕ) (c : Board) → Refuses g l → SleptBy granted g l asked opaque c → SleptBy granted g (L l) asked opaque (B c)
  slept granted g l (Err e) opaque c refuses y = on_both c _ _ y (refuses e)
  slept granted g l (Ok asked) opaque c refuses y =
      map_sum
      (λ busy. (busy.0, on_both c _ _ busy.1 (refuses Denied)))
      (λ alone. (alone.0, on_both c _ _ alone.1 (sleeps granted asked.0 asked.1 opaque g l refuses)))
      y

  held : (granted : Bool) (g : ℕ) (l : Life) (call : Call) (c : Board) → Refuses g l → HeldBy granted g l call c → HeldBy granted g (L l) call (B c)
  held granted g l (calls.SystemReset kind reason) c refuses y = on_both c _ _ y (resets granted g l (reset_of kind reason) refuses)
  held granted g l (calls.SystemSuspend kind address opaque) c refuses y =
      (y.0, y.1, slept granted g l y.0 opaque c refuses y.2)
  held granted g l call c refuses y = on_both c _ _ y (refuses NotSupported)

  -- ---- events
  own_told : (granted : Bool) (l : Life) (m : Machine) (word : Turned) (c : Board) → h < length m.harts → (word ≡ Durable → IsOfCall k → ⊥) → ToldBy granted h l m word c → ToldBy granted h (L l) (R m) word (B c)
  own_told granted l m (Made did) c has none y = ap (λ (b : Board). B b) y
  own_told granted l m Durable c has none y =
      let n : Life = record l { machine = m } in
      let same : call_of (hart_at (R m) h) ≡ call_of (hart_at m h) = ap (λ (s : ArchState). call_of s) (own_hart m has) ∙ called k x (hart_at m h) (none refl) in
      subst (λ (call : Call). HeldBy granted h (L n) call (B c)) (sym same) (held granted h n (call_of (hart_at m h)) c (own_refuses n has (none refl)) y)

  other_told : (granted : Bool) (g : ℕ) (l : Life) (m : Machine) (word : Turned) (c : Board) → (g ≡ h → ⊥) → ToldBy granted g l m word c → ToldBy granted g (L l) (R m) word (B c)
  other_told granted g l m (Made did) c apart y = ap (λ (b : Board). B b) y
  other_told granted g l m Durable c apart y =
      let n : Life = record l { machine = m } in
      subst (λ (s : ArchState). HeldBy granted g (L n) (call_of s) (B c)) (sym (other_hart m g apart)) (held granted g n (call_of (hart_at m g)) c (other_refuses n g apart) y)

  hidden_told : (granted : Bool) (l : Life) (m : Machine) (word : Turned) (c : Board) → ToldBy granted h l m word c → ToldBy granted h (L l) m word c
  hidden_told granted l m (Made did) c y = y
  hidden_told granted l m Durable c y = y

  long_by : (o : Option Doze) (g : ℕ) (m n : Machine) (word : Turned) → TurnBy o g m n word → length n.harts ≡ length m.harts
  long_by None g m n word y =
      ap (λ (a : Machine). length a.harts) y.2 ∙ length-set m.harts g y.0.hart
  long_by (Some d) g m n word y = by_woken d.woken y
    where
      by_woken : (b : Bool) → DozeTurn b d g m n word → length n.harts ≡ length m.harts
      by_woken false y = ap (λ (a : Machine). length a.harts) y.0
      by_woken true y =
          ap (λ (a : Machine). length a.harts) y.0
          ∙ length-set m.harts g (fresh (hart_at m g).id d.at.address d.at.opaque)

  own_turns : HasOne → (granted : Bool) (l : Life) (c : Board) → h < length l.machine.harts → TurnUnread h k l.machine → TurnsBy granted h l c → TurnsBy granted h (L l) (B c) ⊎ TurnsBy granted h (L l) c
  own_turns one granted l c has none y =
      let still : h < length y.0.harts = subst (λ (n : ℕ). h < n) (sym (long_by (doze_of h l.machine.doze) h l.machine y.0 y.1 y.2)) has in
      map_sum
      (λ made. (
        R y.0,
        y.1,
        made,
        own_told granted l y.0 y.1 c still (λ is. durable_unread h k l.machine y.0 none (subst (λ (word : Turned). MakesTurn h l.machine y.0 word) is y.2)) y.3,
      ))
      (λ made. (y.0, y.1, made, hidden_told granted l y.0 y.1 c y.3))
      (own_turn one l.machine y.0 y.1 has none y.2)

  pub other_turns : (granted : Bool) (g : ℕ) (l : Life) (c : Board) → (g ≡ h → ⊥) → TurnsBy granted g l c → TurnsBy granted g (L l) (B c)
  other_turns granted g l c apart y =
      (R y.0, y.1, other_turn l.machine y.0 y.1 g apart y.2, other_told granted g l y.0 y.1 c apart y.3)

  any_turns : HasOne → (granted : Bool) (g : ℕ) (l : Life) (c : Board) → h < length l.machine.harts → (g ≡ h → TurnUnread h k l.machine) → TurnsBy granted g l c → TurnsBy granted g (L l) (B c) ⊎ TurnsBy granted g (L l) c
  any_turns one granted g l c has none y =
      either (same_number g h)
      (λ same. subst (λ (i : ℕ). TurnsBy granted i (L l) (B c) ⊎ TurnsBy granted i (L l) c) (sym same) (own_turns one granted l c has (none same) (subst (λ (i : ℕ). TurnsBy granted i l c) same y)))
      (λ apart. inl (other_turns granted g l c apart y))

  asks_same : (g : ℕ) (m : Machine) (call : Call) → AsksStore g m call → AsksStore g (R m) call
  asks_same g m (calls.SystemReset kind reason) y = y
  asks_same g m (calls.SystemSuspend kind address opaque) y = y
  asks_same g m call y = absurd y

  own_asks : HasOne → (m : Machine) → h < length m.harts → TurnUnread h k m → Asks h m → Asks h (R m)
  own_asks one m has none y =
      let still : h < length y.0.harts = subst (λ (n : ℕ). h < n) (sym (long_by (doze_of h m.doze) h m y.0 Durable y.1)) has in
      let unread : IsOfCall k → ⊥ = durable_unread h k m y.0 none y.1 in
      let same : call_of (hart_at (R y.0) h) ≡ call_of (hart_at y.0 h) = ap (λ (s : ArchState). call_of s) (own_hart y.0 still) ∙ called k x (hart_at y.0 h) unread in
      ⊎_elim
      (λ made. (R y.0, made, subst (λ (call : Call). AsksStore h (R y.0) call) (sym same) (asks_same h y.0 (call_of (hart_at y.0 h)) y.2)))
      (λ made. (y.0, made, y.2))
      (own_turn one m y.0 Durable has none y.1)

  other_asks : (g : ℕ) (m : Machine) → (g ≡ h → ⊥) → Asks g m → Asks g (R m)
  other_asks g m apart y = (
    R y.0,
    other_turn m y.0 Durable g apart y.1,
    subst (λ (s : ArchState). AsksStore g (R y.0) (call_of s)) (sym (other_hart y.0 g apart)) (asks_same g y.0 (call_of (hart_at y.0 g)) y.2),
  )

  any_asks : HasOne → (g : ℕ) (m : Machine) → h < length m.harts → (g ≡ h → TurnUnread h k m) → Asks g m → Asks g (R m)
  any_asks one g m has none y =
      either (same_number g h)
      (λ same. subst (λ (i : ℕ). Asks i (R m)) (sym same) (own_asks one m has (none same) (subst (λ (i : ℕ). Asks i m) same y)))
      (λ apart. other_asks g m apart y)

  pub event_unread : HasOne → (payload : List ℕ) (size : Size) (e : Event) (b c : Board) → KnowsHart h b → EventUnread e h k b → Does payload size e b c → Does payload size e (B b) (B c) ⊎ Does payload size e (B b) c
  event_unread one payload size (Turn g) (On l) c has none y = any_turns one (not l.down) g l c has none y
  event_unread one payload size (Refused g down) (On l) c has none y =
      let asks = any_asks one g l.machine has none y.1 in
      map_sum (λ turns. (y.0, asks, turns)) (λ turns. (y.0, asks, turns)) (any_turns one false g (record l { down = down }) c has none y.2)
  event_unread one payload size Wake (On l) c has none y = inl (y.0, ap (λ (a : Board). B a) y.1)
  event_unread one payload size Cut (On l) c has none y = inr y
  event_unread one payload size PowerOn (On l) c has none y = absurd y
  event_unread one payload size e (Off s) c has none y = inr y
  event_unread one payload size e (Ended s) c has none y = inr y
