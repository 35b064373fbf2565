-- What a turn leaves as it was: the hart's number, how many harts there are, and how large the memory is.
use Rattle.std.proofs.Common.{ℕ, Bool, true, false, List, ◌≡◌, ◌<◌, length, refl, sym, ap, ◌∙◌, subst, inl, inr, true≢false}
use Rattle.std.{specs.Prelude.{Ok, Err, Option, None, get_or, slice_set, not}, proofs.lemmas.Bool.cases_eq}
use Rattle.std.proofs.lemmas.List.{length-set, get_or-set_same, get_or-set_other, get_or_default}
use Rattle.board_model.specs.Shapes.{Size}
use Rattle.hart.specs.{State.{ArchState, never_started, started as fresh}, declared.Outcome.Outcome}
use Rattle.hart.specs.declared.Outcome.TheVariants as outcomes
use Rattle.hsm.specs.{States.{HartState, stopped, start_pending, started, suspended, grant}, Views.listed}
use Rattle.machine.{specs.{Held.AreNumbered, Machine.Machine, Turns.{DoneBy, DozeTurn, resumed}}, proofs.Asking.IsOneNumber}
use Rattle.sbi_abi.specs.Calls.{call_of}
use Rattle.sbi_calls.specs.{Answers.{row, Ends}, Both.TableState, Requests.{Checked, request_of}, declared.endings.Ending.Ending}
use Rattle.sbi_calls.specs.declared.{endings.Ending.TheVariants.{Answers, Stops, Suspends, SuspendsAfresh, Defers}, words.Turned.Turned}
use Rattle.sbi_calls.specs.declared.requests.Request.TheVariants.{Value, Start, Stop, Status, Suspend, SuspendAfresh, Send, Command}
use Rattle.sbi_calls.specs.declared.words.{Did.TheVariants.Resumed, Turned.TheVariants.Made}
use Rattle.susp.specs.declared.buses.Doze.{Doze}
use Rattle.turns.specs.Turns.{Moment, moment, has_pending, after_take, woken_turn, begun_by, Finishes, TurnAs, TurnOf}
use Rattle.model_board.{specs.Plain.IsPlain, proofs.Frames.step_long}

pub record Kept (a b : Moment) : Type 0 where
  pub number : b.hart.id ≡ a.hart.id
  pub states : length b.table.states ≡ length a.table.states
  pub memory : length b.memory ≡ length a.memory

row_long : (by : ℕ) (asked : Checked) (t : TableState) → length (row by asked t).table.states ≡ length t.states
row_long by (Err e) t = refl
row_long by (Ok (Value v)) t = refl
row_long by (Ok (Start h a o)) t = length-set t.states h (grant a o (listed t.states h))
row_long by (Ok Stop) t = length-set t.states by stopped
row_long by (Ok (Status h)) t = refl
row_long by (Ok Suspend) t = length-set t.states by suspended
row_long by (Ok (SuspendAfresh a o)) t = length-set t.states by suspended
row_long by (Ok (Send targets)) t = refl
row_long by (Ok Command) t = refl

ends_number : (end : Ending) (u v : ArchState) (word : Turned) → Ends end u v word → v.id ≡ u.id
ends_number (Answers a) u v word x = ap (λ (s : ArchState). s.id) x.0
ends_number Stops u v word x = ap (λ (s : ArchState). s.id) x.0
ends_number Suspends u v word x = ap (λ (s : ArchState). s.id) x.0
ends_number (SuspendsAfresh a o) u v word x = ap (λ (s : ArchState). s.id) x.0
ends_number Defers u v word x = ap (λ (s : ArchState). s.id) x.0

finish_kept : (size : Size) (o : Outcome) (x y : TableState) (u v : ArchState) (word : Turned) → Finishes size o x u y v word → (v.id ≡ u.id) × (length y.states ≡ length x.states)
finish_kept size outcomes.Next x y u v word f = (ap (λ (s : ArchState). s.id) f.1, ap (λ (t : TableState). length t.states) f.0)
finish_kept size outcomes.TakePending x y u v word f = (ap (λ (s : ArchState). s.id) f.1, ap (λ (t : TableState). length t.states) f.0)
finish_kept size outcomes.Ecall x y u v word f =
    let asked : Checked = request_of size (call_of u) in
    (ends_number (row u.id asked x).ending u v word f.0, ap (λ (t : TableState). length t.states) f.1 ∙ row_long u.id asked x)

kept_as : (a b c : Moment) → b ≡ c → Kept a c → Kept a b
kept_as a b c e k = subst (λ (m : Moment). Kept a m) (sym e) k

woken_kept : (size : Size) (woken : Bool) (a b : Moment) (word : Turned) → TurnAs size (woken_turn woken a.hart.id a.table).ready (woken_turn woken a.hart.id a.table).table a b word → Kept a b
woken_kept size true a b word x = kept_as a b _ x.0 (record { number = refl; states = length-set a.table.states a.hart.id started; memory = refl })
woken_kept size false a b word x = kept_as a b _ x.0 (record { number = refl; states = refl; memory = refl })

turn_kept_by : IsOneNumber → (size : Size) (state : HartState) (a b : Moment) (word : Turned) → TurnAs size (begun_by a.hart.id a.table state).ready (begun_by a.hart.id a.table state).table a b word → Kept a b
turn_kept_by one size stopped a b word x = kept_as a b _ x.0 (record { number = refl; states = refl; memory = refl })
turn_kept_by one size (start_pending site opaque) a b word x = kept_as a b _ x.0 (record { number = refl; states = length-set a.table.states a.hart.id started; memory = refl })
turn_kept_by one size started a b word x =
    let p : Bool = has_pending a.hart.id a.table.pairs in
    let f = finish_kept size x.1 a.table b.table x.0 b.hart word x.3 in
    record {
      number = f.0 ∙ one p a.hart x.0 a.memory b.memory x.1 x.2;
      states = f.1;
      memory = step_long p a.hart x.0 a.memory b.memory x.1 x.2;
    }
turn_kept_by one size suspended a b word x = woken_kept size (has_pending a.hart.id a.table.pairs) a b word x

pub turn_kept : IsOneNumber → (size : Size) (a b : Moment) (word : Turned) → TurnOf size a b word → Kept a b
turn_kept one size a b word x = turn_kept_by one size (listed a.table.states a.hart.id) a b word x

-- the machine that the fields show
abbrev pub shown : Size → List ℕ → Option Doze → List ArchState → TableState → Machine
shown size memory doze harts table = record { size = size; memory = memory; doze = doze; harts = harts; table = table }

-- ---- a hart in its place
pub numbered_with : (harts : List ArchState) (i : ℕ) (y : ArchState) → AreNumbered harts → i < length harts → y.id ≡ i → AreNumbered (slice_set harts i y)
numbered_with harts i y numbered low is h below =
    let inside : h < length harts = subst (λ (n : ℕ). h < n) (length-set harts i y) below in
    elim (cases_eq h i) [
      | inl e ↦ subst (λ (k : ℕ). (get_or (slice_set harts i y) k (never_started k)).id ≡ k) (sym e) (ap (λ (s : ArchState). s.id) (get_or-set_same harts i y (never_started i) low) ∙ is)
      | inr other ↦ ap (λ (s : ArchState). s.id) (get_or-set_other harts i h y (never_started h) other) ∙ numbered h inside
    ]

pub hart_is : (harts : List ArchState) (i h : ℕ) (x : ArchState) → i ≡ h → h < length harts → x ≡ get_or harts i x → x ≡ get_or harts h (never_started h)
hart_is harts i h x at low e = e ∙ (ap (λ (k : ℕ). get_or harts k x) at ∙ get_or_default harts h x (never_started h) low)

pub number_is : (harts : List ArchState) (i h : ℕ) (x : ArchState) → AreNumbered harts → i ≡ h → h < length harts → x ≡ get_or harts i x → x.id ≡ h
number_is harts i h x numbered at low e = ap (λ (s : ArchState). s.id) (hart_is harts i h x at low e) ∙ numbered h low

-- what is there, with another hart, tables and memory
pub plain_with : (size : Size) (memory n : List ℕ) (doze : Option Doze) (old : Machine) (harts : List ArchState) (table t : TableState) (i h : ℕ) (x y : ArchState) → shown size memory doze harts table ≡ old → IsPlain size memory harts table → i ≡ h → h < old.size.harts → x ≡ get_or harts i x → y.id ≡ x.id → length t.states ≡ length table.states → length n ≡ length memory → IsPlain size n (slice_set harts i y) t
plain_with size memory n doze old harts table t i h x y view p at below e number states long =
    let low : h < size.harts = subst (λ (m : Machine). h < m.size.harts) (sym view) below in
    let inside : h < length harts = subst (λ (k : ℕ). h < k) (sym p.long) low in
    let there : i < length harts = subst (λ (k : ℕ). k < length harts) (sym at) inside in
    record {
      some = p.some;
      few = p.few;
      room = long ∙ p.room;
      long = length-set harts i y ∙ p.long;
      numbered = numbered_with harts i y p.numbered there (number ∙ (number_is harts i h x p.numbered at inside e ∙ sym at));
      states = states ∙ p.states;
    }

pub own_done : (size : Size) (memory n : List ℕ) (doze : Option Doze) (harts : List ArchState) (table t : TableState) (old : Machine) (i h : ℕ) (x y : ArchState) (word : Turned) → shown size memory doze harts table ≡ old → IsPlain size memory harts table → i ≡ h → h < old.size.harts → x ≡ get_or harts i x
    → TurnOf size (moment table x memory) (moment t y n) word → DoneBy (λ a b. TurnOf old.size a b word) h old (shown size n doze (slice_set harts i y) t)
own_done size memory n doze harts table t old i h x y word view p at low e turn =
    let lower : h < size.harts = subst (λ (m : Machine). h < m.size.harts) (sym view) low in
    let inside : h < length harts = subst (λ (k : ℕ). h < k) (sym p.long) lower in
    let did : TurnOf size (moment table (get_or harts h (never_started h)) memory) (moment t y n) word = subst (λ (s : ArchState). TurnOf size (moment table s memory) (moment t y n) word) (hart_is harts i h x at inside e) turn in
    subst (λ (m : Machine). DoneBy (λ a b. TurnOf m.size a b word) h m (shown size n doze (slice_set harts i y) t)) view
    (moment t y n, did, ap (λ (k : ℕ). shown size n doze (slice_set harts k y) t) at)

-- ---- the hart of a doze begins again
not_not : (b : Bool) → not b ≡ false → true ≡ b
not_not true e = refl
not_not false e = absurd (true≢false e)

module _ (size : Size) (memory : List ℕ) (doze : Option Doze) (harts : List ArchState) (table t : TableState) (old : Machine) (d : Doze) (i h : ℕ) (y : ArchState)
    (view : shown size memory doze harts table ≡ old) (p : IsPlain size memory harts table) (at : i ≡ h) (below : h < old.size.harts)
    (hart : y ≡ fresh h d.at.address d.at.opaque) (take : t ≡ after_take table h) where
  inside : h < length harts
  inside = subst (λ (k : ℕ). h < k) (sym p.long) (subst (λ (m : Machine). h < m.size.harts) (sym view) below)

  pub doze_plain : IsPlain size memory (slice_set harts i y) t
  doze_plain = record {
    some = p.some;
    few = p.few;
    room = p.room;
    long = length-set harts i y ∙ p.long;
    numbered = numbered_with harts i y p.numbered (subst (λ (k : ℕ). k < length harts) (sym at) inside) (ap (λ (x : ArchState). x.id) hart ∙ sym at);
    states = ap (λ (x : TableState). length x.states) take ∙ p.states;
  }

  begun : shown size memory None (slice_set harts i y) t ≡ resumed d h old
  begun =
      let number : h ≡ (get_or harts h (never_started h)).id = sym (p.numbered h inside) in
      ap (λ (k : ℕ). shown size memory None (slice_set harts k y) t) at
      ∙ (ap (λ (s : ArchState). shown size memory None (slice_set harts h s) t) hart
      ∙ (ap (λ (u : TableState). shown size memory None (slice_set harts h (fresh h d.at.address d.at.opaque)) u) take
      ∙ (ap (λ (k : ℕ). shown size memory None (slice_set harts h (fresh k d.at.address d.at.opaque)) (after_take table k)) number
      ∙ ap (λ (m : Machine). resumed d h m) view)))

  pub doze_done : not d.woken ≡ false → DozeTurn d.woken d h old (shown size memory None (slice_set harts i y) t) (Made Resumed)
  doze_done e =
      let turn : DozeTurn true d h old (shown size memory None (slice_set harts i y) t) (Made Resumed) = (begun, refl) in
      subst (λ (b : Bool). DozeTurn b d h old (shown size memory None (slice_set harts i y) t) (Made Resumed)) (not_not d.woken e) turn
