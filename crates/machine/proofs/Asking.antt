-- A hart that is told to stand at a durable call is STARTED.
use Rattle.board_model.specs.{declared.call_words.CallWords.CallWords, Shapes.Size}
use Rattle.std.proofs.Common.{◌≡◌, ℕ, zero, suc, ◌<◌, Bool, true, false, List, Option, Some, None, Ok, Err, refl, sym, ap, ◌∙◌, subst, inl, inr}
use Rattle.std.{specs.Prelude.length, proofs.lemmas.List.{get_or-set_same, length-set}}
use Rattle.hart.specs.{State.{ArchState, never_started}, Means.Steps, declared.Outcome.Outcome}
use Rattle.hart.specs.declared.Outcome.TheVariants as outcomes
use Rattle.hsm.specs.{States.{HartState, stopped, start_pending, started, suspended}, Views.listed}
use Rattle.sbi_abi.specs.Calls.{call_of}
use Rattle.sbi_calls.specs.declared.requests.Request.TheVariants.{Value, Start, Stop, Status, Suspend, SuspendAfresh, Send, Command}
use Rattle.sbi_calls.specs.{Both.TableState, Requests.{Checked, request_of}, Answers.{row, Ends}, declared.words.{Turned.Turned, Did.Did}}
use Rattle.sbi_calls.specs.declared.words.{Turned.TheVariants.{Made, Durable}, Did.TheVariants.Next}
use Rattle.turns.specs.Turns.{Moment, has_pending, woken_turn, begun_by, Finishes, TurnAs, TurnOf}
use Rattle.susp.specs.{Dozes.doze_of, declared.buses.Doze.Doze}
use Rattle.machine.{specs.{Machine.{Machine, hart_at}, Durables.StandsAtCall}, proofs.{Determined.is_decided, Rows.turns_as_many}}
use Rattle.machine.specs.Turns.{moment_of, with_moment, TurnBy, DozeTurn, CallBy, MakesTurn, MakesRow, MakesOneCall, calling}

-- a step leaves the hart's number
abbrev pub IsOneNumber : Type 0
IsOneNumber = (p : Bool) (s t : ArchState) (m n : List ℕ) (o : Outcome) → Steps p s m t n o → t.id ≡ s.id

-- ---- a call that is told durable leaves the tables and the hart
-- what was made is not left at such a call
not_made : (word : Turned) (did : Did) → word ≡ Made did → word ≡ Durable → ⊥
not_made word did e w = let z : Made did ≡ Durable = sym e ∙ w in let n : ⊥ = cc in n

defers : (by : ℕ) (asked : Checked) (t : TableState) (u v : ArchState) → Ends (row by asked t).ending u v Durable → ((row by asked t).table ≡ t) × (v ≡ u)
defers by (Err e) t u v p = absurd (not_made Durable _ p.1 refl)
defers by (Ok (Value n)) t u v p = absurd (not_made Durable _ p.1 refl)
defers by (Ok (Start h a o)) t u v p = absurd (not_made Durable _ p.1 refl)
defers by (Ok Stop) t u v p = absurd (not_made Durable _ p.1 refl)
defers by (Ok (Status h)) t u v p = absurd (not_made Durable _ p.1 refl)
defers by (Ok Suspend) t u v p = absurd (not_made Durable _ p.1 refl)
defers by (Ok (SuspendAfresh a o)) t u v p = absurd (not_made Durable _ p.1 refl)
defers by (Ok (Send targets)) t u v p = absurd (not_made Durable _ p.1 refl)
defers by (Ok Command) t u v p = (refl, p.0)

finished : (size : Size) (o : Outcome) (x y : TableState) (u v : ArchState) → Finishes size o x u y v Durable → (y ≡ x) × (v ≡ u)
finished size outcomes.Next x y u v p = absurd (not_made Durable _ p.2 refl)
finished size outcomes.TakePending x y u v p = absurd (not_made Durable _ p.2 refl)
finished size outcomes.Ecall x y u v p = let d = defers u.id (request_of size (call_of u)) x u v p.0 in (p.1 ∙ d.0, d.1)

-- ---- a turn
stays_asleep : (size : Size) (w : Bool) (by : ℕ) (t : TableState) (a b : Moment) → TurnAs size (woken_turn w by t).ready (woken_turn w by t).table a b Durable → ⊥
stays_asleep size true by t a b p = not_made Durable _ p.1 refl
stays_asleep size false by t a b p = not_made Durable _ p.1 refl

-- as the table and the hart stood, so they stand
same_state : (x y : TableState) (u v : ArchState) → y ≡ x → v.id ≡ u.id → listed y.states v.id ≡ listed x.states u.id
same_state x y u v e f = ap (λ (t : TableState). listed t.states v.id) e ∙ ap (λ (k : ℕ). listed x.states k) f

stood : IsOneNumber → (size : Size) (a b : Moment) (s : HartState) → s ≡ listed a.table.states a.hart.id → TurnAs size (begun_by a.hart.id a.table s).ready (begun_by a.hart.id a.table s).table a b Durable
    → listed b.table.states b.hart.id ≡ started
stood number size a b stopped is p = absurd (not_made Durable _ p.1 refl)
stood number size a b (start_pending site opaque) is p = absurd (not_made Durable _ p.1 refl)
stood number size a b started is p =
    let f = finished size p.1 a.table b.table p.0 b.hart p.3 in
    let id : b.hart.id ≡ a.hart.id = ap (λ (s : ArchState). s.id) f.1 ∙ number (has_pending a.hart.id a.table.pairs) a.hart p.0 a.memory b.memory p.1 p.2 in
    same_state a.table b.table a.hart b.hart f.0 id ∙ sym is
stood number size a b suspended is p = absurd (stays_asleep size (has_pending a.hart.id a.table.pairs) a.hart.id a.table a b p)

-- a hart that stands so is read so
at_once : (h : ℕ) (old new : Machine) (a : Moment) → h < length old.harts → doze_of h old.doze ≡ None → new ≡ with_moment h old a → listed a.table.states a.hart.id ≡ started → StandsAtCall h new
at_once h old new a lt awake e is =
    let read : hart_at (with_moment h old a) h ≡ a.hart = get_or-set_same old.harts h a.hart (never_started h) lt in
    subst (λ (m : Machine). StandsAtCall h m) (sym e) (subst (λ (s : ArchState). listed a.table.states s.id ≡ started) (sym read) is, awake)

-- a turn of the hart of a doze comes to no call
doze_asks : (woken : Bool) (d : Doze) (h : ℕ) (old new : Machine) (word : Turned) → DozeTurn woken d h old new word → word ≡ Durable → ⊥
doze_asks false d h old new word p is = not_made word _ p.1 is
doze_asks true d h old new word p is = not_made word _ p.1 is

asks_by : IsOneNumber → (o : Option Doze) (h : ℕ) (old new : Machine) (word : Turned) → h < length old.harts → doze_of h old.doze ≡ o → TurnBy o h old new word → word ≡ Durable → StandsAtCall h new
asks_by number None h old new word lt awake p is =
    let a = moment_of h old in
    let did : TurnOf old.size a p.0 Durable = subst (λ (w : Turned). TurnOf old.size a p.0 w) is p.1 in
    at_once h old new p.0 lt awake p.2 (stood number old.size a p.0 (listed a.table.states a.hart.id) refl did)
asks_by number (Some d) h old new word lt dozes p is = absurd (doze_asks d.woken d h old new word p is)

pub turn_asks : IsOneNumber → (h : ℕ) (old new : Machine) (word : Turned) → h < length old.harts → MakesTurn h old new word → word ≡ Durable → StandsAtCall h new
turn_asks number h old new word lt p is = asks_by number (doze_of h old.doze) h old new word lt refl p is

-- ---- in a row
pub row_asks : IsOneNumber → (h n : ℕ) (old new : Machine) (word : Turned) → h < length old.harts → MakesRow h n old new word → word ≡ Durable → StandsAtCall h new
row_asks number h zero old new word lt p is = absurd p
row_asks number h (suc n) old new word lt p is =
    elim p [
      | inl x ↦ turn_asks number h old new word lt x.1 is
      | inr x ↦ row_asks number h n x.0 new word (subst (λ (j : ℕ). h < j) (sym (turns_as_many h old x.0 (Made Next) x.1)) lt) x.2 is
    ]

-- ---- a call
asks_in_call : (o : Option Doze) (h : ℕ) (u : ArchState) (old new : Machine) (called : Option Turned) → h < length old.harts → u.id ≡ (hart_at old h).id → doze_of h old.doze ≡ o → CallBy o h u old new called → called ≡ Some Durable → StandsAtCall h new
asks_in_call (Some d) h u old new called lt same dozes p is = absurd (let e : ◌≡◌ {A = Option Turned} None (Some Durable) = sym p.1 ∙ is in let n : ⊥ = cc in n)
asks_in_call None h u old new called lt same awake p is =
    let a = moment_of h old in
    elim (is_decided (listed a.table.states a.hart.id)) [
      | inl at ↦ (
          let d = p.1.made at in
          let e : ◌≡◌ {A = Option Turned} (Some d.0) (Some Durable) = sym d.3 ∙ is in
          let w : d.0 ≡ Durable = cc in
          let f = finished old.size outcomes.Ecall a.table p.0.table u p.0.hart (subst (λ (t : Turned). Finishes old.size outcomes.Ecall a.table u p.0.table p.0.hart t) w d.1) in
          let id : p.0.hart.id ≡ a.hart.id = ap (λ (s : ArchState). s.id) f.1 ∙ same in
          at_once h old new p.0 lt awake p.2 (same_state a.table p.0.table a.hart p.0.hart f.0 id ∙ at))
      | inr none ↦ absurd (let e : ◌≡◌ {A = Option Turned} None (Some Durable) = sym (p.1.not_started none).1 ∙ is in let n : ⊥ = cc in n)
    ]

pub call_asks : (h : ℕ) (asked : CallWords) (old new : Machine) (called : Option Turned) → h < length old.harts → MakesOneCall h asked old new called → called ≡ Some Durable → StandsAtCall h new
call_asks h asked old new called lt p is = asks_in_call (doze_of h old.doze) h (calling (hart_at old h) asked) old new called lt refl refl p is

call_as_many : (o : Option Doze) (h : ℕ) (u : ArchState) (old new : Machine) (called : Option Turned) → CallBy o h u old new called → length new.harts ≡ length old.harts
call_as_many None h u old new called p = ap (λ (m : Machine). length m.harts) p.2 ∙ length-set old.harts h p.0.hart
call_as_many (Some d) h u old new called p = ap (λ (m : Machine). length m.harts) p.0

pub calls_as_many : (h : ℕ) (asked : CallWords) (old new : Machine) (called : Option Turned) → MakesOneCall h asked old new called → length new.harts ≡ length old.harts
calls_as_many h asked old new called p = call_as_many (doze_of h old.doze) h (calling (hart_at old h) asked) old new called p
