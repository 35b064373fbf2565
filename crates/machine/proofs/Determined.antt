-- A turn of a hart is one outcome, and so is a call.
use Rattle.board_model.specs.{declared.call_words.CallWords.CallWords, Shapes.Size}
use Rattle.std.proofs.Common.{ℕ, Bool, true, false, ◌≡◌, ◌⊎◌, List, Option, Some, None, sym, ◌∙◌, ap, refl, subst, inl, inr}
use Rattle.hart.specs.{State.ArchState, Means.{Steps, IsSame}, declared.Outcome.Outcome}
use Rattle.hart.specs.declared.Outcome.TheVariants as outcomes
use Rattle.hsm.specs.{States.{HartState, stopped, start_pending, started, suspended}, Views.listed}
use Rattle.sbi_abi.specs.Calls.{call_of}
use Rattle.sbi_calls.specs.declared.endings.Ending.{Ending, TheVariants.{Answers, Stops, Suspends, SuspendsAfresh, Defers}}
use Rattle.sbi_calls.specs.{Both.TableState, Answers.{Ends, answer}, declared.words.Turned.Turned}
use Rattle.turns.specs.{declared.readies.Ready.Ready, Turns.{Moment, moment, turn_begun, Finishes, TurnAs, TurnOf}}
use Rattle.turns.specs.declared.readies.Ready.TheVariants as readies
use Rattle.susp.specs.{Dozes.doze_of, declared.buses.Doze.Doze}
use Rattle.machine.specs.Machine.{Machine, hart_at}
use Rattle.machine.specs.Turns as turns

-- a step is one outcome
abbrev pub IsOneStep : Type 0
IsOneStep = (p : Bool) (s t u : ArchState) (m n l : List ℕ) (o q : Outcome) → Steps p s m t n o → Steps p s m u l q → IsSame t u n l o q

one_end : (e : Ending) (s t u : ArchState) (a b : Turned) → Ends e s t a → Ends e s u b → (t ≡ u) × (a ≡ b)
one_end (Answers x) s t u a b p q = (p.0 ∙ sym q.0, p.1 ∙ sym q.1)
one_end Stops s t u a b p q = (p.0 ∙ sym q.0, p.1 ∙ sym q.1)
one_end Suspends s t u a b p q = (p.0 ∙ sym q.0, p.1 ∙ sym q.1)
one_end (SuspendsAfresh x y) s t u a b p q = (p.0 ∙ sym q.0, p.1 ∙ sym q.1)
one_end Defers s t u a b p q = (p.0 ∙ sym q.0, p.1 ∙ sym q.1)

one_finish : (size : Size) (o : Outcome) (x : TableState) (u : ArchState) (y z : TableState) (v w : ArchState) (word also : Turned) → Finishes size o x u y v word → Finishes size o x u z w also → (y ≡ z) × (v ≡ w) × (word ≡ also)
one_finish size outcomes.Next x u y z v w word also p q = (p.0 ∙ sym q.0, p.1 ∙ sym q.1, p.2 ∙ sym q.2)
one_finish size outcomes.TakePending x u y z v w word also p q = (p.0 ∙ sym q.0, p.1 ∙ sym q.1, p.2 ∙ sym q.2)
one_finish size outcomes.Ecall x u y z v w word also p q =
    let e = one_end (answer size u.id (call_of u) x).ending u v w word also p.0 q.0 in
    (p.1 ∙ sym q.1, e.0, e.1)

one_moment : (b c : Moment) → b.table ≡ c.table → b.hart ≡ c.hart → b.memory ≡ c.memory → b ≡ c
one_moment b c e f g =
    ap (λ (x : TableState). moment x b.hart b.memory) e ∙ (ap (λ (s : ArchState). moment c.table s b.memory) f ∙ ap (λ (m : List ℕ). moment c.table c.hart m) g)

one_as : IsOneStep → (size : Size) (r : Ready) (x : TableState) (a b c : Moment) (word also : Turned) → TurnAs size r x a b word → TurnAs size r x a c also → (b ≡ c) × (word ≡ also)
one_as step size readies.Idle x a b c word also p q = (p.0 ∙ sym q.0, p.1 ∙ sym q.1)
one_as step size readies.Woke x a b c word also p q = (p.0 ∙ sym q.0, p.1 ∙ sym q.1)
one_as step size (readies.Enters site opaque) x a b c word also p q = (p.0 ∙ sym q.0, p.1 ∙ sym q.1)
one_as step size (readies.Steps pending) x a b c word also p q =
    let same = step pending a.hart p.0 q.0 a.memory b.memory c.memory p.1 q.1 p.2 q.2 in
    let at : Finishes size q.1 x q.0 b.table b.hart word =
    subst (λ (o : Outcome). Finishes size o x q.0 b.table b.hart word) same.2 (subst (λ (u : ArchState). Finishes size p.1 x u b.table b.hart word) same.0 p.3) in
    let e = one_finish size q.1 x q.0 b.table c.table b.hart c.hart word also at q.3 in
    (one_moment b c e.0 e.1 same.1, e.2)

one_of : IsOneStep → (size : Size) (a b c : Moment) (word also : Turned) → TurnOf size a b word → TurnOf size a c also → (b ≡ c) × (word ≡ also)
one_of step size a b c word also p q = one_as step size (turn_begun a.hart.id a.table).ready (turn_begun a.hart.id a.table).table a b c word also p q

-- ---- of a machine
with_same : (h : ℕ) (old new other : Machine) (b c : Moment) → new ≡ turns.with_moment h old b → other ≡ turns.with_moment h old c → b ≡ c → new ≡ other
with_same h old new other b c p q e = p ∙ (ap (turns.with_moment h old) e ∙ sym q)

one_doze : (woken : Bool) (d : Doze) (h : ℕ) (old new other : Machine) (word also : Turned) → turns.DozeTurn woken d h old new word → turns.DozeTurn woken d h old other also → (new ≡ other) × (word ≡ also)
one_doze false d h old new other word also p q = (p.0 ∙ sym q.0, p.1 ∙ sym q.1)
one_doze true d h old new other word also p q = (p.0 ∙ sym q.0, p.1 ∙ sym q.1)

one_by : IsOneStep → (o : Option Doze) (h : ℕ) (old new other : Machine) (word also : Turned) → turns.TurnBy o h old new word → turns.TurnBy o h old other also → (new ≡ other) × (word ≡ also)
one_by step (Some d) h old new other word also p q = one_doze d.woken d h old new other word also p q
one_by step None h old new other word also p q =
    let e = one_of step old.size (turns.moment_of h old) p.0 q.0 word also p.1 q.1 in
    (with_same h old new other p.0 q.0 p.2 q.2 e.0, e.1)

pub machine_determines_turn : IsOneStep → (h : ℕ) (old new other : Machine) (word also : Turned) → turns.MakesTurn h old new word → turns.MakesTurn h old other also → (new ≡ other) × (word ≡ also)
machine_determines_turn step h old new other word also p q = one_by step (doze_of h old.doze) h old new other word also p q

-- ---- a call
pub is_decided : (y : HartState) → (y ≡ started) ⊎ (y ≡ started → ⊥)
is_decided stopped = inr (λ e. cc)
is_decided (start_pending a o) = inr (λ e. cc)
is_decided started = inl refl
is_decided suspended = inr (λ e. cc)

call_of_one : (size : Size) (u : ArchState) (a b c : Moment) (called also : Option Turned) → turns.CallOf size u a b called → turns.CallOf size u a c also → (b ≡ c) × (called ≡ also)
call_of_one size u a b c called also x y =
    elim (is_decided (listed a.table.states a.hart.id)) [
      | inl at ↦ (
          let p = x.made at in
          let q = y.made at in
          let e = one_finish size outcomes.Ecall a.table u b.table c.table b.hart c.hart p.0 q.0 p.1 q.1 in
          (one_moment b c e.0 e.1 (p.2 ∙ sym q.2), p.3 ∙ (ap (λ (w : Turned). Some w) e.2 ∙ sym q.3)))
      | inr none ↦ ((x.not_started none).0 ∙ sym (y.not_started none).0, (x.not_started none).1 ∙ sym (y.not_started none).1)
    ]

one_call_by : (o : Option Doze) (h : ℕ) (u : ArchState) (old new other : Machine) (called also : Option Turned) → turns.CallBy o h u old new called → turns.CallBy o h u old other also → (new ≡ other) × (called ≡ also)
one_call_by None h u old new other called also p q =
    let e = call_of_one old.size u (turns.moment_of h old) p.0 q.0 called also p.1 q.1 in
    (with_same h old new other p.0 q.0 p.2 q.2 e.0, e.1)
one_call_by (Some d) h u old new other called also p q = (p.0 ∙ sym q.0, p.1 ∙ sym q.1)

pub registers_determine_call : (h : ℕ) (asked : CallWords) (old new other : Machine) (called also : Option Turned) → turns.MakesOneCall h asked old new called → turns.MakesOneCall h asked old other also → (new ≡ other) × (called ≡ also)
registers_determine_call h asked old new other called also p q = one_call_by (doze_of h old.doze) h (turns.calling (hart_at old h) asked) old new other called also p q
