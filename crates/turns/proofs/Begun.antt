-- What a look at the own state tells of a hart between two turns, and what a turn comes to.
use Rattle.std.proofs.Common.{◌≡◌, ◌≢◌, ◌⊎◌, ◌↔◌, ℕ, zero, suc, Bool, true, false, true≢false, IsTrue, List, [], ◌∷◌, Some, None, Option, refl, sym, ap, ◌∙◌, subst, ⊎_elim, inl, get_or}
use Rattle.hsm.specs.{declared.{view.Stage.TheVariants.{Out, Running, Suspended}, state.State.State}, Words.HartView, Rule.stands}
use Rattle.hsm.specs.{States.{HartState, stopped, start_pending, started, suspended, entry}, Calls.{Sits as SitsIn, IsOwnStatus, named}}
use Rattle.hsm.specs.declared.state.State.TheVariants as codes
use Rattle.ipi.specs.{Ledger.PendingSeatView, Pairs.{Shows, ActsAlone}, Views.{ArePairs, pair_at, row_of}}
use Rattle.sbi_calls.specs.{declared.tables.{Tables.Tables, Seats.Seats}, Both.{GivesBack, Known, TableState}, Answers.with_state}
use Rattle.turns.specs.{declared.readies.Ready.Ready, Entries.EntersTaken, Own.{TakesOwn, EntersOwn}}
use Rattle.turns.specs.Turns.{RestsAt, IsOutside, has_true, has_pending, after_take, begun_by}
use Rattle.turns.specs.declared.readies.Ready.TheVariants as readies

-- ---- where the hart stands
pub sits : (h : ℕ) (vs : List HartView) → RestsAt h vs → SitsIn h vs
sits h vs r = ⊎_elim (λ (o : stands h Out vs). (Out, o)) (⊎_elim (λ (o : stands h Running vs). (Running, o)) (λ (o : stands h Suspended vs). (Suspended, o))) r

pub runs : (h : ℕ) (vs : List HartView) (x : State) → IsOwnStatus h vs x → RestsAt h vs → x ≡ codes.Started → stands h Running vs
runs h vs x own r e =
    ⊎_elim
    (λ (o : stands h Out vs). ⊎_elim (λ (p : x ≡ codes.Stopped). absurd (let z = sym p ∙ e in let n : ⊥ = cc in n)) (λ (p : x ≡ codes.StartPending). absurd (let z = sym p ∙ e in let n : ⊥ = cc in n)) (own.outside o))
    (⊎_elim
    (λ (o : stands h Running vs). o)
    (λ (o : stands h Suspended vs). absurd (let p = own.suspended o in let z = sym p ∙ e in let n : ⊥ = cc in n)))
    r

pub suspends : (h : ℕ) (vs : List HartView) (x : State) → IsOwnStatus h vs x → RestsAt h vs → x ≡ codes.Suspended → stands h Suspended vs
suspends h vs x own r e =
    ⊎_elim
    (λ (o : stands h Out vs). ⊎_elim (λ (p : x ≡ codes.Stopped). absurd (let z = sym p ∙ e in let n : ⊥ = cc in n)) (λ (p : x ≡ codes.StartPending). absurd (let z = sym p ∙ e in let n : ⊥ = cc in n)) (own.outside o))
    (⊎_elim
    (λ (o : stands h Running vs). absurd (let p = own.started (inl o) in let z = sym p ∙ e in let n : ⊥ = cc in n))
    (λ (o : stands h Suspended vs). o))
    r

abbrev pub IsOutCode : State → Type 0
IsOutCode x = (x ≡ codes.Stopped) ⊎ (x ≡ codes.StartPending)

not_out : (x : State) → IsOutCode x → (x ≢ codes.Started) × (x ≢ codes.Suspended)
not_out x e =
    ⊎_elim
    (λ (p : x ≡ codes.Stopped). ((λ q. let z = sym p ∙ q in let n : ⊥ = cc in n), (λ q. let z = sym p ∙ q in let n : ⊥ = cc in n)))
    (λ (p : x ≡ codes.StartPending). ((λ q. let z = sym p ∙ q in let n : ⊥ = cc in n), (λ q. let z = sym p ∙ q in let n : ⊥ = cc in n)))
    e

pub is_out : (h : ℕ) (vs : List HartView) (x : State) → IsOwnStatus h vs x → RestsAt h vs → IsOutCode x → stands h Out vs
is_out h vs x own r e =
    let n = not_out x e in
    ⊎_elim
    (λ (o : stands h Out vs). o)
    (⊎_elim
    (λ (o : stands h Running vs). absurd (n.0 (own.started (inl o))))
    (λ (o : stands h Suspended vs). absurd (n.1 (own.suspended o))))
    r

pub gives_then : (t : Tables) (by : ℕ) (a b c : Seats) → GivesBack t by a b → GivesBack t by b c → GivesBack t by a c
gives_then t by a b c p q = record {
  seats = q.seats;
  others = record { harts = q.others.harts ∙ p.others.harts; stages = λ k st ne s. q.others.stages k st ne (p.others.stages k st ne s) };
  pairs = record { harts = q.pairs.harts ∙ p.pairs.harts; each = λ h. q.pairs.each h ∙ p.pairs.each h };
}

-- ---- the own state, by its name
pub is_started : (y : HartState) → named y ≡ codes.Started → y ≡ started
is_started stopped e = absurd (cc)
is_started (start_pending a o) e = absurd (cc)
is_started started e = refl
is_started suspended e = absurd (cc)

pub is_suspended : (y : HartState) → named y ≡ codes.Suspended → y ≡ suspended
is_suspended stopped e = absurd (cc)
is_suspended (start_pending a o) e = absurd (cc)
is_suspended started e = absurd (cc)
is_suspended suspended e = refl

pub is_stopped : (y : HartState) → named y ≡ codes.Stopped → y ≡ stopped
is_stopped stopped e = refl
is_stopped (start_pending a o) e = absurd (cc)
is_stopped started e = absurd (cc)
is_stopped suspended e = absurd (cc)

pub named_pending : (y : HartState) → named y ≡ codes.StartPending → IsOutside y
named_pending stopped e = absurd (cc)
named_pending (start_pending a o) e = tt
named_pending started e = absurd (cc)
named_pending suspended e = absurd (cc)

abbrev arguments : Option (ℕ × ℕ) → ℕ × ℕ
arguments None = (0, 0)
arguments (Some p) = p

pub none_is : (y : HartState) → IsOutside y → None ≡ entry y → y ≡ stopped
none_is stopped is e = absurd is
none_is (start_pending a o) is e = absurd (cc)
none_is started is e = absurd is
none_is suspended is e = absurd is

pub some_is : (p : ℕ × ℕ) (y : HartState) → Some p ≡ entry y → y ≡ start_pending p.0 p.1
some_is p stopped e = absurd (cc)
some_is p (start_pending b d) e = ap (λ (x : Option (ℕ × ℕ)). start_pending (arguments x).0 (arguments x).1) (sym e)
some_is p started e = absurd (cc)
some_is p suspended e = absurd (cc)

-- ---- pending interrupts
some_true : (bs : List Bool) → has_true bs ≡ true → (k : ℕ) × (get_or bs k false ≡ true)
some_true [] e = absurd (true≢false (sym e))
some_true (true ∷ bs) e = (0, refl)
some_true (false ∷ bs) e = let r = some_true bs e in (suc r.0, r.1)

is_true : (bs : List Bool) (k : ℕ) → get_or bs k false ≡ true → has_true bs ≡ true
is_true [] zero e = absurd (true≢false (sym e))
is_true [] (suc k) e = absurd (true≢false (sym e))
is_true (true ∷ bs) k e = refl
is_true (false ∷ bs) zero e = absurd (true≢false (sym e))
is_true (false ∷ bs) (suc k) e = is_true bs k e

same_bool : (a b : Bool) → (a ≡ true → b ≡ true) → (b ≡ true → a ≡ true) → a ≡ b
same_bool true true f g = refl
same_bool true false f g = sym (f refl)
same_bool false true f g = g refl
same_bool false false f g = refl

pub looked : (n m by : ℕ) (c c' : PendingSeatView) (found : Bool) → n ≡ m → ActsAlone n c c' (λ pairs. IsTrue found ↔ ((sender : ℕ) × IsTrue (pairs sender by))) (λ pairs. pairs)
    → (pairs : List (List Bool)) → ArePairs m c pairs → (found ≡ has_pending by pairs) × ArePairs m c' pairs
looked n m by c c' found e acts pairs are =
    let a = acts (pair_at pairs) (subst (λ (k : ℕ). Shows k c (pair_at pairs)) (sym e) are.1) in (
      same_bool found (has_pending by pairs) (λ r. let s = a.0.0 r in is_true (row_of pairs by) s.0 s.1) (λ h. a.0.1 (some_true (row_of pairs by) h)),
      (are.0, subst (λ (k : ℕ). Shows k c' (pair_at pairs)) e a.1),
    )

-- a hart whose start is pending begins as it would have begun before the take, and the table is then the one after both
pub entered_ready : (by : ℕ) (t : TableState) (y : HartState) → IsOutside y → (begun_by by (after_take t by) y).ready ≡ (begun_by by t y).ready
entered_ready by t stopped out = absurd out
entered_ready by t (start_pending a o) out = refl
entered_ready by t started out = absurd out
entered_ready by t suspended out = absurd out

pub entered_table : (by : ℕ) (t : TableState) (y : HartState) → IsOutside y → with_state (after_take t by) by started ≡ (begun_by by t y).table
entered_table by t stopped out = absurd out
entered_table by t (start_pending a o) out = refl
entered_table by t started out = absurd out
entered_table by t suspended out = absurd out

-- a take, and then an entry
pub then_enters : (by : ℕ) (k mid k' : Known) (ready : Ready) → TakesOwn by k mid → EntersTaken by mid k' ready → EntersOwn by k k' ready
then_enters by k mid k' readies.Idle took e = (mid, took, e.0, e.1)
then_enters by k mid k' (readies.Enters a o) took e = (mid, took, e.0, e.1)
then_enters by k mid k' readies.Woke took e = absurd e
then_enters by k mid k' (readies.Steps pending) took e = absurd e
