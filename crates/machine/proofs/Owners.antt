-- Whose doze it is, and how a hart stands between two turns.
use Rattle.std.proofs.Common.{◌≡◌, ◌≢◌, ℕ, Option, Some, None, refl, sym, ◌∙◌, subst, ne_eqb, eq-eqb, ⊎_elim, inl, inr}
use mathlib.Core.Logic.{dite}
use native.Mathlib.Decide.{ℕ_discrete}
use Rattle.hsm.specs.{declared.view.Stage.{Stage, TheVariants.{Out, Running, Suspended, Quiet}}, Rule.stands, Calls.{Sits as SitsIn}}
use Rattle.ipi.specs.Pairs.{Sits}
use Rattle.sbi_calls.specs.{declared.tables.Seats.Seats, Both.{views, pair_crew}}
use Rattle.susp.specs.{Dozes.doze_of, declared.buses.Doze.Doze}
use Rattle.turns.proofs.Begun.{sits}
use Rattle.machine.specs.Held.{RestsBy}

-- a doze of another hart is none of this one
pub other_none : (k : ℕ) (x : Doze) → x.at.hart ≢ k → doze_of k (Some x) ≡ None
other_none k x ne = rw (ne_eqb x.at.hart k ne) refl

-- and one of this hart is
pub its_own : (h : ℕ) (d : Doze) → d.at.hart ≡ h → doze_of h (Some d) ≡ Some d
its_own h d at = rw (eq-eqb d.at.hart h at) refl

-- the doze of a hart is that of the board
pub doze_is : (h : ℕ) (o : Option Doze) (d x : Doze) → o ≡ Some d → doze_of h o ≡ Some x → x ≡ d
doze_is h o d x e f =
    let g : doze_of h (Some d) ≡ Some x = subst (λ (y : Option Doze). doze_of h y ≡ Some x) e f in
    dite (ℕ_discrete d.at.hart h)
    (λ hit. let z : ◌≡◌ {A = Option Doze} (Some x) (Some d) = sym g ∙ its_own h d hit in let n : x ≡ d = cc in n)
    (λ miss. absurd (let z : ◌≡◌ {A = Option Doze} None (Some x) = sym (other_none h d miss) ∙ g in let n : ⊥ = cc in n))

-- a hart that has none of a board that dozes is another than its own
pub is_other : (h : ℕ) (o : Option Doze) (d : Doze) → o ≡ Some d → doze_of h o ≡ None → h ≢ d.at.hart
is_other h o d e f at =
    let g : doze_of h (Some d) ≡ None = subst (λ (y : Option Doze). doze_of h y ≡ None) e f in
    let z : ◌≡◌ {A = Option Doze} (Some d) None = sym (its_own h d (sym at)) ∙ g in
    let n : ⊥ = cc in n

-- a board dozes by one hart
pub of_no_other : (h k : ℕ) (o : Option Doze) (d : Doze) → doze_of h o ≡ Some d → k ≢ h → doze_of k o ≡ None
of_no_other h k None d e ne = refl
of_no_other h k (Some x) d e ne =
    dite (ℕ_discrete x.at.hart h)
    (λ hit. other_none k x (λ at. ne (sym at ∙ hit)))
    (λ miss. absurd (let z : ◌≡◌ {A = Option Doze} None (Some d) = sym (other_none h x miss) ∙ e in let n : ⊥ = cc in n))

-- the doze of a hart that has just fallen asleep
pub none_beside : (h k : ℕ) (d : Doze) → d.at.hart ≡ h → k ≢ h → doze_of k (Some d) ≡ None
none_beside h k d at ne = other_none k d (λ e. ne (sym e ∙ at))

-- steps that keep where a hart stands keep it at rest
pub rests_moved : (o : Option Doze) (h : ℕ) (s s' : Seats) → ((st : Stage) → stands h st (views s) → stands h st (views s')) → (Sits h (pair_crew s) → Sits h (pair_crew s')) → RestsBy o h s → RestsBy o h s'
rests_moved None h s s' stays sits r =
    (⊎_elim (λ (p : stands h Out (views s)). inl (stays Out p)) (⊎_elim (λ (p : stands h Running (views s)). inr (inl (stays Running p))) (λ (p : stands h Suspended (views s)). inr (inr (stays Suspended p)))) r.0, sits r.1)
rests_moved (Some d) h s s' stays sits r = (stays Quiet r.0, sits r.1)

pub sits_by : (o : Option Doze) (h : ℕ) (s : Seats) → RestsBy o h s → Sits h (pair_crew s)
sits_by None h s r = r.1
sits_by (Some d) h s r = r.1

-- a hart of the seats stands somewhere in the hart table
pub seated_by : (o : Option Doze) (h : ℕ) (s : Seats) → RestsBy o h s → SitsIn h (views s)
seated_by None h s r = sits h (views s) r.0
seated_by (Some d) h s r = (Quiet, r.0)
