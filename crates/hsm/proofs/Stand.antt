-- Where a hart stands after a step.
use Rattle.std.proofs.Common.{◌≡◌, ◌≢◌, ◌⊎◌, ℕ, List, [], ◌∷◌, refl, sym, ◌∙◌, subst, ⊎_elim, inl, inr, eq-eqb, ne_eqb}
use mathlib.Core.Logic.{dite}
use native.Mathlib.Decide.{ℕ_discrete}
use Rattle.hsm.specs.{declared.view.{Stage.{Stage, TheVariants.{Out, Running, Suspended, Quiet}}, Action.Action}, States.IsBetweenCalls}
use Rattle.hsm.specs.{Words.{HartView, HartSeatView}, Rule.stands, declared.state.State.State}
use Rattle.hsm.specs.Calls.{stage_of, KeepsAll, IsOwnStatus, StandsBy}
use Rattle.hsm.specs.declared.state.State.TheVariants as codes
use Rattle.tallies.specs.Notes.{noted, HasNoted}

stands_noted : (h : ℕ) (st st' : Stage) (p : ℕ) (x : Action) (vs : List HartView) → stands h st vs → stands h st' (noted h st' p x vs)
stands_noted h st st' p x [] s = s
stands_noted h st st' p x (v ∷ vs) s =
    ⊎_elim
    (λ (hit : (v.hart ≡ h) × (v.stage ≡ st)). rw (eq-eqb v.hart h hit.0) (inl (hit.0, refl)))
    (λ (miss : (v.hart ≢ h) × stands h st vs). rw (ne_eqb v.hart h miss.0) (inr (miss.0, stands_noted h st st' p x vs miss.1)))
    s

-- after a step whose view is known
pub stands_after : (h : ℕ) (st st' : Stage) (x : Action) (c c' : HartSeatView) → HasNoted h st' x c.harts c'.harts → stands h st c.harts → stands h st' c'.harts
stands_after h st st' x c c' is s = subst (stands h st') (sym is.1) (stands_noted h st st' is.0 x c.harts s)

-- another hart of the seat stands as it did
pub stands_other : (h k : ℕ) (st' st : Stage) (p : ℕ) (x : Action) (vs : List HartView) → k ≢ h → stands k st vs → stands k st (noted h st' p x vs)
stands_other h k st' st p x [] ne s = s
stands_other h k st' st p x (v ∷ vs) ne s =
    dite (ℕ_discrete v.hart h)
    (λ hit. rw (eq-eqb v.hart h hit) (⊎_elim
    (λ (mine : (v.hart ≡ k) × (v.stage ≡ st)). absurd (ne (sym mine.0 ∙ hit)))
    (λ (other : (v.hart ≢ k) × stands k st vs). inr other)
    s))
    (λ miss. rw (ne_eqb v.hart h miss) (⊎_elim
    (λ (mine : (v.hart ≡ k) × (v.stage ≡ st)). inl mine)
    (λ (other : (v.hart ≢ k) × stands k st vs). inr (other.0, stands_other h k st' st p x vs ne other.1))
    s))

-- the stage at which a hart stands
pub stands_stage : (h : ℕ) (st : Stage) (vs : List HartView) → stands h st vs → stage_of h vs ≡ st
stands_stage h st [] s = absurd s
stands_stage h st (v ∷ vs) s =
    ⊎_elim
    (λ (hit : (v.hart ≡ h) × (v.stage ≡ st)). rw (eq-eqb v.hart h hit.0) hit.1)
    (λ (miss : (v.hart ≢ h) × stands h st vs). rw (ne_eqb v.hart h miss.0) (stands_stage h st vs miss.1))
    s

pub stands_own : (h : ℕ) (st : Stage) (vs : List HartView) → stands h st vs → stands h (stage_of h vs) vs
stands_own h st vs s = subst (λ (x : Stage). stands h x vs) (sym (stands_stage h st vs s)) s

-- where a hart between calls stands, by its status
pub stands_by : (x : State) (h : ℕ) (vs vs' : List HartView) → IsOwnStatus h vs x → KeepsAll vs vs' → IsBetweenCalls h vs → StandsBy x h vs'
stands_by x h vs vs' own keeps settled =
    let by : (y : State) → x ≡ y → StandsBy y h vs' → StandsBy x h vs' = λ y e s. subst (λ (z : State). StandsBy z h vs') (sym e) s in
    ⊎_elim
    (λ (out : stands h Out vs). ⊎_elim
    (λ (e : x ≡ codes.Stopped). by codes.Stopped e (keeps.stages h Out out))
    (λ (e : x ≡ codes.StartPending). by codes.StartPending e (keeps.stages h Out out))
    (own.outside out))
    (λ (more : stands h Running vs ⊎ (stands h Suspended vs ⊎ stands h Quiet vs)). ⊎_elim
    (λ (runs : stands h Running vs). by codes.Started (own.started (inl runs)) (inl (keeps.stages h Running runs)))
    (λ (rest : stands h Suspended vs ⊎ stands h Quiet vs). ⊎_elim
    (λ (suspends : stands h Suspended vs). by codes.Suspended (own.suspended suspends) (keeps.stages h Suspended suspends))
    (λ (quiet : stands h Quiet vs). by codes.Started (own.started (inr quiet)) (inr (keeps.stages h Quiet quiet)))
    rest)
    more)
    settled
