-- A refusal that is handed on, and no room for a copy.
use Rattle.std.{proofs.Common.{◌≡◌, ◌∙◌, Result, Err, refl, ap, sym, subst}, specs.Prelude.{IfOk, IfErr, OnErr}}
use Rattle.board_model.specs.declared.refusal.Refusal.{Refusal, TheVariants.Memory}

pub nothing_made : {B : Type 0} (P : B → Type 0) (r : Result B Refusal) (y : Refusal) → r ≡ Err y → IfOk r P
nothing_made {B} P r y is = subst (λ (x : Result B Refusal). IfOk x P) (sym is) tt

pub no_room : {A B : Type 0} (r : Result B Refusal) (y e : Refusal) → r ≡ Err y → y ≡ e → ◌≡◌ {A = Result A Refusal} (Err e) (Err Memory) → OnErr r (r ≡ Err Memory)
no_room {A} {B} r y e is same was =
    let memory : e ≡ Memory = cc in
    let now : r ≡ Err Memory = is ∙ ap (λ (x : Refusal). let z : Result B Refusal = Err x in z) (same ∙ memory) in
    subst (λ (x : Result B Refusal). OnErr x (x ≡ Err Memory)) (sym now) (let z : ◌≡◌ {A = Result B Refusal} (Err Memory) (Err Memory) = refl in z)

pub is_memory : {B : Type 0} (r : Result B Refusal) (y : Refusal) → r ≡ Err y → y ≡ Memory → OnErr r (r ≡ Err Memory)
is_memory {B} r y is same =
    let now : r ≡ Err Memory = is ∙ ap (λ (x : Refusal). let z : Result B Refusal = Err x in z) same in
    subst (λ (x : Result B Refusal). OnErr x (x ≡ Err Memory)) (sym now) (let z : ◌≡◌ {A = Result B Refusal} (Err Memory) (Err Memory) = refl in z)

-- what is said of the refusal that came is said of the one that is handed on
pub handed_on : {B : Type 0} (Q : Refusal → Type 0) (r : Result B Refusal) (y e : Refusal) → r ≡ Err y → y ≡ e → Q e → IfErr r Q
handed_on {B} Q r y e is same q = subst (λ (x : Result B Refusal). IfErr x Q) (sym is) (subst Q (sym same) q)

pub was_so : {A B : Type 0} (r : Result B Refusal) (y e d : Refusal) → r ≡ Err y → y ≡ e → r ≡ Err d → ◌≡◌ {A = Result A Refusal} (Err e) (Err d)
was_so {A} {B} r y e d is same down =
    let one : y ≡ d = (let z : ◌≡◌ {A = Result B Refusal} (Err y) (Err d) = sym is ∙ down in cc) in
    ap (λ (x : Refusal). let z : Result A Refusal = Err x in z) (sym same ∙ one)
