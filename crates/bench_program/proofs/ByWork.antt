-- What comes of what was done for a work.
use Rattle.std.proofs.Common.{◌≡◌, ℕ, List, Option, Result, Ok, Err, IfOk, IfErr, OnOk, MatchResult, refl, sym, subst}
use Rattle.board_model.specs.declared.refusal.Refusal.{Refusal}
use Rattle.bench_program.specs.{Written.{IsMade, IsRefusedWith}, declared.usage.Work.Work}

pub made_by : {A E : Type 0} (done : Result A E) (r : Result ℕ Refusal) (f : E → Refusal) (P : A → Type 0) (Q : Type 0) → MatchResult done (λ x. r ≡ Ok 0) (λ e. r ≡ Err (f e)) → ((x : A) → P x → Q) → IfOk done P
    → IfOk r (λ differ. (differ ≡ 0) × Q)
made_by (Ok x) r f P Q is so made = subst (λ (y : Result ℕ Refusal). IfOk y (λ differ. (differ ≡ 0) × Q)) (sym is) (refl, so x made)
made_by (Err e) r f P Q is so made = subst (λ (y : Result ℕ Refusal). IfOk y (λ differ. (differ ≡ 0) × Q)) (sym is) tt

pub well_made : {A : Type 0} (done : Result A Refusal) (r : Result ℕ Refusal) (Q : Type 0) → MatchResult done (λ x. r ≡ Ok 0) (λ e. r ≡ Err e) → OnOk done Q → IfOk r (λ differ. (differ ≡ 0) × Q)
well_made (Ok x) r Q is made = subst (λ (y : Result ℕ Refusal). IfOk y (λ differ. (differ ≡ 0) × Q)) (sym is) (refl, made)
well_made (Err e) r Q is made = subst (λ (y : Result ℕ Refusal). IfOk y (λ differ. (differ ≡ 0) × Q)) (sym is) tt

pub refused_by : {A E : Type 0} (done : Result A E) (r : Result ℕ Refusal) (f : E → Refusal) (P : E → Type 0) (Q : Refusal → Type 0) → MatchResult done (λ x. r ≡ Ok 0) (λ e. r ≡ Err (f e)) → ((e : E) → P e → Q (f e)) → IfErr done P
    → IfErr r Q
refused_by (Ok x) r f P Q is so refused = subst (λ (y : Result ℕ Refusal). IfErr y Q) (sym is) tt
refused_by (Err e) r f P Q is so refused = subst (λ (y : Result ℕ Refusal). IfErr y Q) (sym is) (so e refused)

-- the work is that one
pub made_as : (work w : Work) (payloads : List (List ℕ)) (script : List ℕ) (r : Result ℕ Refusal) (old now : Option (List ℕ)) → work ≡ w → IfOk r (λ differ. IsMade w payloads script differ old now)
    → IfOk r (λ differ. IsMade work payloads script differ old now)
made_as work w payloads script r old now is made = subst (λ (x : Work). IfOk r (λ differ. IsMade x payloads script differ old now)) (sym is) made

pub refused_as : (work w : Work) (payloads : List (List ℕ)) (script : List ℕ) (r : Result ℕ Refusal) → work ≡ w → IfErr r (IsRefusedWith w payloads script) → IfErr r (IsRefusedWith work payloads script)
refused_as work w payloads script r is refused = subst (λ (x : Work). IfErr r (IsRefusedWith x payloads script)) (sym is) refused
