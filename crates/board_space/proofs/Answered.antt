-- What is answered, or refused.
use Rattle.std.{proofs.Common.{◌≡◌, false, IfOk, IfSome, Ok, Err, Option, Some, None}, specs.{Prelude.{Result, IfNone}, Option.is_some}}

pub ok_on : {A E : Type 0} (r : Result A E) (P Q : A → Type 0) → ((x : A) → P x → Q x) → IfOk r P → IfOk r Q
ok_on (Ok x) P Q f p = f x p
ok_on (Err e) P Q f p = tt

pub ok_some : {A E : Type 0} (r : Result (Option A) E) (P Q : A → Type 0) → ((x : A) → P x → Q x) → IfOk r (λ o. IfSome o P) → IfOk r (λ o. IfSome o Q)
ok_some (Ok (Some x)) P Q f p = f x p
ok_some (Ok None) P Q f p = tt
ok_some (Err e) P Q f p = tt

pub both_some : {A E : Type 0} (r : Result (Option A) E) (P Q R : A → Type 0) → ((x : A) → P x → Q x → R x) → IfOk r (λ o. IfSome o P) → IfOk r (λ o. IfSome o Q) → IfOk r (λ o. IfSome o R)
both_some (Ok (Some x)) P Q R f p q = f x p q
both_some (Ok None) P Q R f p q = tt
both_some (Err e) P Q R f p q = tt

pub at_none : {A : Type 0} (o : Option A) (P : Type 0) → false ≡ is_some o → IfNone o P → P
at_none None P none p = p
at_none (Some x) P none p = absurd (cc)
