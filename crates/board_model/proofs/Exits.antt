-- A call was refused, and so is the function that made it: for any crate.
use Rattle.std.{proofs.Common.{◌≡◌, ◌∙◌, Result, Ok, Err, IfErr, OnErr, sym, ap, subst}, specs.{Prelude.{IfOk, OnOk}, Result.IsErrAnd}}
use Rattle.std.proofs.lemmas.Result.{err_from_is_err_and}

-- with the same refusal
pub err_exit : {T E : Type 0} (Q : E → Type 0) (r : Result T E) (e : E) → IsErrAnd r (λ y. y ≡ e) → Q e → IfErr r Q
err_exit {T} {E} Q r e is q =
    let p = err_from_is_err_and r is in
    subst (λ (x : Result T E). IfErr x Q) (sym p.1) (subst Q (sym p.2) q)

-- with one of which that is known
pub err_said : {T E : Type 0} (Q R : E → Type 0) (r : Result T E) → IsErrAnd r R → ((y : E) → R y → Q y) → IfErr r Q
err_said {T} {E} Q R r is so =
    let p = err_from_is_err_and r is in
    subst (λ (x : Result T E). IfErr x Q) (sym p.1) (so p.0 p.2)

-- with that one
pub err_is : {T E : Type 0} (r : Result T E) (e x : E) → IsErrAnd r (λ y. y ≡ e) → e ≡ x → r ≡ Err x
err_is {T} {E} r e x is same = let p = err_from_is_err_and r is in p.1 ∙ ap (λ (y : E). Err y) (p.2 ∙ same)

-- what holds anyway
pub on_err : {T E P : Type 0} (r : Result T E) → P → OnErr r P
on_err (Ok x) p = tt
on_err (Err e) p = p

-- what holds of a value, from two facts of which one does not speak of it
pub ok_with : {T E : Type 0} (r : Result T E) (K : Type 0) (P Q : T → Type 0) → (K → (x : T) → P x → Q x) → OnOk r K → IfOk r P → IfOk r Q
ok_with (Ok x) K P Q more k p = more k x p
ok_with (Err e) K P Q more k p = tt
