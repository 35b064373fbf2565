use Rattle.std.proofs.{Common.{◌≡◌, inl, inr, Result, Ok, Err, OnOk, refl, ap, ⊎_elim}, lemmas.Result.err_from_is_err_and}
use Rattle.board_model.specs.{Durable.Change, declared.refusal.Refusal.Refusal}
use Rattle.store.specs.Lives.{Life, TakesNone, SuspendRefused}
use Rattle.store.proofs.stores.Store.may_suspend.Goals as goal

takes_refused : (Fits : Type 0) (life : Life) (c : Change) (e : Refusal) → TakesNone life e → SuspendRefused Fits life c e life
takes_refused Fits life c e why = ⊎_elim (λ over. inr (inr (inr (inl (over.0, over.1, refl))))) (λ full. inr (inr (inr (inr (full.0, full.1, full.2, refl))))) why

-- of one result there is one error
error_of : {T : Type 0} (r : Result T Refusal) (x y : Refusal) → r ≡ Err x → r ≡ Err y → x ≡ y
error_of r x y is also = cc

ok_with : {T E A B C D : Type 0} (X : Type 0) (r : Result T E) → A → B → C → D → OnOk r X → OnOk r (A × B × C × D × X)
ok_with X (Ok v) a b c d x = (a, b, c, d, x)
ok_with X (Err e) a b c d x = tt

pub returns-clause-ok : goal.returns-clause-ok
returns-clause-ok g c = let may = c.in_ok-takes.ensures.ok in ok_with _ c.suspended_state.result may.0 may.1 may.2 (c.if-not-fits_board.ensures.0 refl) c.suspended_state.ensures.ok

pub returns-clause-after : goal.returns-clause-after
returns-clause-after g c = c.suspended_state.ensures.after

pub returns-in_err-takes-clause-ok : goal.returns-in_err-takes-clause-ok
returns-in_err-takes-clause-ok g c = let p = err_from_is_err_and c.from_residual.result c.from_residual.ensures.1 in rw p.1 tt

pub returns-in_err-takes-clause-after : goal.returns-in_err-takes-clause-after
returns-in_err-takes-clause-after g c = let p = err_from_is_err_and c.from_residual.result c.from_residual.ensures.1 in rw p.1 tt

pub returns-in_err-takes-clause-refused : goal.returns-in_err-takes-clause-refused
returns-in_err-takes-clause-refused g c = let p = err_from_is_err_and c.from_residual.result c.from_residual.ensures.1 in rw (p.1, p.2) (λ none. takes_refused _ _ _ _ (c.in_err-takes.ensures.refused none))

pub returns-in_err-takes-clause-up : goal.returns-in_err-takes-clause-up
returns-in_err-takes-clause-up g c = let p = err_from_is_err_and c.from_residual.result c.from_residual.ensures.1 in rw (p.1, p.2) c.in_err-takes.ensures.up

pub returns-in_err-takes-clause-not_device : goal.returns-in_err-takes-clause-not_device
returns-in_err-takes-clause-not_device g c = let p = err_from_is_err_and c.from_residual.result c.from_residual.ensures.1 in rw (p.1, p.2) (λ is. c.in_err-takes.ensures.not_device (ap Err (error_of _ _ _ refl is)))

pub returns-in_err-takes-clause-not_memory : goal.returns-in_err-takes-clause-not_memory
returns-in_err-takes-clause-not_memory g c = let p = err_from_is_err_and c.from_residual.result c.from_residual.ensures.1 in rw (p.1, p.2) (λ is. c.in_err-takes.ensures.not_memory (ap Err (error_of _ _ _ refl is)))

pub returns-in_err-takes-clause-down : goal.returns-in_err-takes-clause-down
returns-in_err-takes-clause-down g c = let p = err_from_is_err_and c.from_residual.result c.from_residual.ensures.1 in rw (p.1, p.2) (λ x doubt. ap Err (error_of _ _ _ c.in_err-takes.was (c.takes.ensures.down x doubt)))

pub returns-then-not-fits_board-clause-ok : goal.returns-then-not-fits_board-clause-ok
returns-then-not-fits_board-clause-ok g c = tt

pub returns-then-not-fits_board-clause-after : goal.returns-then-not-fits_board-clause-after
returns-then-not-fits_board-clause-after g c = tt
