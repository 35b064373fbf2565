-- A suspension, as its commit tells it.
use Rattle.std.proofs.Common.{◌≡◌, ◌∙◌, inl, ℕ, Result, Ok, Err, ⊎_elim, sym, ap, subst}
use Rattle.board_model.specs.{Durable.{DurableState, Change}, declared.refusal.Refusal.Refusal}
use Rattle.store.specs.Lives.{Life, now_of, Applied, SuspendApplied, IsReseen}

pub applied_found : (old : Life) (c : Change) (r : Result ℕ Refusal) (new : Life) → Applied old c r new → new.found ≡ old.found
applied_found old c (Ok n) new did = ap (λ (x : Life). x.found) did.2
applied_found old c (Err e) new did =
    ⊎_elim (λ d. ap (λ (x : Life). x.found) d.2)
    (λ r. ⊎_elim (λ d. ap (λ (x : Life). x.found) d.2)
    (λ q. ⊎_elim (λ d. ap (λ (x : Life). x.found) d.2)
    (λ p. ⊎_elim (λ d. ap (λ (x : Life). x.found) d.3) (λ d. ap (λ (x : Life). x.found) d.3) p) q) r) did

pub told_so : (Fits : Type 0) (old mid : Life) (c : Change) (r : Result ℕ Refusal) (new : Life) → Fits → mid ≡ record old { found = mid.found } → Applied mid c r new
    → SuspendApplied Fits (record old { found = new.found }) c r new
told_so Fits old mid c r new fits is did = by r (subst (λ (l : Life). Applied l c r new) (is ∙ ap (λ (s : DurableState). seen s) (sym (applied_found mid c r new did))) did)
  where
    seen : DurableState → Life
    seen s = record old { found = s }

    by : (q : Result ℕ Refusal) → Applied (record old { found = new.found }) c q new → SuspendApplied Fits (record old { found = new.found }) c q new
    by (Ok n) did = (fits, did)
    by (Err e) did = inl (fits, did)

pub now_still : (old mid : Life) (found : DurableState) → mid ≡ record old { found = found } → IsReseen old found → now_of mid ≡ now_of old
now_still old mid found is seen = ap (λ (l : Life). now_of l) is ∙ seen.now
