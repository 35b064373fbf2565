-- What is seen of a load and of a resume.
use Rattle.std.proofs.Common.{◌≡◌, ◌⊎◌, ◌∙◌, ℕ, List, Option, Some, None, Ok, Err, inl, inr, refl, sym, ap, subst}
use Rattle.board_model.specs.{Durable.{DurableState, Image, Consume, IsWhole}, Shapes.Size, declared.refusal.Refusal.Refusal}
use Rattle.board_model.specs.declared.refusal.Refusal.TheVariants.{Device, NoImage}
use Rattle.disk.specs.FaultState.{FaultState, Cause}
use Rattle.hart.specs.State.{ArchState}
use Rattle.store.specs.{Answers.{StoreView, Answered}, Lives.{now_of, Applied, IsLoaded, LoadRefused}}
use Rattle.susp.specs.Wakes.{IsWoken}
use Rattle.theorem.specs.{Story.{Now, Loads, Resumes}, Told.IsOn, declared.asks.Seen.TheVariants.{Read, Woke, Denied}}
use Rattle.theorem.proofs.{Stays.{moved, still}, Issued.issued}

module _ (size : Size) (w : Now) (old new : StoreView) (on : IsOn size w old) (board : new.size ≡ old.size) where
  pub whole_now : IsWhole old.size (now_of old.life)
  whole_now = subst (λ (s : DurableState). IsWhole old.size s) on.state (subst (λ (z : Size). IsWhole z w.state) (sym on.board) (on.whole w.state (inl refl)))

  pub loads : (memory : List ℕ) → IsLoaded (now_of old.life) memory → new.life ≡ old.life → new.fault_state ≡ old.fault_state → (v : Now) × Loads w (Read memory) v × IsOn size v new
  loads memory is life calm = (w, (is.0, ap (λ (s : DurableState). s.image) on.state ∙ is.1, is.2, refl), still size w old new on board life calm)

  pub not_loaded : (memory : List ℕ) (e : Refusal) → LoadRefused old.size (now_of old.life) memory old.disk old.fault_state e new.disk new.fault_state → new.life ≡ old.life
      → (e ≡ Device) ⊎ ((e ≡ NoImage) × ((now_of old.life).image ≡ None)) → (v : Now) × Loads w (Denied e) v × IsOn size v new
  not_loaded memory e why life (inl is) =
      let failed = subst (λ (x : Refusal). LoadRefused old.size (now_of old.life) memory old.disk old.fault_state x new.disk new.fault_state) is why in
      subst (λ (x : Refusal). (v : Now) × Loads w (Denied x) v × IsOn size v new) (sym is) (
        record w { faults = new.fault_state },
        (subst (λ (m : FaultState). Cause m new.fault_state) (sym on.faults) failed.2, refl),
        moved size w old new on board life,
      )
  not_loaded memory e why life (inr is) =
      let none = subst (λ (x : Refusal). LoadRefused old.size (now_of old.life) memory old.disk old.fault_state x new.disk new.fault_state) is.0 why in
      subst (λ (x : Refusal). (v : Now) × Loads w (Denied x) v × IsOn size v new) (sym is.0) (
        w,
        (ap (λ (s : DurableState). s.image) on.state ∙ is.1, refl),
        still size w old new on board life none.3,
      )

  pub woke : (hart : ArchState) (memory : List ℕ) (n : ℕ) → old.life.doubt ≡ None → IsWoken (now_of old.life) memory hart → Answered Applied old Consume (Ok n) new
      → (v : Now) × Resumes size w (Woke hart memory) v × IsOn size v new
  woke hart memory n calm is did =
      let made = issued size w old new Consume on calm board tt (Ok n) did.life did.cause in
      (made.0, (is.0, ap (λ (s : DurableState). s.image) on.state ∙ is.1, is.3, is.2, made.1.0, made.1.2), made.2)

  stands : (o : Option Image) (i : Image) → o ≡ Some i → o ≡ None → ⊥
  stands o i some none = let no : None ≡ Some i = sym none ∙ some in cc

  -- the image was loaded
  pub not_consumed : (memory : List ℕ) (e : Refusal) → old.life.doubt ≡ None → IsLoaded (now_of old.life) memory → Answered Applied old Consume (Err e) new → (v : Now) × Resumes size w (Denied e) v × IsOn size v new
  not_consumed memory e calm is did =
      let made = issued size w old new Consume on calm board tt (Err e) did.life did.cause in
      (made.0, inr ((λ up none. stands w.state.image is.0 (ap (λ (s : DurableState). s.image) on.state ∙ is.1) none), made.1), made.2)

  pub not_woken : (memory : List ℕ) (e : Refusal) → old.life.doubt ≡ None → LoadRefused old.size (now_of old.life) memory old.disk old.fault_state e new.disk new.fault_state → new.life ≡ old.life
      → (e ≡ Device) ⊎ ((e ≡ NoImage) × ((now_of old.life).image ≡ None)) → (v : Now) × Resumes size w (Denied e) v × IsOn size v new
  not_woken memory e calm why life which = let is = not_loaded memory e why life which in (is.0, inl (on.doubt ∙ calm, is.1), is.2)
