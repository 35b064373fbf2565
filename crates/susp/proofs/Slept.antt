-- What a system suspend comes to, put together from its steps.
use Rattle.std.proofs.Common.{◌≡◌, ◌↔◌, ◌∙◌, ℕ, Bool, true, false, true≢false, IsTrue, List, Some, Result, Ok, Err, refl, sym, subst, inl, inr}
use Rattle.board_model.specs.declared.refusal.Refusal.{Refusal}
use Rattle.disk.specs.{declared.{device.{Disk.Ghosts, Lane.{Ghosts as Lanes}}}}
use Rattle.hsm.specs.{Calls.{KeepsOthers, ActsAlone}, Words.{HartSeatView, HartView}, declared.view.Action.TheVariants.{Quieted, Unquieted}}
use Rattle.hsm.specs.{declared.view.Stage.TheVariants.Running, Rule.HasNoted, States.{HartState, Shows}, Outcomes.after_quiet}
use Rattle.sbi_abi.specs.declared.ret.SbiError.{TheVariants.{Denied, Failed}, SbiError}
use Rattle.store.specs.{Views.size_of_store, declared.stores.Store.Store}
use Rattle.susp.specs.{Checks.IsChecked, Dozes.dozing, declared.{sleeps.Sleep.{TheVariants.{ToRam, ToDisk}, Sleep}, buses.Bus.Bus}}
use Rattle.susp.specs.Sleeps.{AreUnclaimed, AreStopped, AsksToSleep, FallsAsleep, FallsAsleepBy, Sleeps, SleepsAlone}

-- what the look of quiet told
abbrev pub Looked : ℕ → ℕ → Bool → List HartView → List HartView → Type 0
Looked harts by quiet vs mid = (found : ℕ) × (IsTrue quiet ↔ AreUnclaimed harts by found) × HasNoted by (after_quiet harts by found) (Quieted found) vs mid

abbrev pub LookedAlone : ℕ → ℕ → Bool → HartSeatView → HartSeatView → Type 0
LookedAlone harts by quiet c c' = ActsAlone harts c c' (λ states. IsTrue quiet ↔ AreStopped harts by states) (λ states. states)

pub others_then : (h : ℕ) (a b c : List HartView) → KeepsOthers h a b → KeepsOthers h b c → KeepsOthers h a c
others_then h a b c p q = record { harts = q.harts ∙ p.harts; stages = λ k st ne s. q.stages k st ne (p.stages k st ne s) }

pub others_still : (h : ℕ) (a : List HartView) → KeepsOthers h a a
others_still h a = record { harts = refl; stages = λ k st ne s. s }

-- ---- the board falls asleep, or does not
module _ {D L : Type 0} {g : Ghosts D L} {l : Lanes L} (sleep : Sleep) (by site opaque : ℕ) (bus : Bus) (old new : Store D L g l) where
  abbrev pub dozed : Bus
  dozed = record bus { doze = Some (dozing by site opaque) }

  pub dozes : sleep ≡ ToRam → (vs : List HartView) → FallsAsleep sleep by site opaque vs bus old (Ok sleep) vs dozed old
  dozes is vs = subst (λ (x : Sleep). FallsAsleep x by site opaque vs bus old (Ok x) vs dozed old) (sym is) ((refl, refl, refl), refl)

  pub dozes_by : sleep ≡ ToRam → FallsAsleepBy sleep by site opaque bus old (Ok sleep) dozed old
  dozes_by is = subst (λ (x : Sleep). FallsAsleepBy x by site opaque bus old (Ok x) dozed old) (sym is) (refl, refl, refl)

  pub sleeps_on : sleep ≡ ToDisk → (n : ℕ) → AsksToSleep by site opaque bus.ram old (Ok n) new → (vs : List HartView) → FallsAsleep sleep by site opaque vs bus old (Ok sleep) vs bus new
  sleeps_on is n asked vs = subst (λ (x : Sleep). FallsAsleep x by site opaque vs bus old (Ok x) vs bus new) (sym is) (Ok n, asked, (refl, refl), refl)

  pub sleeps_on_by : sleep ≡ ToDisk → (n : ℕ) → AsksToSleep by site opaque bus.ram old (Ok n) new → FallsAsleepBy sleep by site opaque bus old (Ok sleep) bus new
  sleeps_on_by is n asked = subst (λ (x : Sleep). FallsAsleepBy x by site opaque bus old (Ok x) bus new) (sym is) (Ok n, asked, refl, refl)

  pub stays_awake : sleep ≡ ToDisk → (e : Refusal) → AsksToSleep by site opaque bus.ram old (Err e) new → (vs vs' : List HartView) → (found : ℕ) × HasNoted by Running (Unquieted found) vs vs'
      → FallsAsleep sleep by site opaque vs bus old (Err Failed) vs' bus new
  stays_awake is e asked vs vs' noted = subst (λ (x : Sleep). FallsAsleep x by site opaque vs bus old (Err Failed) vs' bus new) (sym is) (Err e, asked, (refl, noted), refl)

  pub stays_awake_by : sleep ≡ ToDisk → (e : Refusal) → AsksToSleep by site opaque bus.ram old (Err e) new → FallsAsleepBy sleep by site opaque bus old (Err Failed) bus new
  stays_awake_by is e asked = subst (λ (x : Sleep). FallsAsleepBy x by site opaque bus old (Err Failed) bus new) (sym is) (Err e, asked, refl, refl)

module _ {D L : Type 0} {g : Ghosts D L} {l : Lanes L} (harts by kind address opaque : ℕ) (bus : Bus) (old : Store D L g l) (sleep : Sleep) (site : ℕ) (checked : IsChecked (size_of_store old) kind address (Ok (sleep, site))) where
  pub denied_steps : (quiet : Bool) (vs mid : List HartView) → quiet ≡ false → Looked harts by quiet vs mid → Sleeps harts by kind address opaque vs bus old (Err Denied) mid bus old
  denied_steps quiet vs mid off looked = record {
    asked = Ok (sleep, site);
    checked = checked;
    slept = (looked.0, mid, looked.2, inl ((λ are. absurd (true≢false (sym (looked.1.1 are) ∙ off))), refl, refl, refl, refl));
  }

  pub fallen_steps : (quiet : Bool) (vs mid vs' : List HartView) (fell : Result Sleep SbiError) (bus' : Bus) (new : Store D L g l) → quiet ≡ true → Looked harts by quiet vs mid
      → FallsAsleep sleep by site opaque mid bus old fell vs' bus' new → Sleeps harts by kind address opaque vs bus old fell vs' bus' new
  fallen_steps quiet vs mid vs' fell bus' new holds looked falls = record {
    asked = Ok (sleep, site);
    checked = checked;
    slept = (looked.0, mid, looked.2, inr (looked.1.0 holds, falls));
  }

  pub denied_alone : (quiet : Bool) (c c' : HartSeatView) → quiet ≡ false → LookedAlone harts by quiet c c' → (states : ℕ → HartState) → Shows harts c states
      → SleepsAlone harts by kind address opaque states bus old (Err Denied) bus old × Shows harts c' states
  denied_alone quiet c c' off looked states shows =
      let a = looked states shows in
      (record { asked = Ok (sleep, site); checked = checked; slept = inl ((λ are. absurd (true≢false (sym (a.0.1 are) ∙ off))), refl, refl, refl) }, a.1)

  pub fallen_alone : (quiet : Bool) (c mid c' : HartSeatView) (fell : Result Sleep SbiError) (bus' : Bus) (new : Store D L g l) → quiet ≡ true → LookedAlone harts by quiet c mid
      → ActsAlone harts mid c' (λ _. FallsAsleepBy sleep by site opaque bus old fell bus' new) (λ states. states) → (states : ℕ → HartState) → Shows harts c states
      → SleepsAlone harts by kind address opaque states bus old fell bus' new × Shows harts c' states
  fallen_alone quiet c mid c' fell bus' new holds looked fallen states shows =
      let a = looked states shows in
      let b = fallen states a.1 in
      (record { asked = Ok (sleep, site); checked = checked; slept = inr (a.0.0 holds, b.0) }, b.1)
