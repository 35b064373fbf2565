-- Quiet, with the one seat of all harts.
use Rattle.std.proofs.Common.{◌≡◌, ◌≢◌, ◌↔◌, ℕ, ◌<◌, Bool, true, false, IsTrue, MatchBool, if◌then◌else◌, refl, subst, ⊎_elim}
use Rattle.std.specs.Int.{bit_at}
use Rattle.tallies.specs.Notes.{HasNoted}
use Rattle.hsm.specs.{declared.view.{Stage.TheVariants.{Running, Quiet}, Action.TheVariants.{Quieted, Unquieted}}, Words.HartSeatView}
use Rattle.hsm.specs.{Rule.stands, States.{HartState, stopped, Says, is_running, IsStarted, Shows, Tells}, Outcomes.{after_quiet, is_alone}}
use Rattle.hsm.{specs.Calls.KeepsOthers, proofs.{Stand.stands_after, Alone.{keeps, shows_same}, Stages.{at_running, stopped_of}}}

after_runs : (q : Bool) → is_running (if q then Quiet else Running) ≡ true
after_runs true = refl
after_runs false = refl

pub quiet_alone : (harts h found : ℕ) (c c' : HartSeatView) → HasNoted h (after_quiet harts h found) (Quieted found) c.harts c'.harts → IsStarted h c.harts
    → (IsTrue (is_alone harts h found) ↔ ((t : ℕ) → t < harts → t ≢ h → bit_at found t ≡ 0)) → Tells harts c found
    → (states : ℕ → HartState) → Shows harts c states
    → (IsTrue (is_alone harts h found) ↔ ((t : ℕ) → t < harts → t ≢ h → states t ≡ stopped)) × Shows harts c' states
quiet_alone harts h found c c' is stood alone tells states shown = (
  (
    (λ yes. λ t lt ne. stopped_of found t (states t) (tells states shown t lt).0 (alone.0 yes t lt ne)),
    (λ all. alone.1 (λ t lt ne. subst (λ (x : HartState). Says found t x) (all t lt ne) (tells states shown t lt).0)),
  ),
  ⊎_elim
      (λ (s : stands h Running c.harts). shows_same harts h Running (after_quiet harts h found) (Quieted found) c c' is s (at_running Running (after_quiet harts h found) refl refl (after_runs (is_alone harts h found))) (λ k a o. refl) (λ k a o. refl) states shown)
      (λ (s : stands h Quiet c.harts). shows_same harts h Quiet (after_quiet harts h found) (Quieted found) c c' is s (at_running Quiet (after_quiet harts h found) refl refl (after_runs (is_alone harts h found))) (λ k a o. refl) (λ k a o. refl) states shown)
      stood,
)

pub unquiet_alone : (harts h found : ℕ) (c c' : HartSeatView) → HasNoted h Running (Unquieted found) c.harts c'.harts → stands h Quiet c.harts → (states : ℕ → HartState) → Shows harts c states → Shows harts c' states
unquiet_alone harts h found c c' is stood states shown =
    shows_same harts h Quiet Running (Unquieted found) c c' is stood (at_running Quiet Running refl refl refl) (λ k a o. refl) (λ k a o. refl) states shown

module _ (harts h found : ℕ) (c c' : HartSeatView) (is : HasNoted h (after_quiet harts h found) (Quieted found) c.harts c'.harts) (stood : IsStarted h c.harts) where
  pub quiet_stands : MatchBool (is_alone harts h found) (stands h Quiet c'.harts) (stands h Running c'.harts)
  quiet_stands = settle (is_alone harts h found) (⊎_elim
      (λ (s : stands h Running c.harts). stands_after h Running (after_quiet harts h found) (Quieted found) c c' is s)
      (λ (s : stands h Quiet c.harts). stands_after h Quiet (after_quiet harts h found) (Quieted found) c c' is s)
      stood)
    where
      settle : (b : Bool) → stands h (if b then Quiet else Running) c'.harts → MatchBool b (stands h Quiet c'.harts) (stands h Running c'.harts)
      settle true s = s
      settle false s = s

  pub quiet_keeps : KeepsOthers h c.harts c'.harts
  quiet_keeps = ⊎_elim
      (λ (r : stands h Running c.harts). keeps harts h Running (after_quiet harts h found) (Quieted found) c c' is r)
      (λ (r : stands h Quiet c.harts). keeps harts h Quiet (after_quiet harts h found) (Quieted found) c c' is r)
      stood
