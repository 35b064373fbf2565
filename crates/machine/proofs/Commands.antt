-- A durable call as something that a hart of a machine did.
use Rattle.std.proofs.Common.{◌≡◌, ◌⊎◌, ◌≢◌, ◌<◌, ℕ, false, true≢false, List, [], ◌∷◌, Option, Some, None, Result, Ok, Err, refl, sym, ap, ◌∙◌, subst, ⊎_elim, inl, inr}
use Rattle.disk.specs.{declared.{device.{Disk.Ghosts, Lane.{Ghosts as Lanes}}}}
use Rattle.board_model.specs.{Shapes.Size, declared.{durable.Reason.Reason, refusal.Refusal.Refusal}}
use Rattle.hart.specs.State.{ArchState}
use Rattle.hsm.specs.{Words.{HartSeatView, HartView}, declared.view.Stage.{Stage, TheVariants.{Out, Running, Suspended, Quiet}}}
use Rattle.hsm.specs.{Rule.stands, States.{HartState, stopped, started, is_outside, is_running, IsIn}, Views.listed}
use Rattle.store.specs.declared.stores.Store.{Store}
use Rattle.sbi_abi.specs.{Calls.call_of, declared.{call.Call.Call, ret.SbiError.{SbiError, TheVariants.{Failed, Denied, NotSupported}}}}
use Rattle.sbi_abi.specs.declared.call.Call.TheVariants as calls
use Rattle.sbi_calls.specs.{declared.tables.Seats.Seats, Both.{TableState, IsTable, GivesBack, Acts, harts_known}}
use Rattle.susp.specs.{Dozes.{doze_of, dozing}, declared.{buses.{Bus.Bus, Doze.Doze}, sleeps.Sleep.{Sleep, TheVariants.{ToRam, ToDisk}}}}
use Rattle.susp.specs.Sleeps.{AreStopped, Answers, FallsAsleepBy, SleepsBy}
use Rattle.sbi.specs.{Resets.reset_of, declared.{resets.ResetType.ResetType, words.Word.Word}, Words.word_of_sleep}
use Rattle.sbi.specs.Helds.{Refuses, EndsReset, EndsSleep, MakesReset, HeldIn, HeldAlone}
use Rattle.turns.specs.Turns.{Rests, RestsAt}
use Rattle.machine.specs.{declared.machine.Machine.TheInside.Inside, Held.{table_of, shown_by, stage_left, RestsBy}}
use Rattle.machine.{specs.Durables.{StandsAtCall, HeldOf}, proofs.Owners.{its_own, none_beside}}
use Rattle.machine.proofs.Holding.{Finds, shown_as, seats_found, low_number, doze_found, seat_rests, others_rest, DoneAlone}

-- ---- a STARTED hart at rest has nothing in flight
one_stage : (h : ℕ) (vs : List HartView) (a b : Stage) → stands h a vs → stands h b vs → a ≡ b
one_stage h [] a b x y = absurd x
one_stage h (v ∷ vs) a b (inl p) (inl q) = sym p.1 ∙ q.1
one_stage h (v ∷ vs) a b (inl p) (inr q) = absurd (q.0 p.0)
one_stage h (v ∷ vs) a b (inr p) (inl q) = absurd (p.0 q.0)
one_stage h (v ∷ vs) a b (inr p) (inr q) = one_stage h vs a b p.1 q.1

runs_at : (h : ℕ) (c : HartSeatView) → IsIn c h started → RestsAt h c.harts → stands h Running c.harts
runs_at h c is rests =
    ⊎_elim
    (λ (o : stands h Out c.harts). absurd (true≢false (sym is.2 ∙ ap is_running (one_stage h c.harts is.0 Out is.1 o))))
    (⊎_elim
    (λ (o : stands h Running c.harts). o)
    (λ (o : stands h Suspended c.harts). absurd (true≢false (sym is.2 ∙ ap is_running (one_stage h c.harts is.0 Suspended is.1 o)))))
    rests

pub started_acts : {a : Inside} {s : Seats} {i id : ℕ} {x : ArchState} → Finds a s i id x → StandsAtCall id (shown_as a) → Acts x.id Running s
started_acts {a} {s} {i} {id} {x} found is =
    let at_x : listed (table_of a.shape.harts a.seats).states x.id ≡ started = subst (λ (z : ArchState). listed (table_of a.shape.harts a.seats).states z.id ≡ started) (sym found.read) is.0 in
    let at : listed (shown_by a.shape.harts s).states x.id ≡ started = subst (λ (o : Option Seats). listed (table_of a.shape.harts o).states x.id ≡ started) found.taken at_x in
    let shown : IsIn (harts_known s) x.id started = subst (λ (y : HartState). IsIn (harts_known s) x.id y) at ((seats_found found).shows.0.1 x.id (low_number found)) in
    let rests = seat_rests found is.1 in
    (runs_at x.id (harts_known s) shown rests.0, rests.1)

-- ---- what a call leaves of the bus
-- a doze began that was not woken, with every other hart STOPPED, or the bus is as it was and the hart STARTED
abbrev pub LeavesBus : ℕ → ℕ → (ℕ → HartState) → Bus → Bus → Word → Type 0
LeavesBus harts by states bus bus' word =
    ((word ≡ word_of_sleep ToRam) × AreStopped harts by states × (d : Doze) × (d.at.hart ≡ by) × (d.woken ≡ false) × (bus' ≡ record bus { doze = Some d }))
    ⊎ ((stage_left word ≡ Running) × (bus' ≡ bus))

module _ (harts by : ℕ) (states : ℕ → HartState) (bus bus' : Bus) where
  refused_bus : (e : SbiError) (s t : ArchState) (word : Word) → Refuses e s t word → bus' ≡ bus → LeavesBus harts by states bus bus' word
  refused_bus e s t word p same = inr (ap stage_left p.1, same)

  asleep_bus : (s t : ArchState) (word : Word) → EndsSleep (Ok ToDisk) s t word → bus' ≡ bus → LeavesBus harts by states bus bus' word
  asleep_bus s t word p same = inr (ap stage_left p.1, same)

  -- as it fell asleep
  fell_bus : (fell want : Result Sleep SbiError) (s t : ArchState) (word : Word) → fell ≡ want → EndsSleep fell s t word → EndsSleep want s t word
  fell_bus fell want s t word e p = subst (λ (f : Result Sleep SbiError). EndsSleep f s t word) e p

  reset_bus : {D L : Type 0} {g : Ghosts D L} {l : Lanes L} (asked : Result (ResetType × Reason) SbiError) (s t : ArchState) (old new : Store D L g l) (word : Word) → MakesReset asked s t old new word → bus' ≡ bus
      → LeavesBus harts by states bus bus' word
  reset_bus (Err e) s t old new word p same = refused_bus e s t word p.0 same
  reset_bus (Ok reset) s t old new word (r, asked, ends) same = ended r ends
    where
      ended : (r : Result ℕ Refusal) → EndsReset reset.0 r s t word → LeavesBus harts by states bus bus' word
      ended (Ok n) q = inr (ap stage_left q.1, same)
      ended (Err e) q = refused_bus Failed s t word q same

  answers_bus : (r : Result ℕ Refusal) (fell : Result Sleep SbiError) (s t : ArchState) (word : Word) → Answers r fell → EndsSleep fell s t word → bus' ≡ bus → LeavesBus harts by states bus bus' word
  answers_bus (Ok n) fell s t word e p same = asleep_bus s t word (fell_bus fell (Ok ToDisk) s t word e p) same
  answers_bus (Err f) fell s t word e p same = refused_bus Failed s t word (fell_bus fell (Err Failed) s t word e p) same

  module _ {D L : Type 0} {g : Ghosts D L} {l : Lanes L} (opaque : ℕ) (s t : ArchState) (old new : Store D L g l) (fell : Result Sleep SbiError) (word : Word) (ends : EndsSleep fell s t word) where
    falls_bus : (sleep : Sleep) (site : ℕ) → AreStopped harts by states → FallsAsleepBy sleep by site opaque bus old fell bus' new → LeavesBus harts by states bus bus' word
    falls_bus ToRam site are p = inl ((fell_bus fell (Ok ToRam) s t word p.0 ends).1, are, dozing by site opaque, refl, refl, p.1)
    falls_bus ToDisk site are (r, asks, answers, same) = answers_bus r fell s t word answers ends same

    slept_bus : (asked : Result (Sleep × ℕ) SbiError) → SleepsBy harts by asked opaque states bus old fell bus' new → LeavesBus harts by states bus bus' word
    slept_bus (Err e) p = refused_bus e s t word (fell_bus fell (Err e) s t word p.0 ends) p.1
    slept_bus (Ok asked) (inl (busy, is, same, still)) = refused_bus Denied s t word (fell_bus fell (Err Denied) s t word is ends) same
    slept_bus (Ok asked) (inr (are, falls)) = falls_bus asked.0 asked.1 are falls

-- the memory stays
pub leaves_memory : (harts by : ℕ) (states : ℕ → HartState) (bus bus' : Bus) (word : Word) → LeavesBus harts by states bus bus' word → bus'.ram ≡ bus.ram
leaves_memory harts by states bus bus' word (inl (is, are, d, at, fresh, e)) = ap (λ (b : Bus). b.ram) e
leaves_memory harts by states bus bus' word (inr (none, e)) = ap (λ (b : Bus). b.ram) e

-- ---- with a store
module _ {D L : Type 0} {g : Ghosts D L} {l : Lanes L} where
  pub leaves_bus : (harts : ℕ) (call : Call) (s t : ArchState) (x : TableState) (bus bus' : Bus) (old new : Store D L g l) (word : Word) → HeldIn harts call s t x bus bus' old new word → LeavesBus harts s.id (listed x.states) bus bus' word
  leaves_bus harts (calls.SystemReset kind reason) s t x bus bus' old new word p = reset_bus harts s.id (listed x.states) bus bus' (reset_of kind reason) s t old new word p.0 p.1
  leaves_bus harts (calls.SystemSuspend kind address opaque) s t x bus bus' old new word p =
      slept_bus harts s.id (listed x.states) bus bus' opaque s t old new p.0 word p.2 p.1.asked p.1.slept
  leaves_bus harts call s t x bus bus' old new word p = refused_bus harts s.id (listed x.states) bus bus' NotSupported s t word p.0 p.2

  -- after the call the tables show what they showed
  pub held_then : (n m : ℕ) (call : Call) (s t : ArchState) (a b c : Seats) (bus bus' : Bus) (old new : Store D L g l) (word : Word) → n ≡ m → HeldAlone n call s t a b bus bus' old new word
      → ((x : TableState) → IsTable n b x → IsTable n c x) → HeldAlone m call s t a c bus bus' old new word
  held_then n m call s t a b c bus bus' old new word e did still =
      subst (λ (k : ℕ). HeldAlone k call s t a c bus bus' old new word) e (λ x are. let r = did x are in (r.0, still x r.1))

  pub held_action : (size : Size) (s t : ArchState) (a b : Seats) (bus bus' : Bus) (old new : Store D L g l) (word : Word) → HeldAlone size.harts (call_of s) s t a b bus bus' old new word
      → DoneAlone (λ z x y. HeldOf z bus.doze bus'.doze x y old new word) size s bus.ram t bus'.ram a b
  held_action size s t a b bus bus' old new word did x are =
      let r = did x are in
      let same = leaves_memory size.harts s.id (listed x.states) bus bus' word (leaves_bus size.harts (call_of s) s t x bus bus' old new word r.0) in
      (x, (r.0, refl, same), r.1)

-- ---- how the harts then stand
-- a hart that a seat of all harts shows STOPPED is not quiet
not_quiet : (h : ℕ) (c : HartSeatView) → IsIn c h stopped → stands h Quiet c.harts → ⊥
not_quiet h c is q = true≢false (sym is.2 ∙ ap is_outside (one_stage h c.harts is.0 Quiet is.1 q))

-- where a hart rests that is not quiet
rests_unless : (o : Option Doze) (h : ℕ) (s : Seats) → RestsBy o h s → (Acts h Quiet s → ⊥) → Rests h s
rests_unless None h s r never = r
rests_unless (Some d) h s r never = absurd (never r)

module _ {a : Inside} {s s' : Seats} {i id : ℕ} {x : ArchState} (found : Finds a s i id x) (is : StandsAtCall id (shown_as a)) (bus' : Bus) (word : Word)
    (left : LeavesBus a.shape.harts x.id (listed (shown_by a.shape.harts s).states) a.bus bus' word) (gives : GivesBack a.tables x.id s s') (acts : Acts x.id (stage_left word) s') where
  -- the hart of the call rests, or is quiet in its doze
  pub own_then : RestsBy (doze_of x.id bus'.doze) x.id s'
  own_then =
      elim left [
        | inl p ↦ (
            let quiet : Acts x.id Quiet s' = subst (λ (h : Word). Acts x.id (stage_left h) s') p.0 acts in
            let e : doze_of x.id bus'.doze ≡ Some p.2 = ap (λ (b : Bus). doze_of x.id b.doze) p.5 ∙ its_own x.id p.2 p.3 in
            subst (λ (o : Option Doze). RestsBy o x.id s') (sym e) quiet)
        | inr p ↦ (
            let run : Acts x.id Running s' = subst (λ (st : Stage). Acts x.id st s') p.0 acts in
            let rests : Rests x.id s' = (inr (inl run.0), run.1) in
            let e : doze_of x.id bus'.doze ≡ None = ap (λ (b : Bus). doze_of x.id b.doze) p.1 ∙ (doze_found found ∙ is.1) in
            subst (λ (o : Option Doze). RestsBy o x.id s') (sym e) rests)
      ]

  -- and so does every other
  pub others_then : (k : ℕ) → k < a.shape.harts → k ≢ x.id → RestsBy (doze_of k bus'.doze) k s'
  others_then k below ne =
      let before = (seats_found found).rests k below in
      elim left [
        | inl p ↦ (
            let shown : IsIn (harts_known s) k stopped = subst (λ (y : HartState). IsIn (harts_known s) k y) (p.1 k below ne) ((seats_found found).shows.0.1 k below) in
            let rests : Rests k s = rests_unless (doze_of k a.bus.doze) k s before (λ q. not_quiet k (harts_known s) shown q.0) in
            let e : doze_of k bus'.doze ≡ None = ap (λ (b : Bus). doze_of k b.doze) p.5 ∙ none_beside x.id k p.2 p.3 ne in
            subst (λ (o : Option Doze). RestsBy o k s') (sym e) (others_rest None x.id k a.tables s s' gives ne rests))
        | inr p ↦ (
            let e : doze_of k bus'.doze ≡ doze_of k a.bus.doze = ap (λ (b : Bus). doze_of k b.doze) p.1 in
            subst (λ (o : Option Doze). RestsBy o k s') (sym e) (others_rest (doze_of k a.bus.doze) x.id k a.tables s s' gives ne before))
      ]
