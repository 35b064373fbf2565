-- Each image is a suspension's, and goes on once: the images that an open may find are of the suspensions that may stand.
use Rattle.std.proofs.Common.{◌≡◌, ◌⊎◌, ◌∙◌, ℕ, true, false, List, [], ◌∷◌, Some, None, inl, inr, refl, sym, ap, subst}
use Rattle.board_model.{proofs.Attempts.attempt_image, specs.{Shapes.Size, Views.change_of, declared.durable.Command.Command}}
use Rattle.board_model.specs.Durable.{DurableState, Image, Change, Suspend, Consume, Discard, Attempt, after}
use Rattle.board_model.specs.declared.refusal.Refusal.{Refusal, TheVariants.{Device, Down, NoImage, Memory}}
use Rattle.board_model.specs.declared.durable.Command.TheVariants as commands
use Rattle.disk.specs.FaultState.{FaultState}
use Rattle.hart.specs.State.{ArchState, started}
use Rattle.theorem.specs.Story.{Now, begin, settled, acknowledged, Fails, May, Opens, Decides, Stops, Commands, Loads, Resumes, Step, Tells}
use Rattle.theorem.specs.{Images.{standing, IsOf, IsOfOne, MayShow, ShowsSuspended}, declared.asks.{Asked.Asked, Seen.Seen}}
use Rattle.theorem.{specs.declared.asks.Seen.TheVariants.{Opened, Acked, Read, Woke, Denied, NotOpen, Done}, proofs.Stays.no_doubt}
use Rattle.theorem.specs.declared.asks.Asked.TheVariants as asked

-- the image is that suspension's
abbrev IsImage : Change → Image → Type 0
IsImage (Suspend hart address opaque memory) i = (i.hart ≡ hart) × (i.address ≡ address) × (i.opaque ≡ opaque) × (i.memory ≡ memory)
IsImage c i = ⊥

abbrev IsIn : List Change → Image → Type 0
IsIn [] i = ⊥
IsIn (c ∷ images) i = IsImage c i ⊎ IsIn images i

abbrev Covers : List Change → DurableState → Type 0
Covers images s = (i : Image) → s.image ≡ Some i → IsIn images i

-- and so is each image that an open may find
abbrev Holds : List Change → Now → Type 0
Holds images w = (s : DurableState) → May w s → Covers images s

abbrev IsOther : Change → Type 0
IsOther (Suspend hart address opaque memory) = ⊥
IsOther c = Unit {0}

other : (c : Command) → IsOther (change_of c)
other (commands.Slot n) = tt
other (commands.Reset r) = tt
other commands.Consume = tt
other commands.Discard = tt
other (commands.Tries n boots) = tt
other commands.Good = tt
other commands.Attempt = tt

none_covers : (images : List Change) (s : DurableState) → s.image ≡ None → Covers images s
none_covers images s none i some = let no : None ≡ Some i = sym none ∙ some in cc

-- what is no suspension makes no image
covers_after : (images : List Change) (s : DurableState) (c : Change) → IsOther c → Covers images s → Covers images (after s c)
covers_after images s (Suspend hart address opaque memory) is covers = absurd is
covers_after images s Consume is covers = none_covers images (after s Consume) refl
covers_after images s Discard is covers = none_covers images (after s Discard) refl
covers_after images s Attempt is covers = λ i some. covers i (sym (attempt_image s s.trial) ∙ some)
covers_after images s c is covers = covers

covers_suspended : (images : List Change) (s : DurableState) (hart address opaque : ℕ) (memory : List ℕ) → Covers (Suspend hart address opaque memory ∷ images) (after s (Suspend hart address opaque memory))
covers_suspended images s hart address opaque memory i some =
    let made : Image = record { serial = s.next; hart = hart; address = address; opaque = opaque; memory = memory } in
    let same : made ≡ i = cc in
    inl (subst (IsImage (Suspend hart address opaque memory)) same (refl, refl, refl, refl))

same_holds : (images : List Change) (w v : Now) → v.state ≡ w.state → v.doubt ≡ w.doubt → Holds images w → Holds images v
same_holds images w v state doubt holds s (inl is) = holds s (inl (is ∙ state))
same_holds images w v state doubt holds s (inr (c, some, is)) = holds s (inr (c, sym doubt ∙ some, is ∙ ap (λ (t : DurableState). after t c) state))

fails_holds : (images : List Change) (w v : Now) → Fails w v → Holds images w → Holds images v
fails_holds images w v fails holds = same_holds images w v (ap (λ (x : Now). x.state) fails.1) (ap (λ (x : Now). x.doubt) fails.1) holds

stays_holds : (images : List Change) (w v : Now) → v ≡ w → Holds images w → Holds images v
stays_holds images w v is holds = subst (Holds images) (sym is) holds

-- a state that is found alone
alone : (images : List Change) (w : Now) → w.doubt ≡ None → Covers images w.state → Holds images w
alone images w none covers s (inl is) = subst (Covers images) (sym is) covers
alone images w none covers s (inr (c, some, is)) = absurd (no_doubt w.doubt c none some)

acked_holds : (images : List Change) (size : Size) (w v : Now) (c : Change) → Covers images (after w.state c) → Decides size w c None → v ≡ acknowledged w c → Holds images v
acked_holds images size w v c covers goes is = stays_holds images (acknowledged w c) v is (alone images (acknowledged w c) goes.0.0 covers)

doubted_holds : (images : List Change) (w : Now) (c : Change) → Covers images w.state → Covers images (after w.state c) → Holds images (record w { doubt = Some c })
doubted_holds images w c before then s (inl is) = subst (Covers images) (sym is) before
doubted_holds images w c before then s (inr (d, doubt, is)) =
    let same : c ≡ d = cc in
    subst (Covers images) (sym is) (subst (λ (x : Change). Covers images (after w.state x)) same then)

stops_holds : (images : List Change) (w v : Now) (e : Refusal) (c : Change) → IsOther c → Stops w e c v → Holds images w → Holds images v
stops_holds images w v Device c is stops holds = fails_holds images w v stops holds
stops_holds images w v Down c is stops holds =
    let now = holds w.state (inl refl) in
    fails_holds images (record w { doubt = Some c }) v stops (doubted_holds images w c now (covers_after images w.state c is now))
stops_holds images w v Memory (Suspend hart address opaque memory) is stops holds = absurd is
stops_holds images w v e c is stops holds = absurd stops

commands_hold : (images : List Change) (size : Size) (w v : Now) (c : Change) (seen : Seen) → IsOther c → Commands size w c seen v → Holds images w → Holds images v
commands_hold images size w v c (Acked n) is did holds = acked_holds images size w v c (covers_after images w.state c is (holds w.state (inl refl))) did.0 did.2
commands_hold images size w v c (Denied e) is (inl did) holds = stays_holds images w v did.1 holds
commands_hold images size w v c (Denied e) is (inr did) holds = stops_holds images w v e c is did.1 holds
commands_hold images size w v c seen is did holds = absurd did

loads_hold : (images : List Change) (w v : Now) (seen : Seen) → Loads w seen v → Holds images w → Holds images v
loads_hold images w v (Read memory) did holds = stays_holds images w v did.3 holds
loads_hold images w v (Denied NoImage) did holds = stays_holds images w v did.1 holds
loads_hold images w v (Denied Device) did holds = fails_holds images w v did holds
loads_hold images w v (Denied Memory) did holds = stays_holds images w v did holds
loads_hold images w v seen did holds = absurd did

denied_holds : (images : List Change) (size : Size) (w v : Now) (e : Refusal) → Resumes size w (Denied e) v → Holds images w → Holds images v
denied_holds images size w v e (inl did) holds = loads_hold images w v (Denied e) did.1 holds
denied_holds images size w v e (inr did) holds = commands_hold images size w v Consume (Denied e) tt did.1 holds

opens_hold : (images : List Change) (w v : Now) (seen : Seen) → Opens w seen v → Holds images w → Holds images v
opens_hold images w v (Opened found) did holds = stays_holds images (settled did.0 true w.faults) v did.3 (alone images (settled did.0 true w.faults) refl (holds did.0 did.1))
opens_hold images w v (Denied Device) did holds = fails_holds images (record w { on = false }) v did holds
opens_hold images w v (Denied Memory) did holds = stays_holds images (record w { on = false }) v did holds
opens_hold images w v seen did holds = absurd did

-- a suspension
module _ (images : List Change) (w : Now) (hart address opaque : ℕ) (memory : List ℕ) (holds : Holds images w) where
  abbrev suspension : Change
  suspension = Suspend hart address opaque memory

  more : Holds (suspension ∷ images) w
  more s may i some = inr (holds s may i some)

  down_holds : (size : Size) (v : Now) → Commands size w suspension (Denied Down) v → Holds (suspension ∷ images) v
  down_holds size v (inl did) = stays_holds (suspension ∷ images) w v did.1 more
  down_holds size v (inr did) =
      fails_holds (suspension ∷ images) (record w { doubt = Some suspension }) v did.1
      (doubted_holds (suspension ∷ images) w suspension (more w.state (inl refl)) (covers_suspended images w.state hart address opaque memory))

  stopped_holds : (v : Now) (e : Refusal) → (e ≡ Down → ⊥) → Stops w e suspension v → Holds images v
  stopped_holds v Device not stops = fails_holds images w v stops holds
  stopped_holds v Down not stops = absurd (not refl)
  stopped_holds v Memory not stops = stays_holds images w v stops holds
  stopped_holds v e not stops = absurd stops

  refused_holds : (size : Size) (v : Now) (e : Refusal) → (e ≡ Down → ⊥) → Commands size w suspension (Denied e) v → Holds images v
  refused_holds size v e not (inl did) = stays_holds images w v did.1 holds
  refused_holds size v e not (inr did) = stopped_holds v e not did.1

-- what shows the image is of the suspension that made it
read_of : (c : Change) (i : Image) (memory : List ℕ) → IsImage c i → memory ≡ i.memory → IsOf (Read memory) c
read_of (Suspend hart address opaque kept) i memory is same = same ∙ is.3
read_of c i memory is same = absurd is

woke_of : (c : Change) (i : Image) (hart : ArchState) (memory : List ℕ) → IsImage c i → hart ≡ started i.hart i.address i.opaque → memory ≡ i.memory → IsOf (Woke hart memory) c
woke_of (Suspend number address opaque kept) i hart memory is starts same = (
  starts
      ∙ (ap (λ (n : ℕ). started n i.address i.opaque) is.0 ∙ (ap (λ (n : ℕ). started number n i.opaque) is.1 ∙ ap (λ (n : ℕ). started number address n) is.2)),
  same ∙ is.3,
)
woke_of c i hart memory is starts same = absurd is

reads_one : (images : List Change) (i : Image) (memory : List ℕ) → IsIn images i → memory ≡ i.memory → IsOfOne (Read memory) images
reads_one [] i memory is same = absurd is
reads_one (c ∷ images) i memory (inl is) same = inl (read_of c i memory is same)
reads_one (c ∷ images) i memory (inr is) same = inr (reads_one images i memory is same)

wakes_one : (images : List Change) (i : Image) (hart : ArchState) (memory : List ℕ) → IsIn images i → hart ≡ started i.hart i.address i.opaque → memory ≡ i.memory → IsOfOne (Woke hart memory) images
wakes_one [] i hart memory is starts same = absurd is
wakes_one (c ∷ images) i hart memory (inl is) starts same = inl (woke_of c i hart memory is starts same)
wakes_one (c ∷ images) i hart memory (inr is) starts same = inr (wakes_one images i hart memory is starts same)

step_shows : (size : Size) (w v : Now) (ask : Asked) (seen : Seen) (images : List Change) → Holds images w → Step size w ask seen v → MayShow seen images × Holds (standing ask seen images) v
step_shows size w v asked.Open (Opened found) images holds did = (tt, opens_hold images w v (Opened found) did holds)
step_shows size w v asked.Open (Denied e) images holds did = (tt, opens_hold images w v (Denied e) did holds)
step_shows size w v asked.Open seen images holds did = absurd did
step_shows size w v (asked.Arm fault) Done images holds did = (tt, stays_holds images _ v did.1 holds)
step_shows size w v (asked.Arm fault) seen images holds did = absurd (let is = did.0 in cc)
step_shows size w v (asked.Cut fill) Done images holds did = (tt, stays_holds images _ v did.1 holds)
step_shows size w v (asked.Cut fill) seen images holds did = absurd (let is = did.0 in cc)
step_shows size w v (asked.Command command) NotOpen images holds did = (tt, stays_holds images w v did.1 holds)
step_shows size w v (asked.Command command) (Acked n) images holds did = (tt, commands_hold images size w v (change_of command) (Acked n) (other command) did.1 holds)
step_shows size w v (asked.Command command) (Denied e) images holds did = (tt, commands_hold images size w v (change_of command) (Denied e) (other command) did.1 holds)
step_shows size w v (asked.Command command) seen images holds did = absurd did.1
step_shows size w v (asked.Suspend memory at) NotOpen images holds did = (tt, stays_holds images w v did.1 holds)
step_shows size w v (asked.Suspend memory at) (Acked n) images holds did = (
  tt,
  acked_holds (Suspend at.hart at.address at.opaque memory ∷ []) size w v (Suspend at.hart at.address at.opaque memory) (covers_suspended [] w.state at.hart at.address at.opaque memory) did.1.0 did.1.2,
)
step_shows size w v (asked.Suspend memory at) (Denied Down) images holds did = (tt, down_holds images w at.hart at.address at.opaque memory holds size v did.1)
step_shows size w v (asked.Suspend memory at) (Denied e) images holds did = (tt, refused_holds images w at.hart at.address at.opaque memory holds size v e (λ is. cc) did.1)
step_shows size w v (asked.Suspend memory at) seen images holds did = absurd did.1
step_shows size w v asked.Load NotOpen images holds did = (tt, stays_holds images w v did.1 holds)
step_shows size w v asked.Load (Read memory) images holds did =
    let is = did.1 in
    (reads_one images is.0 memory (holds w.state (inl refl) is.0 is.1) is.2, loads_hold images w v (Read memory) did.1 holds)
step_shows size w v asked.Load (Denied e) images holds did = (tt, loads_hold images w v (Denied e) did.1 holds)
step_shows size w v asked.Load seen images holds did = absurd did.1
step_shows size w v asked.Resume NotOpen images holds did = (tt, stays_holds images w v did.1 holds)
step_shows size w v asked.Resume (Woke hart memory) images holds did =
    let is = did.1 in
    (wakes_one images is.0 hart memory (holds w.state (inl refl) is.0 is.1) is.2 is.3, acked_holds [] size w v Consume (none_covers [] (after w.state Consume) refl) is.4 is.5)
step_shows size w v asked.Resume (Denied e) images holds did = (tt, denied_holds images size w v e did.1 holds)
step_shows size w v asked.Resume seen images holds did = absurd did.1

shows : (size : Size) (w v : Now) (asks : List Asked) (answers : List Seen) (images : List Change) → Holds images w → Tells size w asks answers v → ShowsSuspended images asks answers
shows size w v [] answers images holds told = tt
shows size w v (ask ∷ asks) [] images holds told = tt
shows size w v (ask ∷ asks) (seen ∷ answers) images holds told =
    let step = step_shows size w told.0 ask seen images holds told.1 in
    (step.0, shows size told.0 v asks answers (standing ask seen images) step.1 told.2)

pub shows_suspended : (size : Size) (m : FaultState) (v : Now) (asks : List Asked) (answers : List Seen) → Tells size (begin m) asks answers v → ShowsSuspended [] asks answers
shows_suspended size m v asks answers told = shows size (begin m) v asks answers [] (alone [] (begin m) refl (none_covers [] (begin m).state refl)) told
