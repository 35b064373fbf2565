-- What a list of events tells of its past.
use Rattle.std.proofs.Common.{◌≡◌, ◌∙◌, ◌⊎◌, ⊎_elim, ℕ, List, [], ◌∷◌, ◌++◌, Option, Some, None, false, refl, sym, ap, subst, append_assoc}
use Rattle.std.proofs.lemmas.List.{append-nil}
use Rattle.board_model.specs.Durable.{Image, Change, Consume, refusal_of}
use Rattle.theorem.specs.Events.{Event, WasOpened, WasAcknowledged, WasRefused, WasDoubtful, WasCut, WasResumed, World, new_world, serial_of, goes_on, Happens, Runs}
use Rattle.theorem.specs.Histories.{IsBeforeAnswer, AreBeforeAnswer, AnswersOnce, EndsCommands, HaveNoOpen, HaveNoCommand}

runs_push : (w : World) (events : List Event) (u : World) (e : Event) (v : World) → Runs w events u → Happens u e v → Runs w (events ++ e ∷ []) v
runs_push w [] u e v run did = (v, subst (λ (x : World). Happens x e v) run did, refl)
runs_push w (d ∷ events) u e v run did = (run.0, run.1, runs_push run.0 events u e v run.2 did)

before_push : (events : List Event) (e : Event) → AreBeforeAnswer events → IsBeforeAnswer e → AreBeforeAnswer (events ++ e ∷ [])
before_push [] e all one = (one, tt)
before_push (d ∷ events) e all one = (all.0, before_push events e all.1 one)

-- what is dropped was dropped by a Consume of this life
abbrev IsTold : List Event → World → Type 0
IsTold events w = (n : ℕ) → w.dropped ≡ Some n → AnswersOnce events n

one_more : (past : List Event) (e : Event) (n : ℕ) → IsBeforeAnswer e → AnswersOnce past n → AnswersOnce (past ++ e ∷ []) n
one_more past e n one was = record {
  before = was.before;
  later = was.later ++ e ∷ [];
  consumed = ap (λ (events : List Event). events ++ e ∷ []) was.consumed ∙ append_assoc was.before (WasAcknowledged Consume ∷ was.later) (e ∷ []);
  world = was.world;
  ran = was.ran;
  image = was.image;
  stands = was.stands;
  serial = was.serial;
  same_life = before_push was.later e was.same_life one;
}

consumed : (past : List Event) (w : World) (image : Option Image) (n : ℕ) → Runs new_world past w → w.state.image ≡ image → serial_of image ≡ Some n → AnswersOnce (past ++ WasAcknowledged Consume ∷ []) n
consumed past w None n run is same = (let no : ⊥ = cc in absurd no)
consumed past w (Some i) n run is same = record {
  before = past;
  later = [];
  consumed = refl;
  world = w;
  ran = run;
  image = i;
  stands = is;
  serial = cc;
  same_life = tt;
}

none_told : (events : List Event) (v : World) → v.dropped ≡ None → IsTold events v
none_told events v none n is = (let no : ⊥ = cc in absurd no)

kept_told : (past : List Event) (w v : World) (e : Event) → IsBeforeAnswer e → v.dropped ≡ w.dropped → IsTold past w → IsTold (past ++ e ∷ []) v
kept_told past w v e one same told n is = one_more past e n one (told n (sym same ∙ is))

step : (past : List Event) (w : World) (e : Event) (v : World) → Runs new_world past w → Happens w e v → IsTold past w → IsTold (past ++ e ∷ []) v
step past w (WasOpened s) v run did told = none_told _ v (ap (λ (x : World). x.dropped) did.2)
step past w (WasAcknowledged Consume) v run did told = λ n is. consumed past w w.state.image n run refl (sym (ap (λ (x : World). x.dropped) did.1) ∙ is)
step past w (WasAcknowledged c) v run did told = kept_told past w v _ tt (ap (λ (x : World). x.dropped) did.1) told
step past w (WasRefused c) v run did told = kept_told past w v _ tt (ap (λ (x : World). x.dropped) did) told
step past w (WasDoubtful c) v run did told = kept_told past w v _ tt (ap (λ (x : World). x.dropped) did.1) told
step past w WasCut v run did told = none_told _ v (ap (λ (x : World). x.dropped) did)
step past w (WasResumed n) v run did told = none_told _ v (ap (λ (x : World). x.dropped) did.1)

all_told : (past : List Event) (w : World) (events : List Event) (v : World) → Runs new_world past w → IsTold past w → Runs w events v → IsTold (past ++ events) v
all_told past w [] v run told more = subst (λ (events : List Event). IsTold events v) (sym (append-nil past)) (subst (IsTold past) (sym more) told)
all_told past w (e ∷ events) v run told more =
    subst (λ (all : List Event). IsTold all v) (append_assoc past (e ∷ []) events)
    (all_told (past ++ e ∷ []) more.0 events v (runs_push new_world past w e more.0 run more.1) (step past w e more.0 run more.1 told) more.2)

pub answered : (events : List Event) (w v : World) (n : ℕ) → Runs new_world events w → Happens w (WasResumed n) v → AnswersOnce events n
answered events w v n run did = all_told [] new_world events w refl (none_told [] new_world refl) run n did.0

pub taken : (w v : World) (c : Change) → Happens w (WasAcknowledged c) v ⊎ Happens w (WasDoubtful c) v → refusal_of w.state c ≡ None
taken w v c did = ⊎_elim (λ one. one.0.2) (λ other. other.0.2) did

-- a life that takes no commands goes on so
no_commands : (w : World) (events : List Event) (v : World) → w.on ≡ false → Runs w events v → HaveNoOpen events → HaveNoCommand events
no_commands w [] v off run here = tt
no_commands w (WasOpened s ∷ events) v off run here = absurd here
no_commands w (WasAcknowledged c ∷ events) v off run here = (let no : ⊥ = (let up = run.1.0.0 in cc) in absurd no)
no_commands w (WasRefused c ∷ events) v off run here = no_commands run.0 events v (ap (λ (x : World). x.on) run.1 ∙ off) run.2 here
no_commands w (WasDoubtful c ∷ events) v off run here = (let no : ⊥ = (let up = run.1.0.0 in cc) in absurd no)
no_commands w (WasCut ∷ events) v off run here = no_commands run.0 events v (ap (λ (x : World). x.on) run.1) run.2 here
no_commands w (WasResumed n ∷ events) v off run here = no_commands run.0 events v (ap (λ (x : World). x.on) run.1.1 ∙ off) run.2 here

ends : (w : World) (e : Event) (v : World) → EndsCommands e → Happens w e v → v.on ≡ false
ends w (WasOpened s) v over did = absurd over
ends w (WasAcknowledged c) v over did = ap (λ (x : World). x.on) did.1 ∙ ap goes_on over
ends w (WasRefused c) v over did = absurd over
ends w (WasDoubtful c) v over did = ap (λ (x : World). x.on) did.1
ends w WasCut v over did = ap (λ (x : World). x.on) did
ends w (WasResumed n) v over did = absurd over

pub ended : (w v u : World) (e : Event) (events : List Event) → EndsCommands e → Happens w e v → Runs v events u → HaveNoOpen events → HaveNoCommand events
ended w v u e events over did run here = no_commands v events u (ends w e v over did) run here
