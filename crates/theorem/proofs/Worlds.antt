-- What holds of a world, from event to event.
use Rattle.std.proofs.Common.{◌≡◌, ◌∙◌, ⊎_elim, ℕ, ◌+◌, ◌<◌, ◌≤◌, List, [], ◌∷◌, ◌++◌, Option, Some, None, true, refl, sym, ap, subst, arith}
use Rattle.std.specs.Bool.{⊤}
use Rattle.board_model.{specs.Durable.{DurableState, Image, Change, Consume, formatted, after, fold}, proofs.Steps.{by_image, image_after}}
use Rattle.theorem.specs.Events.{Event, WasOpened, WasAcknowledged, WasRefused, WasDoubtful, WasCut, WasResumed, World, new_world, Finds, serial_of, dropped_by, Happens, Runs, AreBelow, IsAbove, Rises}

-- the image's serial was given out, and no hart with it or a later one was answered
abbrev pub Fresh : List ℕ → ℕ → Option Image → Type 0
Fresh resumed next None = ⊤
Fresh resumed next (Some i) = (i.serial < next) × AreBelow resumed i.serial

-- and so was the one that was dropped, before any image that stands
abbrev pub Held : List ℕ → ℕ → Option Image → Option ℕ → Type 0
Held resumed next image None = ⊤
Held resumed next None (Some n) = (n < next) × AreBelow resumed n
Held resumed next (Some i) (Some n) = (n < i.serial) × AreBelow resumed n

pub record IsSound (w : World) : Type 0 where
  pub folded : w.state ≡ fold formatted w.kept
  pub rises : Rises w.resumed
  pub below : AreBelow w.resumed w.state.next
  pub fresh : Fresh w.resumed w.state.next w.state.image
  pub held : Held w.resumed w.state.next w.state.image w.dropped

pub fold_more : (s : DurableState) (cs : List Change) (c : Change) → fold s (cs ++ c ∷ []) ≡ after (fold s cs) c
fold_more s [] c = refl
fold_more s (d ∷ cs) c = fold_more (after s d) cs c

below_more : (ms : List ℕ) (m n : ℕ) → m ≤ n → AreBelow ms m → AreBelow ms n
below_more [] m n le below = tt
below_more (x ∷ ms) m n le below = (omega (arith, le, below.0), below_more ms m n le below.1)

above_push : (x : ℕ) (ms : List ℕ) (n : ℕ) → IsAbove x ms → x < n → IsAbove x (ms ++ n ∷ [])
above_push x [] n above lt = (lt, tt)
above_push x (m ∷ ms) n above lt = (above.0, above_push x ms n above.1 lt)

rises_push : (ms : List ℕ) (n : ℕ) → Rises ms → AreBelow ms n → Rises (ms ++ n ∷ [])
rises_push [] n rises below = (tt, tt)
rises_push (m ∷ ms) n rises below = (above_push m ms n rises.0 below.0, rises_push ms n rises.1 below.1)

below_push : (ms : List ℕ) (n k : ℕ) → AreBelow ms k → n < k → AreBelow (ms ++ n ∷ []) k
below_push [] n k below lt = (lt, tt)
below_push (m ∷ ms) n k below lt = (below.0, below_push ms n k below.1 lt)

-- a state after a command
abbrev pub InOrder : List ℕ → DurableState → Type 0
InOrder resumed s = AreBelow resumed s.next × Fresh resumed s.next s.image

good_after : (resumed : List ℕ) (s : DurableState) (c : Change) → InOrder resumed s → InOrder resumed (after s c)
good_after resumed s c good =
    image_after (λ next image. AreBelow resumed next × Fresh resumed next image) s c (by_image c)
    (λ i is. (below_more resumed s.next (s.next + 1) (omega arith) good.0, (omega (arith, is), subst (AreBelow resumed) (sym is) good.0)))
    (good.0, tt)
    good

held_none : (resumed : List ℕ) (next : ℕ) (image : Option Image) → Held resumed next image None
held_none resumed next None = tt
held_none resumed next (Some i) = tt

-- what was dropped stays before what stands
held_less : (resumed : List ℕ) (next : ℕ) (image : Option Image) (dropped : Option ℕ) → Fresh resumed next image → Held resumed next image dropped → Held resumed next None dropped
held_less resumed next image None fresh held = tt
held_less resumed next None (Some n) fresh held = held
held_less resumed next (Some i) (Some n) fresh held = (omega (arith, fresh.0, held.0), held.1)

held_suspend : (resumed : List ℕ) (next : ℕ) (image : Option Image) (dropped : Option ℕ) (i : Image) → i.serial ≡ next → Fresh resumed next image → Held resumed next image dropped → Held resumed (next + 1) (Some i) dropped
held_suspend resumed next image None i is fresh held = tt
held_suspend resumed next None (Some n) i is fresh held = (omega (arith, is, held.0), held.1)
held_suspend resumed next (Some j) (Some n) i is fresh held = (omega (arith, is, held.0, fresh.0), held.1)

held_consume : (resumed : List ℕ) (next : ℕ) (image : Option Image) → Fresh resumed next image → Held resumed next None (serial_of image)
held_consume resumed next None fresh = tt
held_consume resumed next (Some i) fresh = fresh

held_by : (w : World) (c : Change) → IsSound w → Held w.resumed (after w.state c).next (after w.state c).image w.dropped
held_by w c sound =
    image_after (λ next image. Held w.resumed next image w.dropped) w.state c (by_image c)
    (λ i is. held_suspend w.resumed w.state.next w.state.image w.dropped i is sound.fresh sound.held)
    (held_less w.resumed w.state.next w.state.image w.dropped sound.fresh sound.held)
    sound.held

held_after : (w : World) (c : Change) → IsSound w → Held w.resumed (after w.state c).next (after w.state c).image (dropped_by w c)
held_after w Consume sound = held_consume w.resumed w.state.next w.state.image sound.fresh
held_after w c sound = held_by w c sound

-- an answer
resumed_fresh : (resumed : List ℕ) (next : ℕ) (image : Option Image) (n : ℕ) → Fresh resumed next image → Held resumed next image (Some n) → Fresh (resumed ++ n ∷ []) next image
resumed_fresh resumed next None n fresh held = tt
resumed_fresh resumed next (Some i) n fresh held = (fresh.0, below_push resumed n i.serial fresh.1 held.0)

held_below : (resumed : List ℕ) (next : ℕ) (image : Option Image) (n : ℕ) → Fresh resumed next image → Held resumed next image (Some n) → (n < next) × AreBelow resumed n
held_below resumed next None n fresh held = held
held_below resumed next (Some i) n fresh held = (omega (arith, fresh.0, held.0), held.1)

found_sound : (w : World) (s : DurableState) (kept : List Change) → IsSound w → Finds w s kept → IsSound (record { state = s; doubt = None; kept = kept; on = true; dropped = None; resumed = w.resumed })
found_sound w s kept sound finds =
    ⊎_elim
    (λ same. made (same.0 ∙ sound.folded ∙ ap (fold formatted) (sym same.1)) (subst (InOrder w.resumed) (sym same.0) (sound.below, sound.fresh)))
    (λ took. made (took.2 ∙ ap (λ (t : DurableState). after t took.0) sound.folded ∙ sym (fold_more formatted w.kept took.0) ∙ ap (fold formatted) (sym took.3)) (subst (InOrder w.resumed) (sym took.2) (good_after w.resumed w.state took.0 (sound.below, sound.fresh))))
    finds
  where
    made : s ≡ fold formatted kept → InOrder w.resumed s → IsSound (record { state = s; doubt = None; kept = kept; on = true; dropped = None; resumed = w.resumed })
    made folded good = record { folded = folded; rises = sound.rises; below = good.0; fresh = good.1; held = held_none w.resumed s.next s.image }

step : (w : World) (e : Event) (v : World) → IsSound w → Happens w e v → IsSound v
step w (WasOpened s) v sound did = subst IsSound (sym did.2) (found_sound w s did.0 sound did.1)
step w (WasAcknowledged c) v sound did =
    let good = good_after w.resumed w.state c (sound.below, sound.fresh) in
    subst IsSound (sym did.1)
    (record {
      folded = ap (λ (t : DurableState). after t c) sound.folded ∙ sym (fold_more formatted w.kept c);
      rises = sound.rises;
      below = good.0;
      fresh = good.1;
      held = held_after w c sound;
    })
step w (WasRefused c) v sound did = subst IsSound (sym did) sound
step w (WasDoubtful c) v sound did = subst IsSound (sym did.1) (record { folded = sound.folded; rises = sound.rises; below = sound.below; fresh = sound.fresh; held = sound.held })
step w WasCut v sound did = subst IsSound (sym did) (record { folded = sound.folded; rises = sound.rises; below = sound.below; fresh = sound.fresh; held = held_none w.resumed w.state.next w.state.image })
step w (WasResumed n) v sound did =
    let held : Held w.resumed w.state.next w.state.image (Some n) = subst (Held w.resumed w.state.next w.state.image) did.0 sound.held in
    let below = held_below w.resumed w.state.next w.state.image n sound.fresh held in
    subst IsSound (sym did.1)
    (record {
      folded = sound.folded;
      rises = rises_push w.resumed n sound.rises below.1;
      below = below_push w.resumed n w.state.next sound.below below.0;
      fresh = resumed_fresh w.resumed w.state.next w.state.image n sound.fresh held;
      held = held_none (w.resumed ++ n ∷ []) w.state.next w.state.image;
    })

pub sound_run : (w : World) (events : List Event) (v : World) → IsSound w → Runs w events v → IsSound v
sound_run w [] v sound run = subst IsSound (sym run) sound
sound_run w (e ∷ events) v sound run = sound_run run.0 events v (step w e run.0 sound run.1) run.2

pub new_sound : IsSound new_world
new_sound = record { folded = refl; rises = tt; below = tt; fresh = tt; held = tt }
