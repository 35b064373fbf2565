-- What the store says of its calls, as events.
use Rattle.std.proofs.Common.{◌≡◌, ◌∙◌, ◌⊎◌, inl, inr, ℕ, List, [], ◌∷◌, ◌++◌, Some, None, Result, Ok, Err, Bool, true, false, refl, sym, ap, subst}
use Rattle.board_model.{specs.Durable.{DurableState, Image, Change, Consume, refusal_of, after, ends_life}, proofs.Table.of_table}
use Rattle.board_model.specs.declared.refusal.Refusal.{Refusal, TheVariants.{BadShape, Device, Down, Over, JournalFull, Memory}}
use Rattle.hart.specs.State.{ArchState as HartState}
use Rattle.susp.specs.Wakes.{IsWoken}
use Rattle.store.specs.Lives.{Life, now_of, begun, Reaches, Refused, Applied, SuspendRefused, SuspendApplied, Suspended}
use Rattle.theorem.proofs.Worlds.{fold_more}
use Rattle.theorem.specs.Events.{World, WasOpened, WasAcknowledged, WasDoubtful, WasResumed, Finds, Goes, Happens, serial_of, dropped_by, goes_on, goes_with, event_of, IsLived, Leads}

pub opened : (w : World) (s : DurableState) (kept : List Change) → Finds w s kept → Leads w (WasOpened s) (begun s)
opened w s kept finds = (
  record { state = s; doubt = None; kept = kept; on = true; dropped = None; resumed = w.resumed },
  (kept, finds, refl),
  record { state = refl; doubt = refl; on = refl },
)

still : (w : World) (old new : Life) → IsLived w old → new ≡ old → IsLived w new
still w old new lived same = subst (IsLived w) (sym same) lived

-- what an open finds of what a life left
pub finds_state : (w : World) (life : Life) (s : DurableState) → IsLived w life → s ≡ now_of life → (kept : List Change) × Finds w s kept
finds_state w life s lived is = (w.kept, inl (is ∙ sym lived.state, refl))

pub finds_either : (w : World) (life : Life) (c : Change) (s : DurableState) → IsLived w life → life.doubt ≡ Some c → (s ≡ now_of life) ⊎ (s ≡ after (now_of life) c) → (kept : List Change) × Finds w s kept
finds_either w life c s lived doubt (inl is) = finds_state w life s lived is
finds_either w life c s lived doubt (inr is) = (w.kept ++ c ∷ [], inr (c, lived.doubt ∙ doubt, is ∙ ap (λ (t : DurableState). after t c) (sym lived.state), refl))

-- a command that may go to the disk
may_go : (w : World) (old : Life) (c : Change) → IsLived w old → old.doubt ≡ None → Reaches old c → Goes w c
may_go w old c lived calm reaches = (
  lived.on ∙ ap (λ (o : Bool). goes_with o old.doubt) reaches.0 ∙ ap (goes_with false) calm,
  lived.doubt ∙ calm,
  ap (λ (s : DurableState). refusal_of s c) lived.state ∙ reaches.2,
)

ends : (b : Bool) → goes_on b ≡ goes_with b None
ends true = refl
ends false = refl

-- power failed while a command was under way that reached the disk
pub under_way : (w : World) (life : Life) (c : Change) (s : DurableState) → IsLived w life → life.doubt ≡ None → Reaches life c → (s ≡ now_of life) ⊎ (s ≡ after (now_of life) c)
    → (v : World) × Happens w (WasDoubtful c) v × ((kept : List Change) × Finds v s kept)
under_way w life c s lived calm reaches is = (record w { doubt = Some c; on = false }, (may_go w life c lived calm reaches, refl), found is)
  where
    found : (s ≡ now_of life) ⊎ (s ≡ after (now_of life) c) → (kept : List Change) × Finds (record w { doubt = Some c; on = false }) s kept
    found (inl same) = (w.kept, inl (same ∙ sym lived.state, refl))
    found (inr next) = (w.kept ++ c ∷ [], inr (c, refl, next ∙ ap (λ (t : DurableState). after t c) (sym lived.state), refl))

pub acknowledged : (w : World) (old new : Life) (c : Change) → IsLived w old → old.doubt ≡ None → Reaches old c → new ≡ record old { journal = old.journal ++ c ∷ []; over = ends_life c } → Leads w (WasAcknowledged c) new
acknowledged w old new c lived calm reaches is = (
  record w { state = after w.state c; kept = w.kept ++ c ∷ []; on = goes_on (ends_life c); dropped = dropped_by w c },
  (may_go w old c lived calm reaches, refl),
  subst (IsLived (record w { state = after w.state c; kept = w.kept ++ c ∷ []; on = goes_on (ends_life c); dropped = dropped_by w c })) (sym is)
      (record {
        state = ap (λ (s : DurableState). after s c) lived.state ∙ sym (fold_more old.found old.journal c);
        doubt = lived.doubt;
        on = ends (ends_life c) ∙ ap (goes_with (ends_life c)) (sym calm);
      }),
)

doubtful : (w : World) (old new : Life) (c : Change) → IsLived w old → old.doubt ≡ None → Reaches old c → new ≡ record old { doubt = Some c } → Leads w (WasDoubtful c) new
doubtful w old new c lived calm reaches is = (
  record w { doubt = Some c; on = false },
  (may_go w old c lived calm reaches, refl),
  subst (IsLived (record w { doubt = Some c; on = false })) (sym is) (record { state = lived.state; doubt = refl; on = sym (ap (λ (o : Bool). goes_with o (Some c)) reaches.0) }),
)

-- the table refuses nothing by 6
pub not_six : (s : DurableState) (c : Change) → refusal_of s c ≡ Some 6 → ⊥
not_six s c is = let six = of_table s c 6 is in cc

-- 6 is a command in doubt, and another refusal changes nothing
down : (old new : Life) (c : Change) → Refused old c Down new → Reaches old c × (new ≡ record old { doubt = Some c })
down old new c (inl did) = (let no : ⊥ = (let is : Down ≡ Device = did.0 in cc) in absurd no)
down old new c (inr (inl did)) = (did.1, did.2)
down old new c (inr (inr (inl did))) = (let no : ⊥ = (let is : Down ≡ Over = did.0 in cc) in absurd no)
down old new c (inr (inr (inr (inl did)))) = (let no : ⊥ = (let is : Down ≡ JournalFull = did.0 in cc) in absurd no)
down old new c (inr (inr (inr (inr did)))) = absurd (not_six (now_of old) c did.0)

pub others : (old new : Life) (c : Change) (e : Refusal) → Refused old c e new → (e ≡ Down → ⊥) → new ≡ old
others old new c e (inl did) not = did.2
others old new c e (inr (inl did)) not = absurd (not did.0)
others old new c e (inr (inr (inl did))) not = did.2
others old new c e (inr (inr (inr (inl did)))) not = did.3
others old new c e (inr (inr (inr (inr did)))) not = did.3

by_refusal : (w : World) (old new : Life) (c : Change) (e : Refusal) → IsLived w old → old.doubt ≡ None → (e ≡ Down → Reaches old c × (new ≡ record old { doubt = Some c })) → ((e ≡ Down → ⊥) → new ≡ old)
    → Leads w (event_of c (Err e)) new
by_refusal w old new c Down lived calm up same = let did = up refl in doubtful w old new c lived calm did.0 did.1
by_refusal w old new c e lived calm up same = (w, refl, still w old new lived (same (λ is. cc)))

pub at_down : (old new : Life) (c : Change) (e : Refusal) → Refused old c e new → e ≡ Down → Reaches old c × (new ≡ record old { doubt = Some c })
at_down old new c e did is = down old new c (subst (λ (f : Refusal). Refused old c f new) is did)

pub applied : (w : World) (old new : Life) (c : Change) (result : Result ℕ Refusal) → IsLived w old → old.doubt ≡ None → Applied old c result new → Leads w (event_of c result) new
applied w old new c (Ok n) lived calm did = acknowledged w old new c lived calm did.0 did.2
applied w old new c (Err e) lived calm did = by_refusal w old new c e lived calm (at_down old new c e did) (others old new c e did)

-- the same of a suspension, whose refusals by 3 and 11 change nothing
suspend_down : (Fits : Type 0) (old new : Life) (c : Change) (e : Refusal) → SuspendRefused Fits old c e new → e ≡ Down → Reaches old c × (new ≡ record old { doubt = Some c })
suspend_down Fits old new c e (inl did) is = at_down old new c e did.1 is
suspend_down Fits old new c e (inr (inl did)) is = (let no : ⊥ = (let never : BadShape ≡ Down = sym did.0 ∙ is in cc) in absurd no)
suspend_down Fits old new c e (inr (inr (inl did))) is = (let no : ⊥ = (let never : Memory ≡ Down = sym did.0 ∙ is in cc) in absurd no)
suspend_down Fits old new c e (inr (inr (inr (inl did)))) is = (let no : ⊥ = (let never : Over ≡ Down = sym did.0 ∙ is in cc) in absurd no)
suspend_down Fits old new c e (inr (inr (inr (inr did)))) is = (let no : ⊥ = (let never : JournalFull ≡ Down = sym did.0 ∙ is in cc) in absurd no)

suspend_others : (Fits : Type 0) (old new : Life) (c : Change) (e : Refusal) → SuspendRefused Fits old c e new → (e ≡ Down → ⊥) → new ≡ old
suspend_others Fits old new c e (inl did) not = others old new c e did.1 not
suspend_others Fits old new c e (inr (inl did)) not = did.4
suspend_others Fits old new c e (inr (inr (inl did))) not = did.3
suspend_others Fits old new c e (inr (inr (inr (inl did)))) not = did.2
suspend_others Fits old new c e (inr (inr (inr (inr did)))) not = did.3

told : (Fits : Type 0) (w : World) (old new : Life) (c : Change) (result : Result ℕ Refusal) → IsLived w old → old.doubt ≡ None → SuspendApplied Fits old c result new → Leads w (event_of c result) new
told Fits w old new c (Ok n) lived calm did = applied w old new c (Ok n) lived calm did.1
told Fits w old new c (Err e) lived calm did = by_refusal w old new c e lived calm (suspend_down Fits old new c e did) (suspend_others Fits old new c e did)

pub suspended : (Fits : Type 0) (w : World) (old new : Life) (c : Change) (result : Result ℕ Refusal) → IsLived w old → old.doubt ≡ None → Suspended Fits old c result new → Leads w (event_of c result) new
suspended Fits w old new c result lived calm did =
    told Fits w (record old { found = new.found }) new c result (record { state = lived.state ∙ sym did.reseen.now; doubt = lived.doubt; on = lived.on }) calm did.told

-- a wake is its Consume, and then the answer
pub woken : (w : World) (old new : Life) (n : ℕ) (memory : List ℕ) (hart : HartState) → IsLived w old → old.doubt ≡ None → IsWoken (now_of old) memory hart → Applied old Consume (Ok n) new
    → (i : Image) × ((now_of old).image ≡ Some i) × (hart.id ≡ i.hart) × (u v : World) × Happens w (WasAcknowledged Consume) u × Happens u (WasResumed i.serial) v × IsLived v new
woken w old new n memory hart lived calm was did =
    let i : Image = was.0 in
    let next = acknowledged w old new Consume lived calm did.0 did.2 in
    let u : World = next.0 in
    let dropped : u.dropped ≡ Some i.serial = ap (λ (x : World). x.dropped) next.1.1 ∙ ap (λ (s : DurableState). serial_of s.image) lived.state ∙ ap serial_of was.1 in
    (i, was.1, ap (λ (h : HartState). h.id) was.3, u, record u { dropped = None; resumed = u.resumed ++ i.serial ∷ [] }, next.1, (dropped, refl), record { state = next.2.state; doubt = next.2.doubt; on = next.2.on })
