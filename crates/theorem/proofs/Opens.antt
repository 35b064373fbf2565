-- A disk in a story without a store: it is opened, left by a store, armed or cut.
use Rattle.std.proofs.Common.{◌≡◌, ◌⊎◌, ◌∙◌, Option, Some, None, inl, inr, refl, sym, ap, subst, length, true, false}
use Rattle.board_model.specs.{Durable.{DurableState, Change, formatted, after, IsWhole}, Shapes.Size, Views.durable_of}
use Rattle.board_model.specs.declared.{durable.Durable.Durable, refusal.Refusal.{Refusal, TheVariants.{Device, Memory}}}
use Rattle.disk.specs.{Facts.{Content, Facts, Unchanged, IsLeft}, FaultState.{FaultState, fault_state_left, fault_state_armed}}
use Rattle.disk.specs.declared.device.ArmedFault.{ArmedFault}
use Rattle.store.specs.Answers as answers
use Rattle.store.specs.{Answers.StoreView, Leaves.{IsKept, Leaves, LeavesOnly, LeavesEither, NoMore}, Lives.{Life, now_of}}
use Rattle.store.specs.{Opens.CausedRefusal, Standing.StandsFor}
use Rattle.theorem.specs.{Story.{Now, begin, settled, May, Opens}, Told.{IsOn, IsOff, Rests, unpowered, arming, cut_off}}
use Rattle.theorem.{specs.declared.asks.Seen.{Seen, TheVariants.{Opened, Denied}}, proofs.Stays.no_doubt}

-- of a disk of which a crash leaves no more
fewer_kept : (old new : Facts) (size : Size) → ((c : Content) → new.may_leave c → old.may_leave c) → IsKept old size → IsKept new size
unfolding IsKept
fewer_kept old new size fewer kept c may = kept c (fewer c may)

fewer_leaves : (old new : Facts) → ((c : Content) → new.may_leave c → old.may_leave c) → NoMore old new
unfolding Leaves
fewer_leaves old new fewer size s (c, may, stands) = (c, fewer c may, stands)

-- it is of no matter whether one was open
pub as_off : (size : Size) (w : Now) (disk : Facts) (m : FaultState) → IsOff size w disk m → IsOff size (unpowered w) disk m
as_off size w disk m off = record { kept = off.kept; only = off.only; faults = off.faults; on = refl; whole = off.whole }

pub opens_from : (w v : Now) (seen : Seen) → Opens (unpowered w) seen v → Opens w seen v
opens_from w v (Opened found) is = is
opens_from w v (Denied Device) is = is
opens_from w v (Denied Memory) is = is
opens_from w v seen is = absurd is

left_fewer : (disk left : Facts) → IsLeft disk left → (c : Content) → left.may_leave c → disk.may_leave c
left_fewer disk left gone c may = subst disk.may_leave (sym (gone.fresh.durable c may)) gone.left

-- power fails
pub cut : (size : Size) (w : Now) (disk left : Facts) (m n : FaultState) → IsOff size w disk m → IsLeft disk left → n ≡ fault_state_left m → IsOff size (cut_off w) left n
cut size w disk left m n off gone same = record {
  kept = fewer_kept disk left size (left_fewer disk left gone) off.kept;
  only = λ z s leaves. off.only z s (fewer_leaves disk left (left_fewer disk left gone) z s leaves);
  faults = ap fault_state_left off.faults ∙ sym same;
  on = refl;
  whole = off.whole;
}

-- a fault is armed
pub armed_off : (size : Size) (w : Now) (old new : Facts) (m n : FaultState) (fault : ArmedFault) → IsOff size w old m → Unchanged old new → n ≡ fault_state_armed fault m → IsOff size (arming fault w) new n
armed_off size w old new m n fault off same armed = record {
  kept = fewer_kept old new size (λ c may. (same.now c).0 may) off.kept;
  only = λ z s leaves. off.only z s (fewer_leaves old new (λ c may. (same.now c).0 may) z s leaves);
  faults = ap (fault_state_armed fault) off.faults ∙ sym armed;
  on = off.on;
  whole = off.whole;
}

pub armed_on : (size : Size) (w : Now) (old new : StoreView) (fault : ArmedFault) → IsOn size w old → new.size ≡ old.size → new.life ≡ old.life → new.fault_state ≡ fault_state_armed fault old.fault_state → IsOn size (arming fault w) new
armed_on size w old new fault on board life armed = record {
  board = board ∙ on.board;
  state = on.state ∙ ap now_of (sym life);
  doubt = on.doubt ∙ ap (λ (l : Life). l.doubt) (sym life);
  over = on.over ∙ ap (λ (l : Life). l.over) (sym life);
  receipts = on.receipts ∙ ap (λ (l : Life). length l.journal) (sym life);
  faults = ap (fault_state_armed fault) on.faults ∙ sym armed;
  on = on.on;
  whole = on.whole;
}

-- it rests: so a story begins and ends
abbrev OneStanding : Type 0
OneStanding = (c : Content) (y z : Size) (s t : DurableState) → StandsFor c y s → StandsFor c z t → (y ≡ z) × (s ≡ t)

pub begins_at_rest : OneStanding → (size : Size) (w : Now) (disk : Facts) (m : FaultState) → Rests size w disk m → IsOff size (unpowered w) disk m
unfolding IsKept Leaves
begins_at_rest one size w disk m rests = record {
  kept = λ c may. let is = rests.leaves c may in (is.0, is.2);
  only = λ z s leaves.
      let is = rests.leaves leaves.0 leaves.1 in
      let same = one leaves.0 z size s is.0 leaves.2 is.2 in
      (same.0, subst (May w) (sym same.1) is.1);
  faults = rests.faults;
  on = refl;
  whole = rests.whole;
}

pub ends_at_rest : (size : Size) (w : Now) (disk : Facts) (m : FaultState) → IsOff size (unpowered w) disk m → Rests size w disk m
unfolding IsKept Leaves
ends_at_rest size w disk m off = record {
  leaves = λ c may. let is = off.kept c may in (is.0, (off.only size is.0 (c, may, is.1)).1, is.1);
  whole = off.whole;
  faults = off.faults;
}

-- a formatted one
pub begins : (size : Size) (disk : Facts) (m n : FaultState) → LeavesOnly disk size formatted → n ≡ m → IsOff size (begin m) disk n
begins size disk m n only same = record {
  kept = only.kept;
  only = λ z s leaves. let is = only.only z s leaves in (is.0, inl is.1);
  faults = sym same;
  on = refl;
  whole = whole;
}
  where
    whole : (s : DurableState) → May (begin m) s → IsWhole size s
    whole s (inl is) = subst (IsWhole size) (sym is) tt
    whole s (inr (c, doubt, is)) = absurd (no_doubt None c refl doubt)

-- opened
pub opens : (size : Size) (w : Now) (disk : Facts) (m : FaultState) (store : StoreView) (found : Durable) → IsOff size w disk m → answers.Opened disk store → store.fault_state ≡ m → found ≡ durable_of store.life.found
    → (v : Now) × Opens w (Opened found) v × IsOn size v store
opens size w disk m store found off opened same is = (
  settled store.life.found true w.faults,
  (store.life.found, may.1, is, refl),
  record {
    board = may.0;
    state = ap now_of (sym opened.begins);
    doubt = ap (λ (l : Life). l.doubt) (sym opened.begins);
    over = ap (λ (l : Life). l.over) (sym opened.begins);
    receipts = ap (λ (l : Life). length l.journal) (sym opened.begins);
    faults = off.faults ∙ sym same;
    on = refl;
    whole = whole;
  },
)
  where
    may : (store.size ≡ size) × May w store.life.found
    may = off.only store.size store.life.found opened.earlier

    whole : (s : DurableState) → May (settled store.life.found true w.faults) s → IsWhole size s
    whole s (inl is) = subst (IsWhole size) (sym is) (off.whole store.life.found may.1)
    whole s (inr (c, doubt, is)) = absurd (no_doubt None c refl doubt)

why : (e : Refusal) (w : Now) (m n : FaultState) → w.faults ≡ m → (e ≡ Device) ⊎ (e ≡ Memory) → CausedRefusal m e n → Opens w (Denied e) (record w { on = false; faults = n })
why e w m n at (inl is) cause =
    subst (λ (x : Refusal). Opens w (Denied x) (record w { on = false; faults = n })) (sym is)
    (subst (λ (f : FaultState). CausedRefusal f Device n) (sym at) (subst (λ (x : Refusal). CausedRefusal m x n) is cause), refl)
why e w m n at (inr is) cause =
    let same : n ≡ m = subst (λ (x : Refusal). CausedRefusal m x n) is cause in
    subst (λ (x : Refusal). Opens w (Denied x) (record w { on = false; faults = n })) (sym is)
    (ap (λ (f : FaultState). record w { on = false; faults = f }) (same ∙ sym at))

pub refuses : (size : Size) (w : Now) (disk new : Facts) (m n : FaultState) (e : Refusal) → IsOff size w disk m → (e ≡ Device) ⊎ (e ≡ Memory) → CausedRefusal m e n → IsKept new size → NoMore disk new
    → (v : Now) × Opens w (Denied e) v × IsOff size v new n
refuses size w disk new m n e off which cause kept no_more = (
  record w { on = false; faults = n },
  why e w m n off.faults which cause,
  record { kept = kept; only = λ z s leaves. off.only z s (no_more z s leaves); faults = refl; on = refl; whole = off.whole },
)

-- out of its store
module _ (size : Size) (w : Now) (store : StoreView) (disk : Facts) (m : FaultState) (on : IsOn size w store) (same : m ≡ store.fault_state) where
  parts : (o : Option Change) → store.life.doubt ≡ o → ((s : DurableState) → (store.life.doubt ≡ None) × (s ≡ now_of store.life) → LeavesOnly disk store.size s)
      → ((s t : DurableState) → (c : Change) × (store.life.doubt ≡ Some c) × (s ≡ now_of store.life) × (t ≡ after s c) → LeavesEither disk store.size s t) → IsOff size (unpowered w) disk m
  parts None calm up down =
      let only = up (now_of store.life) (calm, refl) in
      record {
        kept = subst (IsKept disk) on.board only.kept;
        only = λ z s leaves. let is = only.only z s leaves in (is.0 ∙ on.board, inl (is.1 ∙ sym on.state));
        faults = on.faults ∙ sym same;
        on = refl;
        whole = on.whole;
      }
  parts (Some c) doubt up down =
      let either = down (now_of store.life) (after (now_of store.life) c) (c, doubt, refl, refl) in
      record {
        kept = subst (IsKept disk) on.board either.kept;
        only = λ z s leaves. let is = either.only z s leaves in (is.0 ∙ on.board, found s is.1);
        faults = on.faults ∙ sym same;
        on = refl;
        whole = on.whole;
      }
    where
      found : (s : DurableState) → (s ≡ now_of store.life) ⊎ (s ≡ after (now_of store.life) c) → May w s
      found s (inl is) = inl (is ∙ sym on.state)
      found s (inr is) = inr (c, on.doubt ∙ doubt, is ∙ ap (λ (t : DurableState). after t c) (sym on.state))

  pub parted : ((s : DurableState) → (store.life.doubt ≡ None) × (s ≡ now_of store.life) → LeavesOnly disk store.size s)
      → ((s t : DurableState) → (c : Change) × (store.life.doubt ≡ Some c) × (s ≡ now_of store.life) × (t ≡ after s c) → LeavesEither disk store.size s t) → IsOff size (unpowered w) disk m
  parted up down = parts store.life.doubt refl up down
