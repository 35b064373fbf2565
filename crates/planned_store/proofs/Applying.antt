-- A command, from its plan to its answer.
use Rattle.std.proofs.Common.{◌≡◌, ◌∙◌, inl, inr, ◌-◌, ◌^◌, ◌≤◌, ◌<◌, ℕ, Bool, true, false, Result, Err, None, length, refl, sym, ap, subst, arith}
use Rattle.board_model.specs.{Durable.{DurableState, Change, refusal_of, after, ends_life}, Shapes.Size, declared.refusal.Refusal.Refusal}
use Rattle.board_model.specs.declared.refusal.Refusal.TheVariants.{Device, Down}
use Rattle.disk.specs.{Facts.{Facts, Content, Lent, LeavesSince, counted, most}, FaultState.FaultState}
use Rattle.disk.specs.Moments.{leaves_none, leaves_weaker}
use Rattle.layout.specs.{Records.IsInRange, declared.records.{Record.Record, Version.TheVariants.Two}}
use Rattle.store.specs.{Answers.{GoesTo, CountedRefusal}, Commits.IsUp, Leaves.StandsForEither, Opens.CausedRefusal}
use Rattle.store.{specs.Standing.{state_of, StandsFor}, proofs.{Answering.the_error, Renewing.four_sectors, States.{up_leaves, stands_for}}}
use Rattle.planned_store.specs.{Commits.asked_at, Plans.{asked, Commits, task_of}, Reached.{CommitAt, Reached}, declared.plans.Plan.Plan}
use Rattle.planned_store.specs.Stores.{state_now, Holds, Reaches, Told, Asked, receipt_at, receipt_of, store_at, store_after}
use Rattle.planned_store.specs.declared.{commits.{Commit.Commit, CommitStep.CommitStep, Selected.Selected}, plans.Request.TheVariants.Done}
use Rattle.planned_store.specs.declared.commits.CommitStep.TheVariants.{WriteRecord, SyncRecord, WriteGate, SyncGate, Committed, Unchanged, InDoubt}
use Rattle.planned_store.specs.declared.plans.Plan.TheVariants.{Settling, ReadingSuperblock, ReadingGate, ReadingRecord, Found, Renewing, Committing, Formatting, Refused}
use Rattle.planned_store.specs.declared.stores.OpenStore.{OpenStore}
use Rattle.planned_store.proofs.Committing.{done_up, done_moment, done_calls, done_wrote, unchanged_up, unchanged_moment, unchanged_still, unchanged_calls, doubted, doubt_moment, doubt_calls, next_same, goes_done, goes_unchanged, goes_doubt}

not_both : (b : Bool) → b ≡ false → b ≡ true → ⊥
not_both b isn is = cc

no_cause : (x : FaultState) (e : Refusal) → (e ≡ Device → ⊥) → (e ≡ Down → ⊥) → CausedRefusal x e x
no_cause x Device not_device not_down = absurd (not_device refl)
no_cause x Down not_device not_down = absurd (not_down refl)
no_cause x e not_device not_down = refl

no_count : (n : ℕ) (e : Refusal) → (e ≡ Device → ⊥) → (e ≡ Down → ⊥) → CountedRefusal n e n
no_count n Device not_device not_down = absurd (not_device refl)
no_count n Down not_device not_down = absurd (not_down refl)
no_count n e not_device not_down = refl

module _ {D : Type 0} (f : D → Facts) (m : D → FaultState) (may_keep : (d : D) → (f d).may_leave (f d).content) (only_now : (d : D) (c : Content) → (f d).since (f d).moment c → (f d).may_leave c)
    (a : D) (old : OpenStore) (holds : Holds (f a) old) where
  abbrev now : DurableState
  now = state_now old (f a).content

  -- ---- no call was made
  still_now : old.down ≡ false → LeavesSince (f a) (f a) (λ x. StandsFor x old.selected.shape now)
  still_now up =
      leaves_none (f a) (λ x. StandsFor x old.selected.shape now) (only_now a)
      (λ x left. stands_for old.selected.shape old.selected.side old.selected.live (f a).content x (holds.up up x left))

  refused_goes : old.down ≡ false → (t : DurableState) (e : Refusal) → (e ≡ Down → ⊥) → GoesTo (f a) (f a) old.selected.shape now t (Err e)
  refused_goes up t e not_down = record {
    any_moment = leaves_weaker (f a) (f a) (λ x. StandsFor x old.selected.shape now) (StandsForEither old.selected.shape now t) (still_now up) (λ x stands. inl stands);
    acknowledged = tt;
    unchanged = λ _. up_leaves (f a) old.selected.shape old.selected.side old.selected.live (holds.up up);
    still = λ _. still_now up;
    in_doubt = λ is. absurd (not_down (the_error e Down is));
  }

  pub refused : (c : Change) (e : Refusal) → (old.down ≡ false → Told old now c (Err e) old now) → (old.down ≡ false → (e ≡ Device → ⊥) × (e ≡ Down → ⊥)) → (old.down ≡ true → ◌≡◌ {A = Result ℕ Refusal} (Err e) (Err Down))
      → Asked f m a old c (Err e) a old
  refused c e told others down = record {
    answered = λ up. record {
      told = told up;
      leaves = refused_goes up (after now c) e (others up).1;
      written = tt;
      cause = no_cause (m a) e (others up).0 (others up).1;
      counts = no_count (f a).failures e (others up).0 (others up).1;
      calls = tt;
    };
    down = λ is. (down is, refl, refl);
    untouched = λ _ _. (refl, refl);
    holds = holds;
    as_long = refl;
    no_fewer = omega arith;
  }

  -- ---- a commit was made: of a record that makes the state after the command
  module _ (up : old.down ≡ false) (c : Change) (ends : Bool) (ends_is : ends ≡ ends_life c) (next : Record) (going : old.over ≡ false) (room : old.receipts < 2 ^ 64 - 1)
      (allowed : refusal_of now c ≡ None) (range : IsInRange old.selected.shape next) (makes : state_of old.selected.shape next (f a).content ≡ after now c) (two : next.version ≡ Two) where
    abbrev size : Size
    size = old.selected.shape

    is_up : IsUp (f a) size old.selected.side old.selected.live
    is_up = holds.up up

    reaches : Reaches old now c
    reaches = (going, room, allowed)

    pub enough : 4 ≤ length (f a).content
    enough = four_sectors (f a) size old.selected.side old.selected.live is_up (may_keep a)

    abbrev commit_of : Record → CommitStep → Commit
    commit_of next step = record { from = old.selected; next = next; step = step }

    module _ (b : D) where
      abbrev Answers : Commit → Type 0
      Answers k = Asked f m a old c (receipt_at old k.step) b (store_at old ends k k.step)

      at_done : CommitAt f m old.selected.side next Committed a b → Answers (commit_of next Committed)
      at_done at =
          let calls = done_calls f m may_keep only_now size old.selected.side old.selected.live next holds.known a b is_up range at in
          let one = done_up f m may_keep only_now size old.selected.side old.selected.live next holds.known a b is_up range at in
          record {
            answered = λ _. record {
              told = (reaches, omega (arith, room), refl, ends_is, refl, refl, next_same (f a) (f b) size old.selected.side old.selected.live next holds.known (after now c) makes calls.content);
              leaves = goes_done (f a) (f b) size old.selected.side old.selected.live next holds.known (after now c) makes (counted old.receipts 1)
                  (done_moment f m may_keep only_now size old.selected.side old.selected.live next holds.known a b is_up range at) calls.content one;
              written = done_wrote f m may_keep only_now size old.selected.side old.selected.live next holds.known a b is_up range at two;
              cause = calls.cause.ok;
              counts = calls.failures.ok;
              calls = calls.calls.ok;
            };
            down = λ is. absurd (not_both old.down up is);
            untouched = tt;
            holds = record { none_out = ap (λ (l : Lent). l.lanes) calls.lent ∙ holds.none_out; known = omega arith; up = λ _. one };
            as_long = calls.content.as_long;
            no_fewer = omega (arith, calls.failures.ok);
          }

      at_unchanged : (bounded : (f a).failures ≤ most) → CommitAt f m old.selected.side next Unchanged a b → Answers (commit_of next Unchanged)
      at_unchanged bounded at =
          let calls = unchanged_calls f m may_keep only_now size old.selected.side old.selected.live next holds.known a b is_up range at in
          let one = unchanged_up f m may_keep only_now size old.selected.side old.selected.live next holds.known a b is_up range at in
          record {
            answered = λ _. record {
              told = inl (refl, reaches, refl);
              leaves = goes_unchanged (f a) (f b) size old.selected.side old.selected.live next holds.known (after now c) makes
                  (unchanged_moment f m may_keep only_now size old.selected.side old.selected.live next holds.known a b is_up range at)
                  (unchanged_still f m may_keep only_now size old.selected.side old.selected.live next holds.known a b is_up range at) calls.content one;
              written = tt;
              cause = calls.cause.err;
              counts = omega (arith, calls.failures.err);
              calls = tt;
            };
            down = λ is. absurd (not_both old.down up is);
            untouched = λ not_device not_down. absurd (not_device refl);
            holds = record { none_out = ap (λ (l : Lent). l.lanes) calls.lent ∙ holds.none_out; known = holds.known; up = λ _. one };
            as_long = calls.content.as_long;
            no_fewer = omega (arith, calls.failures.err, bounded);
          }

      at_doubt : (bounded : (f a).failures ≤ most) → CommitAt f m old.selected.side next InDoubt a b → Answers (commit_of next InDoubt)
      at_doubt bounded at =
          let calls = doubt_calls f m may_keep only_now size old.selected.side old.selected.live next holds.known a b is_up range at in
          record {
            answered = λ _. record {
              told = inr (inl (refl, reaches, refl));
              leaves = goes_doubt (f a) (f b) size old.selected.side old.selected.live next holds.known (after now c) makes
                  (doubt_moment f m may_keep only_now size old.selected.side old.selected.live next holds.known a b is_up range at) calls.content
                  (doubted f m may_keep only_now size old.selected.side old.selected.live next holds.known a b is_up range at);
              written = tt;
              cause = calls.cause.err;
              counts = omega (arith, calls.failures.err);
              calls = tt;
            };
            down = λ is. absurd (not_both old.down up is);
            untouched = λ not_device not_down. absurd (not_down refl);
            holds = record { none_out = ap (λ (l : Lent). l.lanes) calls.lent ∙ holds.none_out; known = holds.known; up = λ is. absurd (not_both true is refl) };
            as_long = calls.content.as_long;
            no_fewer = omega (arith, calls.failures.err, bounded);
          }

      at_step : (bounded : (f a).failures ≤ most) (step : CommitStep) → CommitAt f m old.selected.side next step a b → asked_at old.selected.side step ≡ Done → Answers (commit_of next step)
      at_step bounded WriteRecord at is = cc
      at_step bounded SyncRecord at is = cc
      at_step bounded WriteGate at is = cc
      at_step bounded SyncGate at is = cc
      at_step bounded Committed at is = at_done at
      at_step bounded Unchanged at is = at_unchanged bounded at
      at_step bounded InDoubt at is = at_doubt bounded at

      -- the commit that has ended is the one that began
      same_commit : (bounded : (f a).failures ≤ most) (from : Selected) (other : Record) (step : CommitStep) → from ≡ old.selected → other ≡ next → CommitAt f m from.side other step a b → asked_at from.side step ≡ Done
          → Answers (record { from = from; next = other; step = step })
      same_commit bounded from other step from_is next_is at ended =
          subst (λ (s : Selected). Answers (record { from = s; next = other; step = step })) (sym from_is)
          (subst (λ (n : Record). Answers (commit_of n step)) (sym next_is)
          (at_step bounded step
          (subst (λ (n : Record). CommitAt f m old.selected.side n step a b) next_is (subst (λ (s : Selected). CommitAt f m s.side other step a b) from_is at))
          (subst (λ (s : Selected). asked_at s.side step ≡ Done) from_is ended)))

      pub answered_by : (bounded : (f a).failures ≤ most) (q : Plan) → Reached f m q a b → asked q ≡ Done → task_of q ≡ Commits old.selected next → Asked f m a old c (receipt_of old q) b (store_after old ends q)
      answered_by bounded (Committing k) at ended task = same_commit bounded k.from k.next k.step (from_of k.from old.selected k.next next task) (next_of k.from old.selected k.next next task) at.2 ended
        where
          from_of : (s t : Selected) (n o : Record) → Commits s n ≡ Commits t o → s ≡ t
          from_of s t n o is = cc

          next_of : (s t : Selected) (n o : Record) → Commits s n ≡ Commits t o → n ≡ o
          next_of s t n o is = cc
      answered_by bounded (Settling n) at ended task = cc
      answered_by bounded (ReadingSuperblock n) at ended task = cc
      answered_by bounded (ReadingGate z) at ended task = cc
      answered_by bounded (ReadingRecord z side) at ended task = cc
      answered_by bounded (Found found) at ended task = cc
      answered_by bounded (Renewing k) at ended task = cc
      answered_by bounded (Formatting k) at ended task = cc
      answered_by bounded (Refused e) at ended task = cc
