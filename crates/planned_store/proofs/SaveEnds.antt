-- A suspension, from its plan to its answer.
use Rattle.std.proofs.Common.{◌≡◌, ◌∙◌, ◌⊎◌, inl, inr, ⊎_elim, ◌+◌, ◌*◌, ◌-◌, ◌^◌, ◌≤◌, ◌<◌, ℕ, Bool, true, false, List, [], if◌then◌else◌, length, Option, Some, None, Result, Ok, Err, OnOk, IfErr, refl, sym, ap, subst, arith}
use Rattle.std.{specs.Result.MatchResult, proofs.lemmas.{Result.IfErr-weaker, Bool.{eq-eqb, ne_eqb}}}
use Rattle.board_model.specs.{Durable.{DurableState, Change, refusal_of, after}, Views.number_of_refusal, declared.refusal.Refusal.Refusal}
use Rattle.board_model.specs.Shapes.{Size, IsSize, ram_bytes_of, sectors_of, area_sectors_of}
use Rattle.board_model.specs.declared.refusal.Refusal.TheVariants.{BadShape, Device, Down, Over, JournalFull, SerialsSpent}
use Rattle.disk.specs.{Facts.{Facts, Content, LeavesSince, counted, most}, FaultState.FaultState}
use Rattle.disk.specs.Moments.{leaves_none, leaves_then, leaves_weaker}
use Rattle.image.specs.Images.{area_of, memory_of}
use Rattle.layout.specs.{Records.IsInRange, Sizes.area_start, declared.{records.Record.Record, saved.Saved.Saved}}
use Rattle.store.specs.{Answers.{GoesTo, CountedRefusal}, Commits.IsUp, Follows.{durable_after, suspended}, Opens.CausedRefusal}
use Rattle.store.specs.{Leaves.{LeavesOnly, StandsForEither, WroteACommand}, Standing.{StandsFor, state_of, selected, live_sector}}
use Rattle.store.{specs.declared.saving.Resumption.Resumption, proofs.{Freeing.{Frees, frees, free_up}, States.{up_leaves, stands_for}}}
use Rattle.planned_store.specs.{Reached.{Ended, Reached}, Stores.{state_now, Holds, Reaches, Told, Applied, Asked, receipt_at, receipt_of}}
use Rattle.planned_store.specs.declared.{commits.{Commit.Commit, CommitStep.CommitStep, Selected.Selected}, plans.Plan.Plan}
use Rattle.planned_store.specs.declared.commits.CommitStep.TheVariants.{WriteRecord, SyncRecord, WriteGate, SyncGate, Committed, Unchanged, InDoubt}
use Rattle.planned_store.specs.declared.plans.Plan.TheVariants.{Settling, ReadingSuperblock, ReadingGate, ReadingRecord, Found, Renewing, Committing, Formatting, Refused}
use Rattle.planned_store.specs.{declared.stores.OpenStore.OpenStore, SaveReached.{WroteRange, PageStands, WroteArea, SaveAt, SaveReached}}
use Rattle.planned_store.specs.Saves.{free_side, counts_of, save_asks_at, save_asks, saved_record, commit_at, commit_of, PlansSave, NoSave}
use Rattle.planned_store.specs.{Suspends.{SuspendTold, suspension, Fits, SuspendsTo}, declared.saves.{Saving.Saving, SaveStep.SaveStep}}
use Rattle.planned_store.specs.declared.saves.SaveStep.TheVariants.{WriteHead, WritePage, SyncArea, Saved as AreaSaved, Failed}
use Rattle.planned_store.proofs.{LoadSteps.ends_within, SavedRecords.{free_two, saved_range}, SavingArea.area_reads}
use Rattle.planned_store.specs.declared.requests.ImageRequest.TheVariants as requests

not_both : (b : Bool) → b ≡ false → b ≡ true → ⊥
not_both b isn is = cc

the_error : (e f : Refusal) → ◌≡◌ {A = Result ℕ Refusal} (Err e) (Err f) → e ≡ f
the_error e f is = let same : e ≡ f = cc in same

-- the area is the one that the image does not use
free_of : (image : Option Saved) → ((saved : Saved) → image ≡ Some saved → saved.area < 2) → (saved : Saved) → image ≡ Some saved → (free_side image ≡ 0 → saved.area ≡ 0 → ⊥) × (free_side image ≡ 1 → saved.area ≡ 1 → ⊥)
free_of None few saved is = cc
free_of (Some t) few saved is = let same : t ≡ saved = cc in let small = few saved is in let side : 1 - t.area ≡ 1 - saved.area = ap (λ (u : Saved). 1 - u.area) same in (λ one two. absurd (omega (arith, one, two, side)), λ one two. absurd (omega (arith, one, two, side)))

-- what a command wrote after the area was written, it wrote of what stood before that
wrote_later : (old mid new : Facts) → selected mid.content ≡ selected old.content → live_sector mid.content ≡ live_sector old.content → WroteACommand mid new → WroteACommand old new
unfolding WroteACommand
wrote_later old mid new same live wrote c left = let w = wrote c left in (w.0 ∙ ap (λ (k : ℕ). 1 - k) same, w.1, w.2 ∙ live)

module _ {D : Type 0} (f : D → Facts) (m : D → FaultState) (may_keep : (d : D) → (f d).may_leave (f d).content) (only_now : (d : D) (c : Content) → (f d).since (f d).moment c → (f d).may_leave c)
    (bounded : (d : D) → (f d).failures ≤ most) (a : D) (old : OpenStore) (memory : List ℕ) (at : Resumption) (holds : Holds (f a) old) where
  abbrev size : Size
  size = old.selected.shape

  abbrev live : Record
  live = old.selected.live

  abbrev now : DurableState
  now = state_now old (f a).content

  abbrev c : Change
  c = suspension memory at

  -- ---- no call was made
  refused_told : (pages : ℕ) (e : Refusal) → 4096 * pages ≡ length memory → NoSave old pages at e → old.down ≡ false → SuspendTold (Fits old memory at) old now c (Err e) old now
  refused_told pages e fits why up =
      ⊎_elim (λ d. absurd (not_both old.down up d.1))
      (λ o. ⊎_elim (λ over. inr (inr (inl (over.0, over.2, refl))))
      (λ j. ⊎_elim (λ full. inr (inr (inr (full.0, full.2, full.3, refl))))
      (λ s. ⊎_elim
      (λ shape. inr (inl (shape.0, λ board. shape.4 (omega (arith, board.0, fits), board.1, board.2), shape.2, shape.3, refl)))
      (λ spent. inl (
        (omega (arith, fits, spent.4.0), spent.4.1, spent.4.2),
        inr (inr (inr (inr (spent_so e spent.0 spent.5, spent.2, spent.3, refl)))),
      )) s) j) o) why
    where
      spent_so : (e : Refusal) → e ≡ SerialsSpent → live.next ≡ 2 ^ 64 - 1 → refusal_of now c ≡ Some (number_of_refusal e)
      spent_so e is last =
          ap (λ (b : Bool). if b then Some 12 else None) (eq-eqb live.next (2 ^ 64 - 1) last) ∙ ap (λ (g : Refusal). Some (number_of_refusal g)) (sym is)

  refused_down : (pages : ℕ) (e : Refusal) → NoSave old pages at e → old.down ≡ true → e ≡ Down
  refused_down pages e why down =
      ⊎_elim (λ d. d.0)
      (λ o. ⊎_elim (λ over. absurd (not_both old.down over.1 down))
      (λ j. ⊎_elim (λ full. absurd (not_both old.down full.1 down))
      (λ s. ⊎_elim (λ shape. absurd (not_both old.down shape.1 down)) (λ spent. absurd (not_both old.down spent.1 down)) s) j) o) why

  refused_else : (pages : ℕ) (e : Refusal) → NoSave old pages at e → old.down ≡ false → (e ≡ Device → ⊥) × (e ≡ Down → ⊥)
  refused_else pages e why up =
      ⊎_elim (λ d. absurd (not_both old.down up d.1))
      (λ o. ⊎_elim (λ over. (λ is. let no : Over ≡ Device = sym over.0 ∙ is in cc, λ is. let no : Over ≡ Down = sym over.0 ∙ is in cc))
      (λ j. ⊎_elim (λ full. (λ is. let no : JournalFull ≡ Device = sym full.0 ∙ is in cc, λ is. let no : JournalFull ≡ Down = sym full.0 ∙ is in cc))
      (λ s. ⊎_elim
      (λ shape. (λ is. let no : BadShape ≡ Device = sym shape.0 ∙ is in cc, λ is. let no : BadShape ≡ Down = sym shape.0 ∙ is in cc))
      (λ spent. (λ is. let no : SerialsSpent ≡ Device = sym spent.0 ∙ is in cc, λ is. let no : SerialsSpent ≡ Down = sym spent.0 ∙ is in cc)) s) j) o) why

  no_cause : (x : FaultState) (e : Refusal) → (e ≡ Device → ⊥) → (e ≡ Down → ⊥) → CausedRefusal x e x
  no_cause x Device not_device not_down = absurd (not_device refl)
  no_cause x Down not_device not_down = absurd (not_down refl)
  no_cause x e not_device not_down = refl

  no_count : (n : ℕ) (e : Refusal) → (e ≡ Device → ⊥) → (e ≡ Down → ⊥) → CountedRefusal n e n
  no_count n Device not_device not_down = absurd (not_device refl)
  no_count n Down not_device not_down = absurd (not_down refl)
  no_count n e not_device not_down = refl

  only_here : old.down ≡ false → LeavesOnly (f a) size now
  only_here up = up_leaves (f a) size old.selected.side live (holds.up up)

  still_here : old.down ≡ false → LeavesSince (f a) (f a) (λ x. StandsFor x size now)
  still_here up = leaves_none (f a) (λ x. StandsFor x size now) (only_now a) (λ x left. stands_for size old.selected.side live (f a).content x (holds.up up x left))

  goes_nowhere : old.down ≡ false → (e : Refusal) → (e ≡ Down → ⊥) → GoesTo (f a) (f a) size now (after now c) (Err e)
  goes_nowhere up e not_down = record {
    any_moment = leaves_weaker (f a) (f a) (λ x. StandsFor x size now) (StandsForEither size now (after now c)) (still_here up) (λ x stands. inl stands);
    acknowledged = tt;
    unchanged = λ _. only_here up;
    still = λ _. still_here up;
    in_doubt = λ is. absurd (not_down (the_error e Down is));
  }

  pub refused : (pages : ℕ) (e : Refusal) → 4096 * pages ≡ length memory → NoSave old pages at e → SuspendsTo f m a old memory at (Err e) a old
  refused pages e fits why = record {
    answered = λ up.
        let else_ = refused_else pages e why up in
        record {
          told = refused_told pages e fits why up;
          leaves = goes_nowhere up e else_.1;
          written = tt;
          cause = no_cause (m a) e else_.0 else_.1;
          counts = no_count (f a).failures e else_.0 else_.1;
          calls = tt;
        };
    down = λ is. (ap Err (refused_down pages e why is), refl, refl);
    untouched = λ _ _. (refl, refl);
    holds = holds;
    as_long = refl;
    no_fewer = omega arith;
  }

  -- ---- the area was written
  module _ (pages : ℕ) (plan : Saving) (fits : 4096 * pages ≡ length memory) (plans : PlansSave old pages at plan) (b : D) (s : Saving) (same_from : s.from ≡ old.selected) (same_at : s.at ≡ at) where
    abbrev area : ℕ
    area = free_side live.image

    is_up : IsUp (f a) size old.selected.side live
    is_up = holds.up plans.up

    chosen : (saved : Saved) → live.image ≡ Some saved → saved.area < 2
    chosen saved is = ((is_up (f a).content (may_keep a)).selects.is.0.image saved is).area

    fits_board : Fits old memory at
    fits_board = (omega (arith, fits, plans.fits.0), plans.fits.1, plans.fits.2)

    allowed_in : (content : Content) → refusal_of (state_of size live content) c ≡ None
    allowed_in content = ap (λ (b : Bool). if b then Some 12 else None) (ne_eqb live.next (2 ^ 64 - 1) (λ is. absurd (omega (arith, is, plans.serial))))

    reaches : Reaches old now c
    reaches = (plans.going, plans.room, allowed_in (f a).content)

    module _ (r : Ended) (calls : ℕ) (wrote : WroteRange (area_start size area) (area_sectors_of size) calls (f a) (m a) r (f b) (m b)) where
      freed : Frees (f a) (f b) size live live []
      freed = frees (f a) (f b) size old.selected.side live live [] area holds.known (free_two live.image) (free_of live.image chosen) is_up (may_keep a) wrote.content wrote.crash (λ none. refl) refl (only_now a)

      still_up : IsUp (f b) size old.selected.side live
      still_up = free_up (f a) (f b) size old.selected.side live live [] area holds.known (free_two live.image) (free_of live.image chosen) is_up (may_keep a) wrote.content wrote.crash

      now_same : state_of size live (f b).content ≡ now
      now_same = freed.now

      still_holds : Holds (f b) old
      still_holds = record { none_out = wrote.none_out; known = holds.known; up = λ _. still_up }

      first_moment : LeavesSince (f a) (f b) (StandsForEither size now (after now c))
      first_moment = leaves_weaker (f a) (f b) (λ x. StandsFor x size now) (StandsForEither size now (after now c)) freed.any_moment (λ x stands. inl stands)

    -- ---- a call failed
    pub not_written : WroteArea f m (2 * s.from.shape.pages + 1) s a (Err tt) b → SuspendsTo f m a old memory at (Err Device) b old
    not_written given = record {
      answered = λ up. record {
        told = inl (fits_board, inl (refl, reaches, refl));
        leaves = record {
          any_moment = first_moment (Err tt) (2 * size.pages + 1) wrote;
          acknowledged = tt;
          unchanged = λ _. subst (LeavesOnly (f b) size) (now_same (Err tt) (2 * size.pages + 1) wrote) (up_leaves (f b) size old.selected.side live (still_up (Err tt) (2 * size.pages + 1) wrote));
          still = λ _. (freed (Err tt) (2 * size.pages + 1) wrote).any_moment;
          in_doubt = λ is. let no : Device ≡ Down = the_error Device Down is in cc;
        };
        written = tt;
        cause = wrote.failed.1;
        counts = wrote.failed.0;
        calls = tt;
      };
      down = λ is. absurd (not_both old.down plans.up is);
      untouched = λ not_device not_down. absurd (not_device refl);
      holds = still_holds (Err tt) (2 * size.pages + 1) wrote;
      as_long = wrote.content.as_long;
      no_fewer = omega (arith, wrote.failed.0, bounded a);
    }
      where
        wrote : WroteRange (area_start size area) (area_sectors_of size) (2 * size.pages + 1) (f a) (m a) (Err tt) (f b) (m b)
        wrote = subst (λ (x : Selected). WroteRange (area_start x.shape (free_side x.live.image)) (area_sectors_of x.shape) (2 * x.shape.pages + 1) (f a) (m a) (Err tt) (f b) (m b)) same_from given

    -- ---- the area is durable
    module _ (given : SaveAt f m AreaSaved s a b memory) where
      abbrev many : ℕ
      many = 2 * size.pages + 1

      wrote : WroteRange (area_start size area) (area_sectors_of size) many (f a) (m a) (Ok tt) (f b) (m b)
      wrote = subst (λ (x : Selected). WroteRange (area_start x.shape (free_side x.live.image)) (area_sectors_of x.shape) (2 * x.shape.pages + 1) (f a) (m a) (Ok tt) (f b) (m b)) same_from given.0

      stand : (p : ℕ) → p < size.pages → PageStands (area_start size area + 9 * p) p live.next memory (f b).content
      stand = subst (λ (x : Selected). (p : ℕ) → p < x.shape.pages → PageStands (area_start x.shape (free_side x.live.image) + 9 * p) p x.live.next memory (f b).content) same_from given.1

      range_was : IsInRange size live
      range_was = (is_up (f a).content (may_keep a)).selects.is.0

      board : IsSize size
      board = (is_up (f a).content (may_keep a)).selects.board.0

      enough_was : sectors_of size ≤ length (f a).content
      enough_was = (is_up (f a).content (may_keep a)).selects.enough

      serial_wide : live.next < 2 ^ 64
      serial_wide = omega (arith, plans.serial)

      abbrev next : Record
      next = suspended (durable_after live at) area (counts_of size)

      pub next_is : saved_record s ≡ next
      next_is =
          ap (λ (x : Selected). suspended (durable_after x.live s.at) (free_side x.live.image) (counts_of x.shape)) same_from
          ∙ ap (λ (t : Resumption). suspended (durable_after live t) area (counts_of size)) same_at

      long : length memory ≡ ram_bytes_of size
      long = fits_board.0

      reads : memory_of size live.next (counts_of size) (area_of size area (f b).content) ≡ memory
      reads =
          area_reads size board area live.next memory (f b).content serial_wide long
          (let end = ends_within area (area_sectors_of size) (length (f a).content) (free_two live.image) enough_was in omega (arith, end, wrote.content.as_long)) stand

      pub makes : state_of size next (f b).content ≡ after (state_of size live (f b).content) c
      makes = ap (λ (bytes : List ℕ). made bytes) reads
        where
          made : List ℕ → DurableState
          made bytes = record {
            slot = live.slot;
            reason = live.reason;
            next = live.next + 1;
            trial = live.trial;
            image = Some (record { serial = live.next; hart = at.hart; address = at.address; opaque = at.opaque; memory = bytes });
          }

      pub holds_then : Holds (f b) old
      holds_then = still_holds (Ok tt) many wrote

      pub allowed : refusal_of (state_of size live (f b).content) c ≡ None
      allowed = allowed_in (f b).content

      pub range : at.opaque < 2 ^ 64 → IsInRange size next
      range opaque = saved_range old.selected at board range_was plans.fits.1 plans.fits.2 plans.serial opaque

      -- ---- before the first call of its commit
      enough_then : 4 ≤ length (f b).content
      enough_then = omega (arith, enough_was, wrote.content.as_long)

      side_then : s.from.side < 2
      side_then = subst (λ (x : Selected). x.side < 2) (sym same_from) holds.known

      pub begins_commit : Reached f m (Committing (record { from = s.from; next = saved_record s; step = WriteRecord })) b b
      begins_commit = (side_then, enough_then, refl)

      -- ---- and the commit was asked for
      module _ (result : Result ℕ Refusal) (d : D) (new : OpenStore) (asked : Asked f m b old c result d new) (few : IfErr result (λ e. (e ≡ Device) ⊎ (e ≡ Down))) where
        did : Applied (f b) (m b) old c result (f d) (m d) new
        did = asked.answered plans.up

        abbrev same : state_of size live (f b).content ≡ now
        same = now_same (Ok tt) many wrote

        told_by : (r : Result ℕ Refusal) (t : DurableState) → Told old now c r new t → SuspendTold (Fits old memory at) old now c r new t
        told_by (Ok n) t told = (fits_board, told)
        told_by (Err e) t told = inl (fits_board, told)

        written_by : (r : Result ℕ Refusal) → OnOk r (WroteACommand (f b) (f d)) → OnOk r (WroteACommand (f a) (f d))
        written_by (Ok n) w = let freed_ = freed (Ok tt) many wrote in wrote_later (f a) (f b) (f d) freed_.selected_still freed_.live_still w
        written_by (Err e) w = tt

        calls_by : (r : Result ℕ Refusal) → OnOk r ((f d).calls ≡ counted (f b).calls 4) → OnOk r ((f d).calls ≡ counted (f a).calls (2 * size.pages + 5))
        calls_by (Ok n) four = omega (arith, four, wrote.calls)
        calls_by (Err e) four = tt

        untouched_by : (r : Result ℕ Refusal) → IfErr r (λ e. (e ≡ Device) ⊎ (e ≡ Down)) → IfErr r (λ e. (e ≡ Device → ⊥) → (e ≡ Down → ⊥) → (d ≡ a) × (new ≡ old))
        untouched_by (Ok n) two = tt
        untouched_by (Err e) two = λ not_device not_down. absurd (⊎_elim not_device not_down two)

        leaves_by : GoesTo (f a) (f d) size now (after now c) result
        leaves_by =
            let here = subst (λ (x : DurableState). GoesTo (f b) (f d) size x (after x c) result) same did.leaves in
            record {
              any_moment = leaves_then (f a) (f b) (f d) (StandsForEither size now (after now c)) (first_moment (Ok tt) many wrote) here.any_moment;
              acknowledged = here.acknowledged;
              unchanged = here.unchanged;
              still = IfErr-weaker result _ _ (λ e each not_down. leaves_then (f a) (f b) (f d) (λ x. StandsFor x size now) (freed (Ok tt) many wrote).any_moment (each not_down)) here.still;
              in_doubt = here.in_doubt;
            }

        pub suspends : SuspendsTo f m a old memory at result d new
        suspends = record {
          answered = λ up. record {
            told = told_by result (state_now new (f d).content) (subst (λ (x : DurableState). Told old x c result new (state_now new (f d).content)) same did.told);
            leaves = leaves_by;
            written = written_by result did.written;
            cause = subst (λ (x : FaultState). MatchResult result (λ n. m d ≡ x) (λ e. CausedRefusal x e (m d))) wrote.unmoved did.cause;
            counts = subst (λ (k : ℕ). MatchResult result (λ n. (f d).failures ≡ k) (λ e. CountedRefusal k e (f d).failures)) wrote.no_failure did.counts;
            calls = calls_by result did.calls;
          };
          down = λ is. absurd (not_both old.down plans.up is);
          untouched = untouched_by result few;
          holds = asked.holds;
          as_long = asked.as_long ∙ wrote.content.as_long;
          no_fewer = omega (arith, asked.no_fewer, wrote.no_failure);
        }

-- ---- how a suspension's first part has ended
module _ {D : Type 0} (f : D → Facts) (m : D → FaultState) (s : Saving) (a b : D) (memory : List ℕ) where
  failed_at : (step : SaveStep) → SaveAt f m step s a b memory → save_asks_at step s ≡ requests.Done → commit_at step s ≡ None → WroteArea f m (2 * s.from.shape.pages + 1) s a (Err tt) b
  failed_at WriteHead at ended none = cc
  failed_at WritePage at ended none = cc
  failed_at SyncArea at ended none = cc
  failed_at AreaSaved at ended none = cc
  failed_at Failed at ended none = at

  pub failed : SaveReached f m s a b memory → save_asks s ≡ requests.Done → commit_of s ≡ None → WroteArea f m (2 * s.from.shape.pages + 1) s a (Err tt) b
  failed reached ended none = failed_at s.step reached.at ended none

  saved_at : (step : SaveStep) (commit : Commit) → SaveAt f m step s a b memory → commit_at step s ≡ Some commit → SaveAt f m AreaSaved s a b memory × (commit ≡ record { from = s.from; next = saved_record s; step = WriteRecord })
  saved_at WriteHead commit at is = cc
  saved_at WritePage commit at is = cc
  saved_at SyncArea commit at is = cc
  saved_at AreaSaved commit at is = (at, same (record { from = s.from; next = saved_record s; step = WriteRecord }) commit is)
    where
      same : (x y : Commit) → Some x ≡ Some y → y ≡ x
      same x y is = cc
  saved_at Failed commit at is = cc

  pub saved_so : (commit : Commit) → SaveReached f m s a b memory → commit_of s ≡ Some commit → SaveAt f m AreaSaved s a b memory × (commit ≡ record { from = s.from; next = saved_record s; step = WriteRecord })
  saved_so commit reached is = saved_at s.step commit reached.at is

-- a commit is refused 5 or 6
receipt_few_at : (store : OpenStore) (step : CommitStep) → IfErr (receipt_at store step) (λ e. (e ≡ Device) ⊎ (e ≡ Down))
receipt_few_at store WriteRecord = inl refl
receipt_few_at store SyncRecord = inl refl
receipt_few_at store WriteGate = inl refl
receipt_few_at store SyncGate = inl refl
receipt_few_at store Committed = tt
receipt_few_at store Unchanged = inl refl
receipt_few_at store InDoubt = inr refl

pub receipt_few : (store : OpenStore) (q : Plan) → IfErr (receipt_of store q) (λ e. (e ≡ Device) ⊎ (e ≡ Down))
receipt_few store (Committing k) = receipt_few_at store k.step
receipt_few store (Settling n) = inl refl
receipt_few store (ReadingSuperblock n) = inl refl
receipt_few store (ReadingGate z) = inl refl
receipt_few store (ReadingRecord z side) = inl refl
receipt_few store (Found found) = inl refl
receipt_few store (Renewing k) = inl refl
receipt_few store (Formatting k) = inl refl
receipt_few store (Refused e) = inl refl
