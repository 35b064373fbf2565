-- The numbers and bytes that C keeps are those of one plan, which goes on as the loop's.
use Rattle.std.proofs.{Common.{◌≡◌, ⊎_elim, ◌<◌, ℕ, List, Option, Some, Ok, Err, refl, sym, subst, arith}, lemmas.Bool.cases_eq}
use Rattle.board_model.specs.Shapes.{Size, IsSize}
use Rattle.layout.specs.Records.{IsRecord, IsInRange}
use Rattle.store.proofs.Renewing.{in_range_two}
use Rattle.planned_store.specs.{Commits.{Answer, asked_at, step_after}, Plans.{asked, format_asks, Goes, ReadsSuperblock, ReadsRecord}}
use Rattle.planned_store.specs.declared.{commits.{Commit.Commit, CommitStep.CommitStep, Selected.Selected}, formats.FormatStep.FormatStep}
use Rattle.planned_store.specs.declared.commits.CommitStep.TheVariants.{WriteRecord, SyncRecord, WriteGate, SyncGate, Committed, Unchanged, InDoubt}
use Rattle.planned_store.specs.declared.plans.{Plan.Plan, Request.TheVariants.Done}
use Rattle.planned_store.specs.declared.plans.Plan.TheVariants.{Settling, ReadingSuperblock, ReadingGate, ReadingRecord, Found, Renewing, Committing, Formatting, Refused}
use Rattle.planned_store.specs.declared.formats.FormatStep.TheVariants as formats
use Rattle.sbistore.specs.Packed.{step_number, format_number, HasShape, HasCommit, IsPacked, IsSelectedSound, IsSound}
use Rattle.sbistore.specs.declared.state.Sbistore.{Sbistore}

pub some_is : {A : Type 0} (x y : A) → Some x ≡ Some y → x ≡ y
some_is x y is = cc

-- ---- the plan of a phase
module _ (s : Sbistore) (r : Option Plan) where
  pub at_gate : s.phase ≡ 3 → ((size : Size) → HasShape size s → r ≡ Some (ReadingGate size)) → (plan : Plan) → IsPacked plan s → r ≡ Some plan
  at_gate is exact (Settling n) packed = absurd (omega (arith, is, packed.0))
  at_gate is exact (ReadingSuperblock n) packed = absurd (omega (arith, is, packed.0))
  at_gate is exact (ReadingGate size) packed = exact size packed.1
  at_gate is exact (ReadingRecord size side) packed = absurd (omega (arith, is, packed.0))
  at_gate is exact (Renewing c) packed = absurd (omega (arith, is, packed.0))
  at_gate is exact (Committing c) packed = absurd (omega (arith, is, packed.0))
  at_gate is exact (Formatting f) packed = absurd (omega (arith, is, packed.0))
  at_gate is exact (Found found) packed = absurd packed
  at_gate is exact (Refused e) packed = absurd packed

  pub at_record : s.phase ≡ 4 → ((size : Size) → HasShape size s → s.side < 2 → r ≡ Some (ReadingRecord size s.side)) → (plan : Plan) → IsPacked plan s → r ≡ Some plan
  at_record is exact (Settling n) packed = absurd (omega (arith, is, packed.0))
  at_record is exact (ReadingSuperblock n) packed = absurd (omega (arith, is, packed.0))
  at_record is exact (ReadingGate size) packed = absurd (omega (arith, is, packed.0))
  at_record is exact (ReadingRecord size side) packed = subst (λ (k : ℕ). r ≡ Some (ReadingRecord size k)) packed.2 (exact size packed.1 (omega (arith, packed.2, packed.3)))
  at_record is exact (Renewing c) packed = absurd (omega (arith, is, packed.0))
  at_record is exact (Committing c) packed = absurd (omega (arith, is, packed.0))
  at_record is exact (Formatting f) packed = absurd (omega (arith, is, packed.0))
  at_record is exact (Found found) packed = absurd packed
  at_record is exact (Refused e) packed = absurd packed

-- ---- a plan that is kept is sound, and asks for a call
commit_sound : (c : Commit) (s : Sbistore) → HasCommit c s → IsSelectedSound c.from × IsInRange c.from.shape c.next
commit_sound c s has = ((has.from.shape.valid, has.from.known, has.from.range), has.range)

commit_runs : (side : ℕ) (step : CommitStep) (n : ℕ) → n ≡ step_number step → n < 4 → asked_at side step ≡ Done → ⊥
commit_runs side WriteRecord n is few done = cc
commit_runs side SyncRecord n is few done = cc
commit_runs side WriteGate n is few done = cc
commit_runs side SyncGate n is few done = cc
commit_runs side Committed n is few done = omega (arith, is, few)
commit_runs side Unchanged n is few done = omega (arith, is, few)
commit_runs side InDoubt n is few done = omega (arith, is, few)

format_runs : (step : FormatStep) (n : ℕ) → n ≡ format_number step → n < 6 → format_asks step ≡ Done → ⊥
format_runs formats.ReadSuperblock n is few done = cc
format_runs formats.WriteRecord n is few done = cc
format_runs formats.WriteGate n is few done = cc
format_runs formats.SyncGate n is few done = cc
format_runs formats.WriteSuperblock n is few done = cc
format_runs formats.SyncSuperblock n is few done = cc
format_runs formats.Formatted n is few done = omega (arith, is, few)
format_runs formats.TooSmall n is few done = omega (arith, is, few)
format_runs formats.Marked n is few done = omega (arith, is, few)
format_runs formats.Failed n is few done = omega (arith, is, few)

pub packed_sound : (plan : Plan) (s : Sbistore) → IsPacked plan s → IsSound plan
packed_sound (Settling n) s packed = tt
packed_sound (ReadingSuperblock n) s packed = tt
packed_sound (ReadingGate size) s packed = packed.1.valid
packed_sound (ReadingRecord size side) s packed = (packed.1.valid, packed.3)
packed_sound (Renewing c) s packed = commit_sound c s packed.1
packed_sound (Committing c) s packed = commit_sound c s packed.1
packed_sound (Formatting f) s packed = packed.1.valid
packed_sound (Found found) s packed = absurd packed
packed_sound (Refused e) s packed = absurd packed

packed_runs : (plan : Plan) (s : Sbistore) → IsPacked plan s → asked plan ≡ Done → ⊥
packed_runs (Settling n) s packed done = cc
packed_runs (ReadingSuperblock n) s packed done = cc
packed_runs (ReadingGate size) s packed done = cc
packed_runs (ReadingRecord size side) s packed done = cc
packed_runs (Renewing c) s packed done = commit_runs c.from.side c.step s.step packed.1.step packed.1.going done
packed_runs (Committing c) s packed done = commit_runs c.from.side c.step s.step packed.1.step packed.1.going done
packed_runs (Formatting f) s packed done = format_runs f.step s.step packed.2 packed.3 done
packed_runs (Found found) s packed done = packed
packed_runs (Refused e) s packed done = packed

-- ---- and so is the plan after it
by : (p q : Plan) → q ≡ p → IsSound p → IsSound q
by p q is sound = subst IsSound (sym is) sound

superblock_sound : (n : ℕ) (got : List ℕ) (q : Plan) → ReadsSuperblock n got q → IsSound q
superblock_sound n got (ReadingGate size) went = went.0.0
superblock_sound n got (Refused e) went = tt
superblock_sound n got q went = absurd went

selected_sound : (found : Selected) (size : Size) (side : ℕ) (got : List ℕ) → IsSize size → side < 2 → found.shape ≡ size → found.side ≡ side → IsRecord size found.live got → IsSelectedSound found
selected_sound found size side got valid few sized sided is =
    (subst IsSize (sym sized) valid, omega (arith, few, sided), subst (λ (z : Size). IsInRange z found.live) (sym sized) is.0)

record_sound : (size : Size) (side : ℕ) (got : List ℕ) (q : Plan) → IsSize size → side < 2 → ReadsRecord size side got q → IsSound q
record_sound size side got (Found found) valid few went = selected_sound found size side got valid few went.0 went.1 went.2
record_sound size side got (Renewing c) valid few went =
    let from = selected_sound c.from size side got valid few went.0 went.1 went.2 in
    (from, subst (IsInRange c.from.shape) (sym went.4) (in_range_two c.from.shape c.from.live from.2))
record_sound size side got (Refused e) valid few went = tt
record_sound size side got q valid few went = absurd went

sound_on : (p q : Plan) (r : Answer) (got : List ℕ) → (asked p ≡ Done → ⊥) → IsSound p → Goes p r got q → IsSound q
sound_on (Settling n) q (Ok v) got more sound went = by (ReadingSuperblock n) q went tt
sound_on (Settling n) q (Err e) got more sound went = by (Refused _) q went tt
sound_on (ReadingSuperblock n) q (Ok v) got more sound went = superblock_sound n got q went
sound_on (ReadingSuperblock n) q (Err e) got more sound went = by (Refused _) q went tt
sound_on (ReadingGate size) q (Ok v) got more sound went = by (ReadingRecord size _) q went (sound, omega arith)
sound_on (ReadingGate size) q (Err e) got more sound went = by (Refused _) q went tt
sound_on (ReadingRecord size side) q (Ok v) got more sound went = record_sound size side got q sound.0 sound.1 went
sound_on (ReadingRecord size side) q (Err e) got more sound went = by (Refused _) q went tt
sound_on (Renewing c) q r got more sound went = by (Renewing (record c { step = step_after c.step r })) q went sound
sound_on (Committing c) q r got more sound went = by (Committing (record c { step = step_after c.step r })) q went sound
sound_on (Formatting f) q r got more sound went = by (Formatting (record f { step = went.0 })) q went.2 sound
sound_on (Found found) q r got more sound went = absurd (more refl)
sound_on (Refused e) q r got more sound went = absurd (more refl)

-- the plan that goes on, whether it was told an answer or asks for its first call
pub goes_sound : (plan next : Plan) (s : Sbistore) (got : List ℕ) (P : Answer → Type 0) → IsPacked plan s → (s.asked ≡ 0 → next ≡ plan) → (0 < s.asked → (r : Answer) × P r × Goes plan r got next) → IsSound next
goes_sound plan next s got P packed first told = whether s.asked first told
  where
    whether : (n : ℕ) → (n ≡ 0 → next ≡ plan) → (0 < n → (r : Answer) × P r × Goes plan r got next) → IsSound next
    whether n same went = ⊎_elim
        (λ is. by plan next (same is) (packed_sound plan s packed))
        (λ isn. let w = went (omega (arith, isn)) in sound_on plan next w.0 got (packed_runs plan s packed) (packed_sound plan s packed) w.2)
        (cases_eq n 0)
