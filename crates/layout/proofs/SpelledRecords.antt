-- What stands in a record is what was put there.
use Rattle.std.proofs.Common.{◌≡◌, ◌∙◌, ℕ, ◌+◌, ◌^◌, ◌<◌, ◌≤◌, List, [], ◌∷◌, ◌++◌, Option, Some, None, length, slice_index, replicate, refl, ap, append_assoc, arith, Bool, true, false, true≢false, sym}
use Rattle.board_model.specs.{Shapes.Size, Views.reason_number, declared.durable.{Reason.Reason, Trial.Trial}}
use Rattle.layout.specs.{Fields.{Field, FitAll, number_bytes, fields_bytes, width_of, sector_of, number_at}, Read.StandsIn}
use Rattle.layout.specs.Records.{selected_by, gate_of, version_number, head_fields, saved_fields, no_saved_fields, image_fields, trial_fields, presence_of, IsSaved, IsRecord}
use Rattle.layout.specs.declared.{saved.Saved.Saved, records.{Record.Record, Version.{Version, TheVariants.Two}}}
use Rattle.layout.proofs.Spellings.{number_at-field}

-- what stands after the beginning of a record
abbrev rest : Record → List Field
rest r = image_fields r.image ++ trial_fields r.trial

-- how the beginning of a record is filled
pub filled_head : (r : Record) → (((([] ++ number_bytes 4 (version_number r.version)) ++ number_bytes 4 r.slot) ++ number_bytes 4 (reason_number r.reason)) ++ number_bytes 4 (presence_of r.image)) ++ number_bytes 8 r.next
    ≡ fields_bytes (head_fields r)
unfolding fields_bytes number_bytes
filled_head r = simp append_assoc refl

-- and what it keeps of an image
pub filled_saved : (before : List ℕ) (s : Saved) →
    ((((((((before ++ number_bytes 8 s.head.serial) ++ number_bytes 4 s.area) ++ number_bytes 4 s.head.hart) ++ number_bytes 8 s.head.address) ++ number_bytes 8 s.head.opaque)
    ++ number_bytes 4 (slice_index s.counts 0)) ++ number_bytes 4 (slice_index s.counts 1)) ++ number_bytes 4 (slice_index s.counts 2)) ++ number_bytes 4 (slice_index s.counts 3)
    ≡ before ++ fields_bytes (saved_fields s)
unfolding fields_bytes number_bytes
filled_saved before s = simp append_assoc refl

-- a gate selects the record that it was written for
pub selected_by-gate_of : (side : ℕ) → side < 2 → selected_by (gate_of side) ≡ side
unfolding sector_of
selected_by-gate_of side few = omega (arith, few)

module _ (size : Size) (r : Record) (sector : List ℕ) (is : IsRecord size r sector) where
  pub version_in : number_at 4 0 sector ≡ version_number r.version
  version_in = ap (number_at 4 0) is.1 ∙ number_at-field [] [] ((4, r.slot) ∷ (4, reason_number r.reason) ∷ (4, presence_of r.image) ∷ (8, r.next) ∷ rest r) 4 (version_number r.version) 0 refl is.0.fit.0

  pub slot_in : number_at 4 4 sector ≡ r.slot
  slot_in = ap (number_at 4 4) is.1 ∙ number_at-field [] ((4, version_number r.version) ∷ []) ((4, reason_number r.reason) ∷ (4, presence_of r.image) ∷ (8, r.next) ∷ rest r) 4 r.slot 4 refl is.0.fit.1.0

  pub reason_in : number_at 4 8 sector ≡ reason_number r.reason
  reason_in = ap (number_at 4 8) is.1 ∙ number_at-field [] ((4, version_number r.version) ∷ (4, r.slot) ∷ []) ((4, presence_of r.image) ∷ (8, r.next) ∷ rest r) 4 (reason_number r.reason) 8 refl is.0.fit.1.1.0

  pub presence_in : number_at 4 12 sector ≡ presence_of r.image
  presence_in = ap (number_at 4 12) is.1 ∙ number_at-field [] ((4, version_number r.version) ∷ (4, r.slot) ∷ (4, reason_number r.reason) ∷ []) ((8, r.next) ∷ rest r) 4 (presence_of r.image) 12 refl is.0.fit.1.1.1.0

  pub next_in : number_at 8 16 sector ≡ r.next
  next_in = ap (number_at 8 16) is.1 ∙ number_at-field [] ((4, version_number r.version) ∷ (4, r.slot) ∷ (4, reason_number r.reason) ∷ (4, presence_of r.image) ∷ []) (rest r) 8 r.next 16 refl is.0.fit.1.1.1.1.0

-- what a sector keeps of an image, after the beginning of its record
module _ (r : Record) (s : Saved) (sector : List ℕ) (behind : List Field) (spelled : sector ≡ sector_of (fields_bytes (head_fields r ++ (saved_fields s ++ behind)))) (fit : FitAll (saved_fields s)) where
  pub saved_stands : StandsIn sector s
  saved_stands =
      let h : List Field = head_fields r in
      let a : ℕ × ℕ = (8, s.head.serial) in
      let b : ℕ × ℕ = (4, s.area) in
      let d : ℕ × ℕ = (4, s.head.hart) in
      let e : ℕ × ℕ = (8, s.head.address) in
      let f : ℕ × ℕ = (8, s.head.opaque) in
      let n : ℕ → ℕ × ℕ = λ i. (4, slice_index s.counts i) in
      record {
        serial = ap (number_at 8 24) spelled ∙ number_at-field [] h (b ∷ d ∷ e ∷ f ∷ n 0 ∷ n 1 ∷ n 2 ∷ n 3 ∷ behind) 8 s.head.serial 24 refl fit.0;
        area = ap (number_at 4 32) spelled ∙ number_at-field [] (h ++ a ∷ []) (d ∷ e ∷ f ∷ n 0 ∷ n 1 ∷ n 2 ∷ n 3 ∷ behind) 4 s.area 32 refl fit.1.0;
        hart = ap (number_at 4 36) spelled ∙ number_at-field [] (h ++ a ∷ b ∷ []) (e ∷ f ∷ n 0 ∷ n 1 ∷ n 2 ∷ n 3 ∷ behind) 4 s.head.hart 36 refl fit.1.1.0;
        address = ap (number_at 8 40) spelled ∙ number_at-field [] (h ++ a ∷ b ∷ d ∷ []) (f ∷ n 0 ∷ n 1 ∷ n 2 ∷ n 3 ∷ behind) 8 s.head.address 40 refl fit.1.1.1.0;
        opaque = ap (number_at 8 48) spelled ∙ number_at-field [] (h ++ a ∷ b ∷ d ∷ e ∷ []) (n 0 ∷ n 1 ∷ n 2 ∷ n 3 ∷ behind) 8 s.head.opaque 48 refl fit.1.1.1.1.0;
        zero = ap (number_at 4 56) spelled ∙ number_at-field [] (h ++ a ∷ b ∷ d ∷ e ∷ f ∷ []) (n 1 ∷ n 2 ∷ n 3 ∷ behind) 4 (slice_index s.counts 0) 56 refl fit.1.1.1.1.1.0;
        one = ap (number_at 4 60) spelled ∙ number_at-field [] (h ++ a ∷ b ∷ d ∷ e ∷ f ∷ n 0 ∷ []) (n 2 ∷ n 3 ∷ behind) 4 (slice_index s.counts 1) 60 refl fit.1.1.1.1.1.1.0;
        two = ap (number_at 4 64) spelled ∙ number_at-field [] (h ++ a ∷ b ∷ d ∷ e ∷ f ∷ n 0 ∷ n 1 ∷ []) (n 3 ∷ behind) 4 (slice_index s.counts 2) 64 refl fit.1.1.1.1.1.1.1.0;
        three = ap (number_at 4 68) spelled ∙ number_at-field [] (h ++ a ∷ b ∷ d ∷ e ∷ f ∷ n 0 ∷ n 1 ∷ n 2 ∷ []) behind 4 (slice_index s.counts 3) 68 refl fit.1.1.1.1.1.1.1.1.0;
      }

-- the fields make the record
pub record_is : (r : Record) (version : Version) (slot : ℕ) (reason : Reason) (next : ℕ) (image : Option Saved) (trial : Option Trial) → version ≡ r.version → slot ≡ r.slot → reason ≡ r.reason → next ≡ r.next → image ≡ r.image → trial ≡ r.trial
    → ◌≡◌ {A = Record} (record { version = version; slot = slot; reason = reason; next = next; image = image; trial = trial }) r
record_is r version slot reason next image trial v a b c d t =
    ap (λ (x : Version). made x slot reason next image trial) v
    ∙ ap (λ (x : ℕ). made r.version x reason next image trial) a ∙ ap (λ (x : Reason). made r.version r.slot x next image trial) b
    ∙ ap (λ (x : ℕ). made r.version r.slot r.reason x image trial) c ∙ ap (λ (x : Option Saved). made r.version r.slot r.reason r.next x trial) d
    ∙ ap (λ (x : Option Trial). made r.version r.slot r.reason r.next r.image x) t
  where
    made : Version → ℕ → Reason → ℕ → Option Saved → Option Trial → Record
    made version slot reason next image trial = record { version = version; slot = slot; reason = reason; next = next; image = image; trial = trial }

-- what is answered is one thing
abbrev is_there : {A : Type 0} → Option A → Bool
is_there None = false
is_there (Some x) = true

pub never_none : {A : Type 0} (o : Option A) (x : A) → o ≡ None → o ≡ Some x → ⊥
never_none o x none some = true≢false (sym (ap is_there some) ∙ ap is_there none)

abbrev of_some : {A : Type 0} → A → Option A → A
of_some d None = d
of_some d (Some x) = x

pub same_some : {A : Type 0} (o : Option A) (x y : A) → o ≡ Some x → o ≡ Some y → x ≡ y
same_some o x y a b = ap (of_some x) (sym a ∙ b)

pub absent : (image : Option Saved) → presence_of image ≡ 0 → image ≡ None
absent None is = refl
absent (Some s) is = cc

pub present : (image : Option Saved) → presence_of image ≡ 1 → (s : Saved) × (image ≡ Some s)
present None is = cc
present (Some s) is = (s, refl)

pub presence_few : (image : Option Saved) → presence_of image < 2
presence_few None = omega arith
presence_few (Some s) = omega arith

-- what the record keeps of an image, and where it stands
pub image_in : (size : Size) (r : Record) (sector : List ℕ) (s : Saved) → IsRecord size r sector → r.image ≡ Some s → IsSaved size r.next s × StandsIn sector s
image_in size r sector s is some =
    let saved : IsSaved size r.next s = is.0.image s some in
    let spelled : sector ≡ sector_of (fields_bytes (head_fields r ++ (saved_fields s ++ trial_fields r.trial))) =
    is.1 ∙ ap (λ (i : Option Saved). sector_of (fields_bytes (head_fields r ++ (image_fields i ++ trial_fields r.trial)))) some in
    (saved, saved_stands r s sector (trial_fields r.trial) spelled saved.fit)

-- ---- the trial
-- beginning and image have 72 bytes
wide : (r : Record) (i : Option Saved) → width_of (head_fields r ++ image_fields i) ≡ 72
wide r None = refl
wide r (Some s) = refl

-- a field after them, and after these
trial_field : (r : Record) (i : Option Saved) (front back : List Field) (n x : ℕ) → x < 256 ^ n
    → number_at n (72 + width_of front) (sector_of (fields_bytes (head_fields r ++ (image_fields i ++ (front ++ (n, x) ∷ back))))) ≡ x
trial_field r i front back n x fits =
    ap (λ (fields : List Field). number_at n (72 + width_of front) (sector_of (fields_bytes fields))) (regroup (head_fields r) (image_fields i) front ((n, x) ∷ back))
    ∙ number_at-field [] ((head_fields r ++ image_fields i) ++ front) back n x (72 + width_of front) (ap (λ (k : ℕ). length nothing + k) (width-append (head_fields r ++ image_fields i) front ∙ ap (λ (k : ℕ). k + width_of front) (wide r i)) ∙ omega arith) fits
  where
    nothing : List ℕ
    nothing = []

    regroup : (a b c d : List Field) → a ++ (b ++ (c ++ d)) ≡ ((a ++ b) ++ c) ++ d
    regroup a b c d = simp append_assoc refl

    width-append : (front back : List Field) → width_of (front ++ back) ≡ width_of front + width_of back
    width-append [] back = omega arith
    width-append (field ∷ front) back = omega (arith, width-append front back)

module _ (size : Size) (r : Record) (sector : List ℕ) (is : IsRecord size r sector) where
  spelled_by : (o : Option Trial) → r.trial ≡ o → sector ≡ sector_of (fields_bytes (head_fields r ++ (image_fields r.image ++ trial_fields o)))
  spelled_by o e = is.1 ∙ ap (λ (x : Option Trial). sector_of (fields_bytes (head_fields r ++ (image_fields r.image ++ trial_fields x)))) e

  pub no_trial : r.trial ≡ None → number_at 4 72 sector ≡ 0
  no_trial none = ap (number_at 4 72) (spelled_by None none) ∙ trial_field r r.image [] ((4, 0) ∷ (4, 0) ∷ []) 4 0 (omega arith)

  pub some_trial : (t : Trial) → r.trial ≡ Some t → (number_at 4 72 sector ≡ 1) × (number_at 4 76 sector ≡ t.fallback) × (number_at 4 80 sector ≡ t.left)
  some_trial t some =
      let range = is.0.trial t some in
      let spelled = spelled_by (Some t) some in (
        ap (number_at 4 72) spelled ∙ trial_field r r.image [] ((4, t.fallback) ∷ (4, t.left) ∷ []) 4 1 (omega arith),
        ap (number_at 4 76) spelled ∙ trial_field r r.image ((4, 1) ∷ []) ((4, t.left) ∷ []) 4 t.fallback (omega (arith, range.1)),
        ap (number_at 4 80) spelled ∙ trial_field r r.image ((4, 1) ∷ (4, t.fallback) ∷ []) [] 4 t.left (omega (arith, range.2)),
      )

  has_none : (o : Option Trial) → r.trial ≡ o → number_at 4 72 sector ≡ 0 → o ≡ None
  has_none None e zero = refl
  has_none (Some t) e zero = absurd (omega (arith, zero, (some_trial t e).0))

  pub reads_none : number_at 4 72 sector ≡ 0 → r.trial ≡ None
  reads_none = has_none r.trial refl

  has_one : (o : Option Trial) → r.trial ≡ o → number_at 4 72 sector ≡ 1 → (t : Trial) × (o ≡ Some t)
  has_one None e one = absurd (omega (arith, one, no_trial e))
  has_one (Some t) e one = (t, refl)

  pub reads_some : number_at 4 72 sector ≡ 1 → (t : Trial) × (r.trial ≡ Some t)
  reads_some = has_one r.trial refl

  few : (o : Option Trial) → r.trial ≡ o → number_at 4 72 sector < 2
  few None e = omega (arith, no_trial e)
  few (Some t) e = omega (arith, (some_trial t e).0)

  pub reads_few : number_at 4 72 sector < 2
  reads_few = few r.trial refl

  pub trial_of_two : (t : Trial) → r.trial ≡ Some t → (r.version ≡ Two) × (t.fallback ≤ 3) × (t.left ≤ 7)
  trial_of_two t some = is.0.trial t some

-- how a trial is filled
pub filled_trial : (before : List ℕ) (t : Trial) → ((before ++ number_bytes 4 1) ++ number_bytes 4 t.fallback) ++ number_bytes 4 t.left ≡ before ++ fields_bytes (trial_fields (Some t))
unfolding fields_bytes number_bytes
filled_trial before t = simp append_assoc refl

pub filled_no_trial : fields_bytes (trial_fields None) ≡ replicate 12 0
unfolding fields_bytes number_bytes
filled_no_trial = refl

pub filled_no_image : fields_bytes no_saved_fields ≡ replicate 48 0
unfolding fields_bytes number_bytes
filled_no_image = refl
