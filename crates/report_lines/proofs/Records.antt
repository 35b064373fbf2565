-- Whether a content is that of a board, and whether a sector is a record of it: each number that stands in a
-- superblock or in a record has a bound, so one search over all of them tells.
use Rattle.std.proofs.Common.{◌≡◌, ◌<◌, ◌≤◌, ◌+◌, ◌^◌, ℕ, zero, suc, inl, inr, List, [], ◌∷◌, Option, None, Some, length, slice_index, sum, refl, ap, sym, ◌∙◌, subst, arith}
use Rattle.std.specs.Prelude.{◌%◌}
use Rattle.board_model.specs.{Shapes.{Size, IsSize, IsValidAddress, board_size, ram_bytes_of, sectors_of}, Views.reason_number}
use Rattle.board_model.specs.declared.durable.{Reason.{Reason, TheVariants.{NoReason, SystemFailure}}, Trial.Trial}
use Rattle.disk.specs.Facts.{Content, sector}
use Rattle.layout.specs.{Fields.{Field, FitAll}, Superblocks.superblock_of, declared.{saved.Saved.Saved, records.Record.Record}}
use Rattle.layout.specs.Records.{saved_fields, head_fields, record_of, most_places, AreCounts, IsSaved, AreSaved, IsTrialIn, IsInRange, IsRecord}
use Rattle.layout.specs.declared.records.Version.{Version, TheVariants.{One, Two}}
use Rattle.store.specs.Opens.{IsBoard}
use Rattle.report_lines.proofs.Searches.{Decided, both, three, six, less, at_most, equal, equal_lists, all_below, AreBelow, rows}

-- ---- the board
is_size : (size : Size) → Decided (IsSize size)
is_size size =
    six (at_most 1 size.harts) (at_most size.harts 8) (at_most 1 size.pages) (at_most size.pages 256) (at_most 1 size.lanes) (at_most size.lanes 4)

is_board : (c : Content) (size : Size) → Decided (IsBoard size c)
is_board c size = both (both (is_size size) (equal_lists (sector c 0) (superblock_of size))) (at_most (sectors_of size) (length c))

-- the size by its numbers
abbrev size_by : List ℕ → Size
size_by ns = board_size (slice_index ns 0) (slice_index ns 1) (slice_index ns 2)

abbrev size_bounds : List ℕ
size_bounds = 9 ∷ 257 ∷ 5 ∷ []

-- the content is that of a board, or of none
pub some_board : (c : Content) → Decided ((size : Size) × IsBoard size c)
some_board c = by (rows size_bounds (λ ns. IsBoard (size_by ns) c) (λ ns. is_board c (size_by ns)))
  where
    by : Decided ((ns : List ℕ) × AreBelow size_bounds ns × IsBoard (size_by ns) c) → Decided ((size : Size) × IsBoard size c)
    by (inl (ns, are, is)) = inl (size_by ns, is)
    by (inr never) = inr (λ h.
        let few = h.1.0.0 in
        never (h.0.harts ∷ h.0.pages ∷ h.0.lanes ∷ [], (omega (arith, few.1), (omega (arith, few.3), (omega (arith, few.5), tt))), h.1))

-- ---- the record
fit_all : (fields : List Field) → Decided (FitAll fields)
fit_all [] = inl tt
fit_all (field ∷ fields) = both (less field.1 (256 ^ field.0)) (fit_all fields)

is_address : (size : Size) (a : ℕ) → Decided (IsValidAddress size a)
is_address size a = three (at_most 0x80000000 a) (less a (0x80000000 + ram_bytes_of size)) (equal (a % 4) 0)

abbrev IsFew : Size → List ℕ → ℕ → Type 0
IsFew size counts lane = slice_index counts lane ≤ most_places size lane

are_counts : (size : Size) (counts : List ℕ) → Decided (AreCounts size counts)
are_counts size counts =
    by (three (equal (length counts) 4) (all_below 4 (IsFew size counts) (λ lane. at_most (slice_index counts lane) (most_places size lane))) (equal (sum counts) size.pages))
  where
    by : Decided ((length counts ≡ 4) × ((lane : ℕ) → lane < 4 → IsFew size counts lane) × (sum counts ≡ size.pages)) → Decided (AreCounts size counts)
    by (inl h) = inl (record { four = h.0; each = h.1; all = h.2 })
    by (inr never) = inr (λ (h : AreCounts size counts). never (h.four, h.each, h.all))

is_saved : (size : Size) (next : ℕ) (saved : Saved) → Decided (IsSaved size next saved)
is_saved size next saved =
    by (six (less saved.head.serial next) (less saved.area 2) (less saved.head.hart size.harts) (is_address size saved.head.address) (are_counts size saved.counts) (fit_all (saved_fields saved)))
  where
    by : Decided ((saved.head.serial < next) × (saved.area < 2) × (saved.head.hart < size.harts) × IsValidAddress size saved.head.address × AreCounts size saved.counts × FitAll (saved_fields saved)) → Decided (IsSaved size next saved)
    by (inl h) = inl (record { serial = h.0; area = h.1; hart = h.2; address = h.3; counts = h.4; fit = h.5 })
    by (inr never) = inr (λ (h : IsSaved size next saved). never (h.serial, h.area, h.hart, h.address, h.counts, h.fit))

are_saved : (size : Size) (next : ℕ) (image : Option Saved) → Decided (AreSaved size next image)
are_saved size next None = inl (λ s e. absurd (let no : ⊥ = cc in no))
are_saved size next (Some saved) = by (is_saved size next saved)
  where
    by : Decided (IsSaved size next saved) → Decided (AreSaved size next (Some saved))
    by (inl h) = inl (λ s e. (let f : saved ≡ s = cc in subst (IsSaved size next) f h))
    by (inr never) = inr (λ h. never (h saved refl))

is_trial : (v : Version) (trial : Option Trial) → Decided (IsTrialIn v trial)
is_trial v None = inl (λ t e. absurd (let no : ⊥ = cc in no))
is_trial One (Some t) = inr (λ h. (let no : One ≡ Two = (h t refl).0 in cc))
is_trial Two (Some t) = by (both (at_most t.fallback 3) (at_most t.left 7))
  where
    by : Decided ((t.fallback ≤ 3) × (t.left ≤ 7)) → Decided (IsTrialIn Two (Some t))
    by (inl h) = inl (λ u e. (let f : t ≡ u = cc in subst (λ (x : Trial). (Two ≡ Two) × (x.fallback ≤ 3) × (x.left ≤ 7)) f (refl, h.0, h.1)))
    by (inr never) = inr (λ h. never ((h t refl).1, (h t refl).2))

is_record : (size : Size) (bytes : List ℕ) (r : Record) → Decided (IsRecord size r bytes)
is_record size bytes r = both (in_range (both (is_trial r.version r.trial) (three (at_most r.slot 3) (are_saved size r.next r.image) (fit_all (head_fields r))))) (equal_lists bytes (record_of r))
  where
    in_range : Decided (IsTrialIn r.version r.trial × ((r.slot ≤ 3) × AreSaved size r.next r.image × FitAll (head_fields r))) → Decided (IsInRange size r)
    in_range (inl h) = inl (record { slot = h.1.0; image = h.1.1; trial = h.0; fit = h.1.2 })
    in_range (inr never) = inr (λ (h : IsInRange size r). never (h.trial, (h.slot, h.image, h.fit)))

-- a record by its numbers: its version, whether a trial stands, and two of that; slot, reason and next serial,
-- whether an image is present, and nine of that
abbrev version_by : ℕ → Version
version_by zero = One
version_by (suc n) = Two

abbrev trial_by : ℕ → ℕ → ℕ → Option Trial
trial_by zero fallback left = None
trial_by (suc n) fallback left = Some (record { fallback = fallback; left = left })

abbrev reason_by : ℕ → Reason
reason_by zero = NoReason
reason_by (suc n) = SystemFailure

abbrev saved_by : List ℕ → Saved
saved_by ns = record {
  head = record { serial = slice_index ns 8; hart = slice_index ns 10; address = slice_index ns 11; opaque = slice_index ns 12 };
  area = slice_index ns 9;
  counts = slice_index ns 13 ∷ slice_index ns 14 ∷ slice_index ns 15 ∷ slice_index ns 16 ∷ [];
}

abbrev image_by : ℕ → List ℕ → Option Saved
image_by zero ns = None
image_by (suc n) ns = Some (saved_by ns)

abbrev record_by : List ℕ → Record
record_by ns = record {
  version = version_by (slice_index ns 0);
  slot = slice_index ns 4;
  reason = reason_by (slice_index ns 5);
  next = slice_index ns 6;
  image = image_by (slice_index ns 7) ns;
  trial = trial_by (slice_index ns 1) (slice_index ns 2) (slice_index ns 3);
}

abbrev numbers_of : Option Saved → List ℕ
numbers_of None = 0 ∷ 0 ∷ 0 ∷ 0 ∷ 0 ∷ 0 ∷ 0 ∷ 0 ∷ 0 ∷ 0 ∷ []
numbers_of (Some saved) =
    1 ∷ saved.head.serial ∷ saved.area ∷ saved.head.hart ∷ saved.head.address ∷ saved.head.opaque
    ∷ slice_index saved.counts 0 ∷ slice_index saved.counts 1 ∷ slice_index saved.counts 2 ∷ slice_index saved.counts 3 ∷ []

abbrev version_index : Version → ℕ
version_index One = 0
version_index Two = 1

abbrev trial_there : Option Trial → ℕ
trial_there None = 0
trial_there (Some t) = 1

abbrev fallback_in : Option Trial → ℕ
fallback_in None = 0
fallback_in (Some t) = t.fallback

abbrev left_in : Option Trial → ℕ
left_in None = 0
left_in (Some t) = t.left

abbrev row_of : Record → List ℕ
row_of r =
    version_index r.version ∷ trial_there r.trial ∷ fallback_in r.trial ∷ left_in r.trial ∷ r.slot ∷ reason_number r.reason
    ∷ r.next ∷ numbers_of r.image

four : (xs : List ℕ) → length xs ≡ 4 → slice_index xs 0 ∷ slice_index xs 1 ∷ slice_index xs 2 ∷ slice_index xs 3 ∷ [] ≡ xs
four [] is = absurd (omega (arith, is))
four (a ∷ []) is = absurd (omega (arith, is))
four (a ∷ b ∷ []) is = absurd (omega (arith, is))
four (a ∷ b ∷ c ∷ []) is = absurd (omega (arith, is))
four (a ∷ b ∷ c ∷ d ∷ []) is = refl
four (a ∷ b ∷ c ∷ d ∷ e ∷ xs) is = absurd (omega (arith, is))

reason_back : (reason : Reason) → reason_by (reason_number reason) ≡ reason
reason_back NoReason = refl
reason_back SystemFailure = refl

version_back : (v : Version) → version_by (version_index v) ≡ v
version_back One = refl
version_back Two = refl

trial_back : (trial : Option Trial) → trial_by (trial_there trial) (fallback_in trial) (left_in trial) ≡ trial
trial_back None = refl
trial_back (Some t) = refl

abbrev counted_as : Saved → List ℕ → Saved
counted_as saved counts = record saved { counts = counts }

image_back : (size : Size) (version trial fallback left next slot reason : ℕ) (image : Option Saved) → AreSaved size next image
    → image_by (slice_index (version ∷ trial ∷ fallback ∷ left ∷ slot ∷ reason ∷ next ∷ numbers_of image) 7) (version ∷ trial ∷ fallback ∷ left ∷ slot ∷ reason ∷ next ∷ numbers_of image) ≡ image
image_back size version trial fallback left next slot reason None is = refl
image_back size version trial fallback left next slot reason (Some saved) is = ap (λ (counts : List ℕ). Some (counted_as saved counts)) (four saved.counts (is saved refl).counts.four)

row_back : (size : Size) (r : Record) → IsInRange size r → record_by (row_of r) ≡ r
row_back size r is =
    ap (λ (x : Version). record (record_by (row_of r)) { version = x }) (version_back r.version)
    ∙ ap (λ (x : Reason). record (record_by (row_of r)) { version = r.version; reason = x }) (reason_back r.reason)
    ∙ ap (λ (x : Option Trial). record (record_by (row_of r)) { version = r.version; reason = r.reason; trial = x }) (trial_back r.trial)
    ∙ ap (λ (x : Option Saved). record r { image = x })
    (image_back size (version_index r.version) (trial_there r.trial) (fallback_in r.trial) (left_in r.trial) r.next r.slot (reason_number r.reason) r.image is.image)

abbrev bounds : List ℕ
bounds = 2 ∷ 2 ∷ 4 ∷ 8 ∷ 4 ∷ 2 ∷ 256 ^ 8 ∷ 2 ∷ 256 ^ 8 ∷ 2 ∷ 256 ^ 4 ∷ 256 ^ 8 ∷ 256 ^ 8 ∷ 256 ^ 4 ∷ 256 ^ 4 ∷ 256 ^ 4 ∷ 256 ^ 4 ∷ []

abbrev image_bounds : List ℕ
image_bounds = 2 ∷ 256 ^ 8 ∷ 2 ∷ 256 ^ 4 ∷ 256 ^ 8 ∷ 256 ^ 8 ∷ 256 ^ 4 ∷ 256 ^ 4 ∷ 256 ^ 4 ∷ 256 ^ 4 ∷ []

numbers_below : (size : Size) (next : ℕ) (image : Option Saved) → AreSaved size next image → AreBelow image_bounds (numbers_of image)
numbers_below size next None is = (omega arith, (omega arith, (omega arith, (omega arith, (omega arith, (omega arith, (omega arith, (omega arith, (omega arith, (omega arith, tt))))))))))
numbers_below size next (Some saved) is =
    let fit = (is saved refl).fit in
    (omega arith, (fit.0, ((is saved refl).area, (fit.1.1.0, (fit.1.1.1.0, (fit.1.1.1.1.0, (fit.1.1.1.1.1.0, (fit.1.1.1.1.1.1.0, (fit.1.1.1.1.1.1.1.0, (fit.1.1.1.1.1.1.1.1.0, tt))))))))))

reason_below : (reason : Reason) → reason_number reason < 2
reason_below NoReason = omega arith
reason_below SystemFailure = omega arith

version_below : (v : Version) → version_index v < 2
version_below One = omega arith
version_below Two = omega arith

trial_below : (v : Version) (trial : Option Trial) → IsTrialIn v trial → (trial_there trial < 2) × (fallback_in trial < 4) × (left_in trial < 8)
trial_below v None is = (omega arith, omega arith, omega arith)
trial_below v (Some t) is = let few = is t refl in (omega arith, omega (arith, few.1), omega (arith, few.2))

row_below : (size : Size) (r : Record) → IsInRange size r → AreBelow bounds (row_of r)
row_below size r is =
    let trial = trial_below r.version r.trial is.trial in (
      version_below r.version,
      (
        trial.0,
        (
          trial.1,
          (
            trial.2,
            (omega (arith, is.slot), (reason_below r.reason, (is.fit.1.1.1.1.0, numbers_below size r.next r.image is.image))),
          ),
        ),
      ),
    )

abbrev IsOne : Size → List ℕ → (Record → Type 0) → Record → Type 0
IsOne size bytes Q r = IsRecord size r bytes × Q r

-- the sector is a record of that board of which this holds, or of none
pub some_record : (size : Size) (bytes : List ℕ) (Q : Record → Type 0) → ((r : Record) → Decided (Q r)) → Decided ((r : Record) × IsRecord size r bytes × Q r)
some_record size bytes Q each = by (rows bounds (λ ns. IsOne size bytes Q (record_by ns)) (λ ns. both (is_record size bytes (record_by ns)) (each (record_by ns))))
  where
    by : Decided ((ns : List ℕ) × AreBelow bounds ns × IsOne size bytes Q (record_by ns)) → Decided ((r : Record) × IsRecord size r bytes × Q r)
    by (inl (ns, are, p)) = inl (record_by ns, p.0, p.1)
    by (inr never) = inr (λ h. never (row_of h.0, row_below size h.0 h.1.0, subst (IsOne size bytes Q) (sym (row_back size h.0 h.1.0)) (h.1, h.2)))
