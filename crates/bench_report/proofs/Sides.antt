-- Gate and records of the bench's disk, from line to line.
use Rattle.std.proofs.Common.{◌≡◌, ◌⊎◌, ◌+◌, ◌-◌, ◌%◌, ℕ, zero, suc, List, [], ◌∷◌, ◌++◌, inl, inr, refl, sym, ◌∙◌, ap, subst, arith, length, get_or, replicate}
use Rattle.std.proofs.lemmas.List.{length-append, append-nil}
use mathlib.Core.List.{append_assoc}
use Rattle.board_model.specs.{Durable.{DurableState, Change, after}, Kept.{Kept, nothing_kept}, Shapes.Size}
use Rattle.disk.specs.Facts.{Facts, Content, IsFresh, sector, counted}
use Rattle.layout.specs.{Fields.{sector_of, fields_bytes, number_bytes, number_at}, declared.records.{Record.Record, Version.Version}}
use Rattle.layout.specs.{Records.{selected_by, gate_of, version_number, record_of, IsRecord}, Superblocks.HasMagic}
use Rattle.layout.specs.declared.records.Version.TheVariants.{One, Two}
use Rattle.store.specs.{Formats.{HeadInOrder, formatted_record}, Inspects.HasRecord}
use Rattle.store.specs.Leaves.{IsMarked, IsKept, IsRenewed, LeftAsBefore, WroteACommand}
use Rattle.store.specs.Standing.{selected, live_sector, other_sector, version_at, StandsFor}
use Rattle.board.specs.Moments.{IsWrittenOver, AreWritten}
use Rattle.bench_report.specs.{Bench.{DiskState, Blank, Unknown, Formatted, BenchLife, Bench, bench_with}, Sides.{SidesOf, SidesAre}}
use Rattle.bench_report.specs.Agree.{LifeIs}

-- a crash leaves no more than before
abbrev pub LeavesFewer : Facts → Facts → Type 0
LeavesFewer old new = (c : Content) → new.may_leave c → old.may_leave c

pub sides_stay : (size : Size) (b : Bench) (old new : Facts) → LeavesFewer old new → SidesAre size b old → SidesAre size b new
sides_stay size b old new fewer was clean c left = was clean c (fewer c left)

-- a content that could be left before, or its state in a record of version 2: none of a clean bench is renewed
pub sides_before : (size : Size) (m : DiskState) (k : Kept) (old : Facts) → (m ≡ Blank → (b c : Content) → old.may_leave b → IsRenewed b c → ⊥) → ((c : Content) → old.may_leave c → SidesOf m k size c) → (c : Content) → LeftAsBefore old c → SidesOf m k size c
sides_before size m k old never was c (inl may) = was c may
sides_before size Blank k old never was c (inr (b, may, renewed)) = absurd (never refl b c may renewed)
sides_before size Unknown k old never was c (inr (b, may, renewed)) = was b may
sides_before size Formatted k old never was c (inr (b, may, renewed)) = absurd (let two = (was b may).3 in omega (arith, two, renewed.0))

-- where nothing is said of a bench that is not clean
pub failed_sides : (size : Size) (b : Bench) (n : ℕ) (disk : Facts) → b.failures ≡ counted n 1 → SidesAre size b disk
failed_sides size b n disk failed clean c left = absurd (omega (arith, clean.0.1, failed))

pub starved_sides : (size : Size) (b : Bench) (n : ℕ) (disk : Facts) → b.growths ≡ n + 1 → SidesAre size b disk
starved_sides size b n disk starved clean c left = absurd (omega (arith, clean.0.0, starved))

-- what stands for a state has its record in its form
pub recorded : (size : Size) (c : Content) (s : DurableState) → StandsFor c size s → HasRecord size (live_sector c)
unfolding StandsFor
recorded size c s (side, r, selects, e) = let P : ℕ → Type 0 = λ k. IsRecord size r (sector c (2 + k)) in (r, subst P (sym selects.gate) selects.is)

kept_recorded : (size : Size) (disk : Facts) → IsKept disk size → (c : Content) → disk.may_leave c → HasRecord size (live_sector c)
unfolding IsKept
kept_recorded size disk kept c left = let s = kept c left in recorded size c s.0 s.1

-- a gate that turned is of the other parity
turned : (n m g h : ℕ) → g ≡ n % 2 → h ≡ 1 - g → m ≡ n + 1 → h ≡ m % 2
turned n m g h was is more = grind (arith, was, is, more)

-- ---- a command
over : (size : Size) (k : Kept) (change : Change) (old new : Content) → IsWrittenOver old new → HasRecord size (live_sector new) → SidesOf Formatted k size old
    → SidesOf Formatted (record k { changes = k.changes ++ change ∷ [] }) size new
over size k change old new written live was =
    let P : List ℕ → Type 0 = HasRecord size in
    let more : length (k.changes ++ change ∷ []) ≡ length k.changes + 1 = length-append k.changes (change ∷ []) in
    (was.0, turned (length k.changes) (length (k.changes ++ change ∷ [])) (selected old) (selected new) was.1 written.0 more, live, written.1, (λ has. omega (arith, more), λ some. subst P (sym written.2) was.2))

module _ (size z : Size) (k : Kept) (change : Change) (life : BenchLife) (old new : Facts) (may : old.may_leave old.content) where
  -- whatever the bench knows of its disk
  pub commanded : (m : DiskState) → LifeIs size m k life z → WroteACommand old new → IsKept new z → ((c : Content) → old.may_leave c → SidesOf m k size c)
      → (c : Content) → new.may_leave c → SidesOf m (record k { changes = k.changes ++ change ∷ [] }) size c
  unfolding WroteACommand
  commanded Blank is wrote kept was c left = absurd is
  commanded Unknown is wrote kept was c left = was old.content may
  commanded Formatted is wrote kept was c left =
      let P : Size → Type 0 = λ y. IsKept new y in
      over size k change old.content c (wrote c left) (kept_recorded size new (subst P is.2 kept) c left) (was old.content may)

-- ---- a boot
stands_first : (z : Size) (s : DurableState) (cs : List Change) (old new : Content) → AreWritten z s cs old new → StandsFor old z s
stands_first z s [] old new written = written.0
stands_first z s (c ∷ cs) old new written = written.0

formatted_written : (z : Size) (cs : List Change) (k : Kept) (s : DurableState) (old new : Content) → AreWritten z s cs old new → SidesOf Formatted k z old → SidesOf Formatted (record k { changes = k.changes ++ cs }) z new
formatted_written z [] k s old new (stands, same) was =
    let P : List Change → Type 0 = λ xs. SidesOf Formatted (record k { changes = xs }) z new in
    let Q : Content → Type 0 = λ c. SidesOf Formatted k z c in
    subst P (sym (append-nil k.changes)) (subst Q (sym same) was)
formatted_written z (c ∷ cs) k s old new (stands, (mid, over_it, rest)) was =
    let P : List Change → Type 0 = λ xs. SidesOf Formatted (record k { changes = xs }) z new in
    let live : HasRecord z (live_sector mid) = recorded z mid (after s c) (stands_first z (after s c) cs mid new rest) in
    subst P (append_assoc k.changes (c ∷ []) cs) (formatted_written z cs (record k { changes = k.changes ++ c ∷ [] }) (after s c) mid new rest (over z k c old mid over_it live was))

-- its commands, each written over the one before
pub all_written : (size z : Size) (m : DiskState) (k : Kept) (cs : List Change) (s : DurableState) (life : BenchLife) (old new : Content) → LifeIs size m k life z → AreWritten z s cs old new → SidesOf m k size old
    → SidesOf m (record k { changes = k.changes ++ cs }) size new
all_written size z Blank k cs s life old new is written was = absurd is
all_written size z Unknown k cs s life old new is written was = was
all_written size z Formatted k cs s life old new is written was = let P : Size → Type 0 = λ y. AreWritten y s cs old new in formatted_written size cs k s old new (subst P is.2 written) was

-- ---- a format
gate_zero : selected_by (gate_of 0) ≡ 0
unfolding sector_of
gate_zero = refl

-- and writes a record of version 2
version_two : version_at (record_of formatted_record) ≡ 2
unfolding sector_of fields_bytes number_bytes number_at
version_two = refl

pub formatted_sides : (size : Size) (old new : Content) → (IsMarked old → ⊥) → IsMarked new → HeadInOrder old new → HasRecord size (live_sector new) → SidesOf Blank nothing_kept size old → SidesOf Formatted nothing_kept size new
formatted_sides size old new unmarked marked order live none = by order.order
  where
    by : (sector new 0 ≡ sector old 0) ⊎ ((sector new 1 ≡ gate_of 0) × (sector new 2 ≡ record_of formatted_record)) → SidesOf Formatted nothing_kept size new
    by (inl same) = let P : List ℕ → Type 0 = HasMagic in absurd (unmarked (subst P same marked))
    by (inr (gate, is)) =
        let zero : selected new ≡ 0 = ap selected_by gate ∙ gate_zero in
        let other : other_sector new ≡ sector old 3 = ap (λ g. sector new (2 + (1 - g))) zero ∙ order.head.after 3 (omega arith) in
        let P : List ℕ → Type 0 = HasRecord size in
        let first : live_sector new ≡ record_of formatted_record = ap (λ g. sector new (2 + g)) zero ∙ is in
        (refl, zero, live, ap version_at first ∙ version_two, (λ has. absurd (none (subst P other has)), λ some. absurd (omega (arith, some))))

-- ---- a disk of zeros
first_of_third : (n : ℕ) → get_or (sector (replicate n (replicate 512 0)) 3) 0 0 ≡ 0
first_of_third zero = refl
first_of_third (suc zero) = refl
first_of_third (suc (suc zero)) = refl
first_of_third (suc (suc (suc zero))) = refl
first_of_third (suc (suc (suc (suc n)))) = refl

-- a record begins with its version
first_of : (v : Version) (r : Record) → get_or (record_of (record r { version = v })) 0 0 ≡ version_number v
unfolding sector_of fields_bytes number_bytes
first_of One r = refl
first_of Two r = refl

no_version : (v : Version) → version_number v ≡ 0 → ⊥
no_version One e = omega (arith, e)
no_version Two e = omega (arith, e)

pub zero_sides : (payloads : List (List ℕ)) (size : Size) (n : ℕ) (disk : Facts) → IsFresh (replicate n (replicate 512 0)) disk → SidesAre size (bench_with payloads) disk
zero_sides payloads size n disk fresh clean c left (r, is) =
    let P : Content → Type 0 = λ x. get_or (sector x 3) 0 0 ≡ 0 in
    let zero : get_or (sector c 3) 0 0 ≡ 0 = subst P (sym (fresh.durable c left)) (first_of_third n) in
    let first : get_or (sector c 3) 0 0 ≡ version_number r.version = ap (λ (bytes : List ℕ). get_or bytes 0 0) is.1 ∙ first_of r.version r in
    no_version r.version (sym first ∙ zero)
