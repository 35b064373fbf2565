-- What is read of a file whose bytes may be known.
use Rattle.std.proofs.Common.{◌≡◌, ◌⊎◌, ◌≤◌, ◌*◌, ◌/◌, ◌%◌, ◌≢◌, ℕ, List, Option, None, Some, Result, Ok, Err, IfOk, IfSome, MatchResult, length, take, inl, inr, refl, subst, arith}
use Rattle.std.{proofs.lemmas.Bool.cases_lt, specs.Simd.first_chunks}
use Rattle.board_model.specs.{Shapes.{Size, sectors_of}, declared.refusal.Refusal.{Refusal, TheVariants.{BadShape, NotFormatted}}}
use Rattle.disk.specs.Facts.{Facts, IsFresh}
use Rattle.layout.specs.Superblocks.{HasMagic, IsSuperblock}
use Rattle.board_files.specs.Disks.{IsDiskFile, IsLookedAt, IsNoDisk, RefusesFile, first_sectors}
use Rattle.command_line.specs.declared.fault.ProgramFault.{ProgramFault, TheVariants.Refused}

-- what is seen of a file: a shape, or why there is none
abbrev pub seen : Size → Result Size Refusal
seen size = Ok size

abbrev pub unseen : Refusal → Result Size Refusal
unseen e = Err e

ok_is : (x y : Size) → seen x ≡ seen y → x ≡ y
ok_is x y e = subst (λ (r : Result Size Refusal). IfOk r (λ z. x ≡ z)) e refl

err_is_not : (e : Refusal) (y : Size) → unseen e ≡ seen y → ⊥
err_is_not e y is = subst (λ (r : Result Size Refusal). MatchResult r (λ _. ⊥) (λ _. Unit {0})) is tt

-- what is known of the begin of a file: how many bytes it has, and its first sector
abbrev pub Begin : Option (List ℕ) → ℕ → List ℕ → Type 0
Begin known n first = IfSome known (λ all. (n ≡ length all) × (512 ≤ length all → first ≡ take 512 all))

pub long_begin : (known : Option (List ℕ)) (n : ℕ) (first : List ℕ) → IfSome known (λ all. n ≡ length all)
    → IfSome known (λ all. first ≡ take 512 all) → Begin known n first
long_begin None n first long reads = tt
long_begin (Some all) n first long reads = (long, λ room. reads)

pub short_begin : (known : Option (List ℕ)) (n : ℕ) (first : List ℕ) → IfSome known (λ all. n ≡ length all)
    → (512 ≤ n → ⊥) → Begin known n first
short_begin None n first long short = tt
short_begin (Some all) n first long short = (long, λ room. absurd (short (rw long room)))

pub is_board : (known : Option (List ℕ)) (n : ℕ) (first : List ℕ) (size : Size) → Begin known n first → n % 512 ≡ 0
    → IsSuperblock size first → sectors_of size ≤ n / 512 → IfSome known (IsDiskFile size)
is_board None n first size begin whole superblock room = tt
is_board (Some all) n first size begin whole superblock room =
    let some : 512 ≤ length all = omega (arith, begin.0, room) in
    record {
      whole = rw (← begin.0) whole;
      superblock = rw (← begin.1 some) superblock;
      room = rw (← begin.0) room;
    }

is_exact : (known : Option (List ℕ)) (n : ℕ) (first : List ℕ) (P : Size → Type 0) → Begin known n first
    → ((size : Size) → IsSuperblock size first → n % 512 ≡ 0 → sectors_of size ≤ n / 512 → P size)
    → IfSome known (λ all. (size : Size) → IsDiskFile size all → P size)
is_exact None n first P begin exact = tt
is_exact (Some all) n first P begin exact = λ size is.
    let some : 512 ≤ length all = omega (arith, is.room) in
    exact size (rw (begin.1 some) is.superblock) (rw begin.0 is.whole) (rw begin.0 is.room)

pub exact_ok : (known : Option (List ℕ)) (n : ℕ) (first : List ℕ) (shape : Size) → Begin known n first
    → ((size : Size) → IsSuperblock size first → n % 512 ≡ 0 → sectors_of size ≤ n / 512 → seen shape ≡ seen size)
    → IfSome known (λ all. (size : Size) → IsDiskFile size all → shape ≡ size)
exact_ok known n first shape begin exact =
    is_exact known n first (λ size. shape ≡ size) begin (λ size is whole room. ok_is shape size (exact size is whole room))

pub exact_err : (known : Option (List ℕ)) (n : ℕ) (first : List ℕ) (e : Refusal) (A : Type 0) → Begin known n first
    → ((size : Size) → IsSuperblock size first → n % 512 ≡ 0 → sectors_of size ≤ n / 512 → unseen e ≡ seen size)
    → IfSome known (λ all. (size : Size) → IsDiskFile size all → A)
exact_err known n first e A begin exact =
    is_exact known n first (λ size. A) begin (λ size is whole room. absurd (err_is_not e size (exact size is whole room)))

-- why a file of so many bytes that begins so is no board's
abbrev pub Refuses : ℕ → List ℕ → Refusal → Type 0
Refuses n first e = ((e ≡ BadShape) × ((n % 512 ≢ 0) ⊎ (n ≡ 0)))
    ⊎ ((n % 512 ≡ 0) × (512 ≤ n) × (((e ≡ NotFormatted) × (HasMagic first → ⊥)) ⊎ ((e ≡ BadShape) × HasMagic first)))

refused_by : (n : ℕ) (first : List ℕ) (e : Refusal) → Refuses n first e → (e ≡ BadShape) ⊎ (e ≡ NotFormatted)
refused_by n first e (inl (bad, why)) = inl bad
refused_by n first e (inr (whole, some, inl (bad, un))) = inr bad
refused_by n first e (inr (whole, some, inr (bad, has))) = inl bad

is_refused : (known : Option (List ℕ)) (n : ℕ) (first : List ℕ) (e : Refusal) → Begin known n first → Refuses n first e
    → IfSome known (λ all. RefusesFile all e)
is_refused None n first e begin why = tt
is_refused (Some all) n first e begin (inl (bad, inl broken)) = inl (bad, inl (rw (← begin.0) broken))
is_refused (Some all) n first e begin (inl (bad, inr none)) = inl (bad, inr (rw (← begin.0) none))
is_refused (Some all) n first e begin (inr (whole, some, inl (bad, un))) =
    inr (inl (bad, rw (← begin.1 (rw (← begin.0) some)) un))
is_refused (Some all) n first e begin (inr (whole, some, inr (bad, has))) =
    inr (inr (bad, rw (← begin.1 (rw (← begin.0) some)) has))

pub is_no_disk : (known : Option (List ℕ)) (n : ℕ) (first : List ℕ) (e : Refusal) (fault : ProgramFault) → Begin known n first → Refuses n first e
    → fault ≡ Refused e → IsNoDisk known fault
is_no_disk known n first e fault begin why is = (e, refused_by n first e why, is, is_refused known n first e begin why)

pub is_fresh : (known : Option (List ℕ)) (read : List ℕ) (n room : ℕ) (disk : Facts) → length read ≡ n * 512 → room ≡ n * 512
    → IfSome known (λ all. read ≡ take room all) → IsFresh (first_chunks 512 (length read / 512) read) disk
    → IfSome known (λ all. IsFresh (first_sectors n all) disk)
is_fresh None read n room disk long is reads fresh = tt
is_fresh (Some all) read n room disk long is reads fresh =
    let count : length read / 512 ≡ n = omega (arith, long) in
    let bytes : room ≡ 512 * n = omega (arith, is) in
    subst (λ k. IsFresh (first_chunks 512 n (take k all)) disk) bytes (subst (λ xs. IsFresh (first_chunks 512 n xs) disk) reads (subst (λ k. IsFresh (first_chunks 512 k read) disk) count fresh))

-- ---- how many sectors are looked at
-- whole sectors, and some
at_least : (n m : ℕ) → n ≡ m → n % 512 ≡ 0 → (n ≡ 0 → ⊥) → 512 ≤ m
at_least n m is whole some =
    elim (cases_lt m 512) [
      | inl few ↦ absurd (some (omega (arith, is, whole, few)))
      | inr many ↦ many
    ]

pub looks_at_none : (known : Option (List ℕ)) (n : ℕ) → IfSome known (λ all. n ≡ length all) → n ≡ 0 → IfSome known (IsLookedAt 0)
looks_at_none None n long none = tt
looks_at_none (Some all) n long none = (omega (arith, long, none), inl (refl, omega (arith, long, none)))

pub looks_at_board : (known : Option (List ℕ)) (n : ℕ) (first : List ℕ) (size : Size) → IfSome known (λ all. n ≡ length all)
    → IfSome known (λ all. first ≡ take 512 all) → n % 512 ≡ 0 → IsSuperblock size first → sectors_of size ≤ n / 512
    → IfSome known (IsLookedAt (sectors_of size))
looks_at_board None n first size long reads whole superblock room = tt
looks_at_board (Some all) n first size long reads whole superblock room =
    let is : IsDiskFile size all = is_board (Some all) n first size (long, λ some. reads) whole superblock room in
    (is.whole, inr (inl (size, is, refl)))

pub looks_at_first : (known : Option (List ℕ)) (n : ℕ) (first : List ℕ) (e : Refusal) → IfSome known (λ all. n ≡ length all)
    → IfSome known (λ all. first ≡ take 512 all) → n % 512 ≡ 0 → (n ≡ 0 → ⊥)
    → ((size : Size) → IsSuperblock size first → sectors_of size ≤ n / 512 → unseen e ≡ seen size)
    → IfSome known (IsLookedAt 1)
looks_at_first None n first e long reads whole some none = tt
looks_at_first (Some all) n first e long reads whole some none =
    let no : (size : Size) → IsDiskFile size all → ⊥ =
    λ size is. err_is_not e size (none size (rw reads is.superblock) (rw long is.room)) in
    let full : length all % 512 ≡ 0 = rw (← long) whole in
    let room : 512 ≤ length all = at_least n (length all) long whole some in
    (full, inr (inr (refl, room, no)))

pub is_broken : (known : Option (List ℕ)) (n : ℕ) → IfSome known (λ all. n ≡ length all) → n % 512 ≢ 0
    → IfSome known (λ all. length all % 512 ≢ 0)
is_broken None n long broken = tt
is_broken (Some all) n long broken = rw (← long) broken

pub is_seen : (known : Option (List ℕ)) (n : ℕ) (disk : Facts) → IfSome known (IsLookedAt n)
    → IfSome known (λ all. IsFresh (first_sectors n all) disk)
    → IfSome known (λ all. (m : ℕ) × IsLookedAt m all × IsFresh (first_sectors m all) disk)
is_seen None n disk looked fresh = tt
is_seen (Some all) n disk looked fresh = (n, looked, fresh)
