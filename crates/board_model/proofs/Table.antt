-- What the table of commands looks at, and what it refuses by.
use Rattle.std.proofs.Common.{◌≡◌, ◌∙◌, ℕ, ◌^◌, ◌-◌, ◌≤◌, ◌==◌, ◌||◌, Bool, true, false, Option, Some, None, is_some, nat_lt, if◌then◌else◌, refl, sym, ap, arith}
use Rattle.std.{specs.Prelude.IfSome, proofs.lemmas.Bool.Decides.nat_tests}
use Rattle.board_model.specs.Durable.{DurableState, Image, Change, Slot, Reset, Suspend, Consume, Discard, Tries, Good, Attempt, after, refusal_of, fallback_by, is_table_number, HasValidNumbers}
use Rattle.board_model.specs.{Views.{durable_of, head_of}, declared.durable.{Durable.Durable, ImageHead.ImageHead, Trial.Trial}}
use Rattle.board_model.proofs.{Attempts.attempt_valid, Steps.{ByImage, Made, Dropped, Left, by_image}}

-- ---- all but the memory of the image
there : (i : Option Image) → is_some (head_of i) ≡ is_some i
there None = refl
there (Some i) = refl

stands_as : (x y : Option Image) → head_of x ≡ head_of y → is_some x ≡ is_some y
stands_as x y same = sym (there x) ∙ ap (λ (h : Option ImageHead). is_some h) same ∙ there y

refused_apart : (s : DurableState) (x y : Option Image) (c : Change) → head_of x ≡ head_of y → refusal_of (record s { image = x }) c ≡ refusal_of (record s { image = y }) c
refused_apart s x y Consume same = ap (λ (b : Bool). if b then None else Some 8) (stands_as x y same)
refused_apart s x y Discard same = ap (λ (b : Bool). if b then None else Some 8) (stands_as x y same)
refused_apart s x y c same = refl

after_apart : (s : DurableState) (x y : Option Image) (c : Change) → ByImage c → head_of x ≡ head_of y → durable_of (after (record s { image = x }) c) ≡ durable_of (after (record s { image = y }) c)
after_apart s x y c (Made hart address opaque memory) same = refl
after_apart s x y c (Dropped step drops) same = ap durable_of (drops (record s { image = x }) ∙ sym (drops (record s { image = y })))
after_apart s x y c (Left leaves) same =
    ap durable_of (leaves.apart s x)
    ∙ ap (λ (h : Option ImageHead). record (durable_of (after s c)) { image = h }) same
    ∙ sym (ap durable_of (leaves.apart s y))

-- a state with the memory of another is that state with another image
with_image : (s t : DurableState) → durable_of s ≡ durable_of t → t ≡ record s { image = t.image }
with_image s t same = ap (λ (d : Durable). record t { slot = d.slot; reason = d.reason; next = d.next; trial = d.trial }) (sym same)

heads : (s t : DurableState) → durable_of s ≡ durable_of t → head_of s.image ≡ head_of t.image
heads s t same = ap (λ (d : Durable). d.image) same

pub same_refusal : (s t : DurableState) (c : Change) → durable_of s ≡ durable_of t → refusal_of s c ≡ refusal_of t c
same_refusal s t c same = refused_apart s s.image t.image c (heads s t same) ∙ ap (λ (x : DurableState). refusal_of x c) (sym (with_image s t same))

pub same_after : (s t : DurableState) (c : Change) → durable_of s ≡ durable_of t → durable_of (after s c) ≡ durable_of (after t c)
same_after s t c same = after_apart s s.image t.image c (by_image c) (heads s t same) ∙ ap (λ (x : DurableState). durable_of (after x c)) (sym (with_image s t same))

-- ---- the numbers of its refusals
some_if : (b : Bool) (m n : ℕ) → is_table_number m ≡ true → (if b then Some m else None) ≡ Some n → is_table_number n ≡ true
some_if true m n of_table is = let same : m ≡ n = cc in ap is_table_number (sym same) ∙ of_table
some_if false m n of_table is = cc

unless : (b : Bool) (m n : ℕ) → is_table_number m ≡ true → (if b then None else Some m) ≡ Some n → is_table_number n ≡ true
unless true m n of_table is = cc
unless false m n of_table is = let same : m ≡ n = cc in ap is_table_number (sym same) ∙ of_table

either : (a b : Bool) (n : ℕ) → (if a then Some 9 else (if b then Some 19 else None)) ≡ Some n → is_table_number n ≡ true
either true b n is = some_if true 9 n refl is
either false b n is = some_if b 19 n refl is

pub of_table : (s : DurableState) (c : Change) (n : ℕ) → refusal_of s c ≡ Some n → is_table_number n ≡ true
of_table s (Slot k) n is = some_if (nat_lt 3 k) 9 n refl is
of_table s (Reset r) n is = cc
of_table s (Suspend hart address opaque memory) n is = some_if (s.next == 2 ^ 64 - 1) 12 n refl is
of_table s Consume n is = unless (is_some s.image) 8 n refl is
of_table s Discard n is = unless (is_some s.image) 8 n refl is
of_table s (Tries k boots) n is = either (nat_lt 3 k) ((boots == 0) || nat_lt 7 boots) n is
of_table s Good n is = unless (is_some s.trial) 20 n refl is
of_table s Attempt n is = unless (is_some s.trial) 20 n refl is

-- ---- the numbers of a state
slot_fits : (n : ℕ) → ◌≡◌ {A = Option ℕ} (if nat_lt 3 n then Some 9 else None) None → n ≤ 3
slot_fits n is = by_test (nat_lt 3 n) refl is
  where
    by_test : (b : Bool) → nat_lt 3 n ≡ b → ◌≡◌ {A = Option ℕ} (if b then Some 9 else None) None → n ≤ 3
    by_test true test is = cc
    by_test false test is = grind (arith, nat_tests)

trial_fits : (n boots : ℕ) → ◌≡◌ {A = Option ℕ} (if nat_lt 3 n then Some 9 else (if (boots == 0) || nat_lt 7 boots then Some 19 else None)) None
    → (n ≤ 3) × (boots ≤ 7)
trial_fits n boots is = by_tests (nat_lt 3 n) ((boots == 0) || nat_lt 7 boots) refl refl is
  where
    by_tests : (a b : Bool) → nat_lt 3 n ≡ a → ((boots == 0) || nat_lt 7 boots) ≡ b → ◌≡◌ {A = Option ℕ} (if a then Some 9 else (if b then Some 19 else None)) None
        → (n ≤ 3) × (boots ≤ 7)
    by_tests true b few some is = cc
    by_tests false true few some is = cc
    by_tests false false few some is = (grind (arith, nat_tests), grind (arith, nat_tests))

fallback_fits : (slot : ℕ) (t : Option Trial) → slot ≤ 3 → IfSome t (λ t. (t.fallback ≤ 3) × (t.left ≤ 7)) → fallback_by slot t ≤ 3
fallback_fits slot None slot_few trial = slot_few
fallback_fits slot (Some t) slot_few trial = trial.0

pub stays_valid : (s : DurableState) (c : Change) → HasValidNumbers s → refusal_of s c ≡ None → HasValidNumbers (after s c)
stays_valid s (Slot n) valid goes = (slot_fits n goes, tt)
stays_valid s (Tries n boots) valid goes =
    let fits = trial_fits n boots goes in
    (fits.0, (fallback_fits s.slot s.trial valid.0 valid.1, fits.1))
stays_valid s Good valid goes = (valid.0, tt)
stays_valid s Attempt valid goes = attempt_valid s s.trial valid.0 refl valid.1
stays_valid s c valid goes = valid
