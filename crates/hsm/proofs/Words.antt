-- What a step on a word leaves of the bits and of the argument words.
use Rattle.std.proofs.Common.{◌≡◌, ◌≢◌, ℕ, ◌+◌, ◌*◌, ◌%◌, ◌^◌, ◌<◌, ◌≤◌, min, List, length, sym, ap, ◌∙◌, arith, w64, get_or-set_same, get_or-set_other}
use Rattle.std.specs.{Prelude.{slice_index, slice_set, bit_or, bit_and}, Int.{bit_at, bit_not}}
use Rattle.std.proofs.lemmas.Nat.Bits.{bit_at_set_same, bit_at_set_other, bit_at_clear_same, bit_at_clear_other, bit_at-lt, bit_at-zero, bit_at_or, bit_at_and, bit_at_not}
use mathlib.Core.Logic.{dite}
use native.Mathlib.Decide.{ℕ_discrete}
use Rattle.hsm.specs.Words.{WordBits, word_bits, Same}

abbrev pub mask : ℕ → ℕ
mask i = 1 * 2 ^ i % 2 ^ 64

pub set_back : (ws : List ℕ) (i j : ℕ) → i < length ws → slice_index (slice_set ws i (slice_index ws i)) j ≡ slice_index ws j
set_back ws i j short =
    dite (ℕ_discrete j i)
    (λ same. rw same (get_or-set_same ws i (slice_index ws i) 0 short))
    (λ other. get_or-set_other ws i j (slice_index ws i) 0 other)

-- a load
pub same_after_load : (harts : ℕ) (ws : List ℕ) (i : ℕ) → i < length ws → Same harts (word_bits ws) (word_bits (slice_set ws i (slice_index ws i)))
same_after_load harts ws i short = record {
  claimed = λ h lt. ap (λ (k : ℕ). bit_at k h) (set_back ws i 0 short);
  armed = λ h lt. ap (λ (k : ℕ). bit_at k (8 + h)) (set_back ws i 0 short);
  entered = λ h lt. ap (λ (k : ℕ). bit_at k (16 + h)) (set_back ws i 0 short);
  suspended = λ h lt. ap (λ (k : ℕ). bit_at k (24 + h)) (set_back ws i 0 short);
  address = λ h lt. set_back ws i (1 + 2 * h) short;
  opaque = λ h lt. set_back ws i (2 + 2 * h) short;
}

-- word 0 changes
module _ (ws : List ℕ) (short : 0 < length ws) (n : ℕ) where
  pub bit_after : (i : ℕ) → bit_at (slice_index (slice_set ws 0 n) 0) i ≡ bit_at n i
  bit_after i = ap (λ (k : ℕ). bit_at k i) (get_or-set_same ws 0 n 0 short)

  pub arg_after : (j : ℕ) → 0 < j → slice_index (slice_set ws 0 n) j ≡ slice_index ws j
  arg_after j pos = get_or-set_other ws 0 j n 0 (λ e. omega arith)

-- ---- what a step leaves as it was
-- of any hart, and of any but one
abbrev pub Any : ℕ → Type 0
Any k = Unit {0}

abbrev pub But : ℕ → ℕ → Type 0
But t k = k ≢ t

-- each of the six things that the words say of a hart, of the harts that are named for it
pub record Leaves (harts : ℕ) (cl ar en su ad op : ℕ → Type 0) (m m' : WordBits) : Type 0 where
  pub claimed : (k : ℕ) → k < harts → cl k → m'.claimed k ≡ m.claimed k
  pub armed : (k : ℕ) → k < harts → ar k → m'.armed k ≡ m.armed k
  pub entered : (k : ℕ) → k < harts → en k → m'.entered k ≡ m.entered k
  pub suspended : (k : ℕ) → k < harts → su k → m'.suspended k ≡ m.suspended k
  pub address : (k : ℕ) → k < harts → ad k → m'.address k ≡ m.address k
  pub opaque : (k : ℕ) → k < harts → op k → m'.opaque k ≡ m.opaque k

module _ (harts : ℕ) (ws : List ℕ) (n : ℕ) where
  -- word 0 changes, and the bits that are away from the change stay
  pub leaves_bits : (cl ar en su Away : ℕ → Type 0) → 0 < length ws → harts ≤ 8 → ((i : ℕ) → i < 64 → Away i → bit_at (slice_index (slice_set ws 0 n) 0) i ≡ bit_at (slice_index ws 0) i)
      → ((k : ℕ) → k < harts → cl k → Away k) → ((k : ℕ) → k < harts → ar k → Away (8 + k)) → ((k : ℕ) → k < harts → en k → Away (16 + k)) → ((k : ℕ) → k < harts → su k → Away (24 + k))
      → Leaves harts cl ar en su Any Any (word_bits ws) (word_bits (slice_set ws 0 n))
  leaves_bits cl ar en su Away short small same c a e s = record {
    claimed = λ k lt z. same k (omega arith) (c k lt z);
    armed = λ k lt z. same (8 + k) (omega arith) (a k lt z);
    entered = λ k lt z. same (16 + k) (omega arith) (e k lt z);
    suspended = λ k lt z. same (24 + k) (omega arith) (s k lt z);
    address = λ k lt z. arg_after ws short n (1 + 2 * k) (omega arith);
    opaque = λ k lt z. arg_after ws short n (2 + 2 * k) (omega arith);
  }

  -- an argument word of the hart t changes
  pub leaves_arguments : (t i : ℕ) → 0 < i → ((k : ℕ) → k ≢ t → 1 + 2 * k ≢ i) → ((k : ℕ) → k ≢ t → 2 + 2 * k ≢ i)
      → Leaves harts Any Any Any Any (But t) (But t) (word_bits ws) (word_bits (slice_set ws i n))
  leaves_arguments t i pos a o =
      let same : (j : ℕ) → j ≢ i → slice_index (slice_set ws i n) j ≡ slice_index ws j = λ j ne. get_or-set_other ws i j n 0 ne in
      let bits : (j : ℕ) → bit_at (slice_index (slice_set ws i n) 0) j ≡ bit_at (slice_index ws 0) j = λ j. ap (λ (k : ℕ). bit_at k j) (same 0 (λ e. omega arith)) in
      record {
        claimed = λ k lt z. bits k;
        armed = λ k lt z. bits (8 + k);
        entered = λ k lt z. bits (16 + k);
        suspended = λ k lt z. bits (24 + k);
        address = λ k lt z. same (1 + 2 * k) (a k z);
        opaque = λ k lt z. same (2 + 2 * k) (o k z);
      }

module _ (ws : List ℕ) (short : 0 < length ws) (i : ℕ) (small : i < 64) where
  pub set_here : bit_at (slice_index (slice_set ws 0 (bit_or (slice_index ws 0) (mask i))) 0) i ≡ 1
  set_here = bit_after ws short (bit_or (slice_index ws 0) (mask i)) i ∙ bit_at_set_same w64 (slice_index ws 0) i small

  pub set_else : (j : ℕ) → j ≢ i → bit_at (slice_index (slice_set ws 0 (bit_or (slice_index ws 0) (mask i))) 0) j ≡ bit_at (slice_index ws 0) j
  set_else j ne = bit_after ws short (bit_or (slice_index ws 0) (mask i)) j ∙ bit_at_set_other w64 (slice_index ws 0) i small j ne

  pub clear_here : bit_at (slice_index (slice_set ws 0 (bit_and (slice_index ws 0) (bit_not w64 (mask i)))) 0) i ≡ 0
  clear_here = bit_after ws short (bit_and (slice_index ws 0) (bit_not w64 (mask i))) i ∙ bit_at_clear_same w64 (slice_index ws 0) i small

  pub clear_else : (j : ℕ) → j < 64 → j ≢ i → bit_at (slice_index (slice_set ws 0 (bit_and (slice_index ws 0) (bit_not w64 (mask i)))) 0) j ≡ bit_at (slice_index ws 0) j
  clear_else j below ne = bit_after ws short (bit_and (slice_index ws 0) (bit_not w64 (mask i))) j ∙ bit_at_clear_other w64 (slice_index ws 0) i small j below ne

  -- a bit that was set
  pub set_again : bit_at (slice_index ws 0) i ≡ 1 → (j : ℕ) → bit_at (slice_index (slice_set ws 0 (bit_or (slice_index ws 0) (mask i))) 0) j ≡ bit_at (slice_index ws 0) j
  set_again was j = dite (ℕ_discrete j i)
      (λ is. ap (bit_at (slice_index (slice_set ws 0 (bit_or (slice_index ws 0) (mask i))) 0)) is ∙ (set_here ∙ (sym was ∙ ap (bit_at (slice_index ws 0)) (sym is))))
      (λ ne. set_else j ne)

-- the four bits of a hart are cleared
abbrev pub kept_bits : ℕ → ℕ
kept_bits h = bit_and (bit_and (bit_and (bit_not w64 (mask h)) (bit_not w64 (mask (8 + h)))) (bit_not w64 (mask (16 + h)))) (bit_not w64 (mask (24 + h)))

pub mask_here : (k : ℕ) → k < 64 → bit_at (mask k) k ≡ 1
mask_here k small = let a = bit_at_set_same w64 0 k small in let b = bit_at_or 0 (mask k) k in let z = bit_at-zero k in omega arith

pub mask_else : (k i : ℕ) → k < 64 → i ≢ k → bit_at (mask k) i ≡ 0
mask_else k i small ne = let a = bit_at_set_other w64 0 k small i ne in let b = bit_at_or 0 (mask k) i in let z = bit_at-zero i in omega arith

mask_below : (k : ℕ) → mask k < 2 ^ 64
mask_below k = omega arith

not_here : (k : ℕ) → k < 64 → bit_at (bit_not w64 (mask k)) k ≡ 0
not_here k small = let a = bit_at_not w64 (mask k) k (mask_below k) small in let b = mask_here k small in omega arith

not_else : (k i : ℕ) → k < 64 → i < 64 → i ≢ k → bit_at (bit_not w64 (mask k)) i ≡ 1
not_else k i small below ne = let a = bit_at_not w64 (mask k) i (mask_below k) below in let b = mask_else k i small ne in omega arith

kept_is : (h i : ℕ) → bit_at (kept_bits h) i ≡ min (min (min (bit_at (bit_not w64 (mask h)) i) (bit_at (bit_not w64 (mask (8 + h))) i)) (bit_at (bit_not w64 (mask (16 + h))) i)) (bit_at (bit_not w64 (mask (24 + h))) i)
kept_is h i =
    let A = bit_not w64 (mask h) in let B = bit_not w64 (mask (8 + h)) in let C = bit_not w64 (mask (16 + h)) in let D = bit_not w64 (mask (24 + h)) in
    bit_at_and (bit_and (bit_and A B) C) D i
    ∙ ap (λ (x : ℕ). min x (bit_at D i)) (bit_at_and (bit_and A B) C i ∙ ap (λ (x : ℕ). min x (bit_at C i)) (bit_at_and A B i))

module _ (ws : List ℕ) (short : 0 < length ws) (h : ℕ) (small : h < 8) where
  gone : (i : ℕ) → bit_at (kept_bits h) i ≡ 0 → bit_at (slice_index (slice_set ws 0 (bit_and (slice_index ws 0) (kept_bits h))) 0) i ≡ 0
  gone i z =
      let a = bit_after ws short (bit_and (slice_index ws 0) (kept_bits h)) i in
      let b = bit_at_and (slice_index ws 0) (kept_bits h) i in
      omega arith

  pub stop_claimed : bit_at (slice_index (slice_set ws 0 (bit_and (slice_index ws 0) (kept_bits h))) 0) h ≡ 0
  stop_claimed = gone h (let k = kept_is h h in let z = not_here h (omega arith) in omega arith)

  pub stop_armed : bit_at (slice_index (slice_set ws 0 (bit_and (slice_index ws 0) (kept_bits h))) 0) (8 + h) ≡ 0
  stop_armed = gone (8 + h) (let k = kept_is h (8 + h) in let z = not_here (8 + h) (omega arith) in omega arith)

  pub stop_entered : bit_at (slice_index (slice_set ws 0 (bit_and (slice_index ws 0) (kept_bits h))) 0) (16 + h) ≡ 0
  stop_entered = gone (16 + h) (let k = kept_is h (16 + h) in let z = not_here (16 + h) (omega arith) in omega arith)

  pub stop_suspended : bit_at (slice_index (slice_set ws 0 (bit_and (slice_index ws 0) (kept_bits h))) 0) (24 + h) ≡ 0
  stop_suspended = gone (24 + h) (let k = kept_is h (24 + h) in let z = not_here (24 + h) (omega arith) in omega arith)

  pub stop_else : (i : ℕ) → i < 64 → i ≢ h → i ≢ 8 + h → i ≢ 16 + h → i ≢ 24 + h → bit_at (slice_index (slice_set ws 0 (bit_and (slice_index ws 0) (kept_bits h))) 0) i ≡ bit_at (slice_index ws 0) i
  stop_else i below n0 n1 n2 n3 =
      let a = bit_after ws short (bit_and (slice_index ws 0) (kept_bits h)) i in
      let b = bit_at_and (slice_index ws 0) (kept_bits h) i in
      let k = kept_is h i in
      let p = not_else h i (omega arith) below n0 in
      let q = not_else (8 + h) i (omega arith) below n1 in
      let r = not_else (16 + h) i (omega arith) below n2 in
      let s = not_else (24 + h) i (omega arith) below n3 in
      let l = bit_at-lt (slice_index ws 0) i in
      omega arith
