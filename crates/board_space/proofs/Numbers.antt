-- Records by their numbers, and rows that grow.
use Rattle.std.proofs.Common.{ℕ, zero, suc, List, [], ◌∷◌, ◌++◌, ◌≡◌, ◌+◌, ◌<◌, length, sym, ap, subst, ◌∙◌, inl, inr, arith, length-append}
use Rattle.std.{specs.Prelude.{get_or, slice_index}, proofs.{lemmas.{Bool.cases_lt, List.get_or_append_left}, Math.Seq.get_or-append_seam}}
use Rattle.hart.specs.State.{ArchState, never_started}
use Rattle.machine.{specs.Machine.stopped_harts, proofs.Opening.long}
use Rattle.state_space.specs.{Numbered.{word_count, words_of}, declared.interner.Interner.Interner}
use Rattle.board_space.specs.{Layouts.tracked_of, Records.{IsAt, Stays}, Rows.{AreHarts, Extends, Grows, Hold}, Tracked.segment}
use Rattle.board_space.specs.declared.row_layout.Layout.{Layout}

pub at_same : {T : Type 0} (xs : List T) (n : ℕ) (x y : T) → IsAt xs n x → x ≡ y → IsAt xs n y
at_same {T} xs n x y a e = subst (λ (z : T). IsAt xs n z) e a

pub at_last : {T : Type 0} (xs : List T) (x : T) → IsAt (xs ++ x ∷ []) (length xs) x
at_last xs x = (omega (arith, length-append xs (x ∷ [])), sym (get_or-append_seam xs x [] x))

-- ---- harts that never ran
pub stopped_at : (n h : ℕ) (d : ArchState) → h < n → get_or (stopped_harts n) h d ≡ never_started h
stopped_at zero h d lt = absurd (omega arith)
stopped_at (suc n) h d lt =
    elim (cases_lt h n) [
      | inl below ↦ get_or_append_left (stopped_harts n) (never_started n ∷ []) d h (omega (arith, below, long n)) ∙ stopped_at n h d below
      | inr from ↦ (
          let e : n ≡ h = omega arith in
          let at : length (stopped_harts n) ≡ h = long n ∙ e in
          ap (λ (k : ℕ). get_or (stopped_harts n ++ never_started n ∷ []) k d) (sym at) ∙ (get_or-append_seam (stopped_harts n) (never_started n) [] d ∙ ap never_started e))
    ]

-- ---- rows
pub extends_more : (old row : List ℕ) (n x : ℕ) → Extends old row n → Extends old (row ++ x ∷ []) (n + 1)
extends_more old row n x e = record {
  long = omega (arith, e.long, length-append row (x ∷ []));
  same = λ i within. get_or_append_left row (x ∷ []) 0 i (omega (arith, e.long, within)) ∙ e.same i within;
}

-- the number that was added
pub added_at : (old row : List ℕ) (n x : ℕ) → Extends old row n → slice_index (row ++ x ∷ []) (length old + n) ≡ x
added_at old row n x e =
    ap (λ (i : ℕ). slice_index (row ++ x ∷ []) i) (sym e.long) ∙ get_or-append_seam row x [] 0

-- and those before it
pub before_at : (old row : List ℕ) (n x i : ℕ) → Extends old row n → i < n → slice_index (row ++ x ∷ []) (length old + i) ≡ slice_index row (length old + i)
before_at old row n x i e low = get_or_append_left row (x ∷ []) 0 (length old + i) (omega (arith, e.long, low))

-- ---- the harts and the segments of a row
pub harts_more : (records now : List ArchState) (old row : List ℕ) (n x : ℕ) (harts : List ArchState) → Extends old row n → AreHarts records row (length old) n harts → Stays records now → IsAt now x (get_or harts n (never_started n)) → AreHarts now (row ++ x ∷ []) (length old) (n + 1) harts
harts_more records now old row n x harts e are stays at h low =
    elim (cases_lt h n) [
      | inl below ↦ subst (λ (k : ℕ). IsAt now k (get_or harts h (never_started h))) (sym (before_at old row n x h e below)) (stays (slice_index row (length old + h)) (get_or harts h (never_started h)) (are h below))
      | inr from ↦ (
          let same : n ≡ h = omega arith in
          subst (λ (i : ℕ). IsAt now (slice_index (row ++ x ∷ []) (length old + i)) (get_or harts i (never_started i))) same
          (subst (λ (k : ℕ). IsAt now k (get_or harts n (never_started n))) (sym (added_at old row n x e)) at))
    ]

-- the first segments of a memory are told
abbrev pub AreFirst : Layout → Interner → List ℕ → ℕ → List ℕ → ℕ → Type 0
AreFirst layout words row from memory count = (s : ℕ) → s < count
    → (slice_index row (from + s) < word_count words) × Hold memory (segment (tracked_of layout) s) (words_of words (slice_index row (from + s)))

pub segments_more : (layout : Layout) (words now : Interner) (old row : List ℕ) (n x : ℕ) (memory : List ℕ) → Extends old row n → AreFirst layout words row (length old) memory n → Grows words now → x < word_count now → Hold memory (segment (tracked_of layout) n) (words_of now x) → AreFirst layout now (row ++ x ∷ []) (length old) memory (n + 1)
segments_more layout words now old row n x memory e are grows within hold s low =
    let P : ℕ → ℕ → Type 0 = λ i k. (k < word_count now) × Hold memory (segment (tracked_of layout) i) (words_of now k) in
    elim (cases_lt s n) [
      | inl below ↦ (
          let a = are s below in
          let g = grows (slice_index row (length old + s)) a.0 in
          subst (λ (k : ℕ). P s k) (sym (before_at old row n x s e below)) (g.0, subst (λ (v : List ℕ). Hold memory (segment (tracked_of layout) s) v) (sym g.1) a.1))
      | inr from ↦ (
          let same : n ≡ s = omega arith in
          subst (λ (i : ℕ). P i (slice_index (row ++ x ∷ []) (length old + i))) same
          (subst (λ (k : ℕ). P n k) (sym (added_at old row n x e)) (within, hold)))
    ]

pub grows_both : (old mid new : Interner) → Grows old mid → Grows mid new → Grows old new
grows_both old mid new a b k low =
    let x = a k low in
    let y = b k x.0 in
    (y.0, y.1 ∙ x.1)
