-- A row's segments stand for one memory.
use Rattle.std.proofs.Common.{ℕ, zero, suc, List, ◌≡◌, ◌+◌, ◌*◌, ◌/◌, ◌<◌, ◌≤◌, length, sym, ap, ◌∙◌, inl, inr, arith}
use Rattle.std.specs.Prelude.{slice_index}
use Rattle.std.proofs.lemmas.Bool.{cases_lt, cases_eq}
use Rattle.std.proofs.lemmas.List.{ext_get_or}
use Rattle.ram.specs.Memory.{value, AreBytes}
use Rattle.state_space.specs.declared.interner.Interner.{Interner}
use Rattle.board_space.specs.Layouts.{tracked_of}
use Rattle.board_space.specs.Tracked.{IsTracked, segment}
use Rattle.board_space.specs.Rows.{IsMemory}
use Rattle.board_space.specs.declared.row_layout.Layout.{Layout}

pub are_bytes : (m : List ℕ) (o n : ℕ) → ((i : ℕ) → i < length m → slice_index m i < 256) → o + n ≤ length m → AreBytes m o n
are_bytes m o zero bytes le = tt
are_bytes m o (suc n) bytes le = (bytes o (omega arith), are_bytes m (o + 1) n bytes (omega arith))

-- equal numbers have equal bytes
pub same_bytes : (m l : List ℕ) (o n : ℕ) → AreBytes m o n → AreBytes l o n → value m o n ≡ value l o n → (k : ℕ) → o ≤ k → k < o + n → slice_index m k ≡ slice_index l k
same_bytes m l o zero bm bl e k low high = absurd (omega arith)
same_bytes m l o (suc n) bm bl e k low high =
    let here : slice_index m o ≡ slice_index l o = omega (arith, e, bm.0, bl.0) in
    let rest : value m (o + 1) n ≡ value l (o + 1) n = omega (arith, e, bm.0, bl.0) in
    elim (cases_lt o k) [
      | inl above ↦ same_bytes m l (o + 1) n bm.1 bl.1 rest k (omega arith) (omega arith)
      | inr below ↦ let at : k ≡ o = omega arith in rw at here
    ]

module _ (layout : Layout) (words : Interner) (row m l : List ℕ) (a : IsMemory layout words row m) (b : IsMemory layout words row l)
    (within : (i : ℕ) → i < length m → IsTracked (tracked_of layout) (i / 8) → 8 * (i / 8) + 8 ≤ length m) where
  long : length l ≡ length m
  long = b.based.long ∙ sym a.based.long

  -- a byte of a word that is told
  same_told : (i : ℕ) → i < length m → IsTracked (tracked_of layout) (i / 8) → slice_index m i ≡ slice_index l i
  same_told i low t =
      let x = a.segments t.number t.known in
      let y = b.segments t.number t.known in
      let from : ℕ = 8 * slice_index (segment (tracked_of layout) t.number) t.place in
      let at : from ≡ 8 * (i / 8) = ap (λ (w : ℕ). 8 * w) t.is in
      let e : value m from 8 ≡ value l from 8 = sym (x.1.each t.place t.within) ∙ y.1.each t.place t.within in
      let room : from + 8 ≤ length m = omega (arith, at, within i low t) in
      let there : from + 8 ≤ length l = omega (arith, room, long) in
      same_bytes m l from 8 (are_bytes m from 8 a.bytes room) (are_bytes l from 8 b.bytes there) e i (omega (arith, at)) (omega (arith, at))

  same_byte : (i : ℕ) → i < length m → slice_index m i ≡ slice_index l i
  same_byte i low =
      elim (cases_eq (slice_index m i) (slice_index l i)) [
        | inl e ↦ e
        | inr other ↦ (
            let none : IsTracked (tracked_of layout) (i / 8) → ⊥ = λ t. other (same_told i low t) in
            a.based.same i low none ∙ sym (b.based.same i (omega (arith, low, long)) none))
      ]

  pub one_memory : m ≡ l
  one_memory = ext_get_or 0 m l (sym long) (λ i low. same_byte i low)
