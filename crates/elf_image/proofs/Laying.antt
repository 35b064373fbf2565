-- The memory after one segment more.
use Rattle.std.proofs.Common.{◌≡◌, ◌∙◌, ℕ, ◌+◌, ◌-◌, ◌<◌, ◌≤◌, List, ◌++◌, length, replicate, drop, ap, arith, inl, inr, subst}
use Rattle.std.{specs.Prelude.{◌⊎◌, slice_index}, proofs.lemmas.{Grind.common_steps, List.{get_or-take, get_or_past, get_or-drop}}}
use Rattle.std.proofs.lemmas.Bool.{cases_lt}
use Rattle.elf_image.specs.{Fields.{IsPart, part_of}, Program.{AreLaidOut, IsInFile, Loads, segment_at, start_of}}
use Rattle.elf_image.specs.{Loading.{IsFileByte, IsLoadedTo}, declared.program.Segment.Segment}

module _ (memory part : List ℕ) (start : ℕ) (room : length memory ≤ start) where
  abbrev more : List ℕ
  more = memory ++ replicate (start - length memory) 0 ++ part

  pub more-before : (place : ℕ) → place < length memory → slice_index more place ≡ slice_index memory place
  more-before place inside = grind (arith, common_steps)

  pub more-between : (place : ℕ) → length memory ≤ place → place < start → slice_index more place ≡ 0
  more-between place from to = grind (arith, common_steps)

  pub more-part : (i : ℕ) → slice_index more (start + i) ≡ slice_index part i
  more-part i = grind (arith, common_steps)

  pub more-length : length more ≡ start + length part
  more-length = grind (arith, common_steps)

-- The memory of the first k segments, and after it segment k's bytes at their place: the memory of one segment more.
module _ (bytes : List ℕ) (k : ℕ) (memory more : List ℕ) (loads : Loads bytes k) (room : length memory ≤ start_of (segment_at bytes k))
    (inside : IsPart (segment_at bytes k).offset (segment_at bytes k).file_bytes bytes) (has : 0 < (segment_at bytes k).file_bytes)
    (before : IsLoadedTo bytes k memory)
    (is : more ≡ memory ++ replicate (start_of (segment_at bytes k) - length memory) 0 ++ part_of (segment_at bytes k).offset (segment_at bytes k).file_bytes bytes) where
  abbrev s : Segment
  s = segment_at bytes k

  before_start : (place : ℕ) → place < length memory → slice_index more place ≡ slice_index memory place
  before_start place lt = ap (λ (l : List ℕ). slice_index l place) is ∙ more-before memory (part_of s.offset s.file_bytes bytes) (start_of s) room place lt

  long : length more ≡ start_of s + s.file_bytes
  long =
      ap length is ∙ more-length memory (part_of s.offset s.file_bytes bytes) (start_of s) room
      ∙ ap (λ (n : ℕ). start_of s + n) (grind (arith, common_steps))

  own : (i : ℕ) → i < s.file_bytes → slice_index more (start_of s + i) ≡ slice_index bytes (s.offset + i)
  own i lt =
      ap (λ (l : List ℕ). slice_index l (start_of s + i)) is ∙ more-part memory (part_of s.offset s.file_bytes bytes) (start_of s) room i
      ∙ get_or-take s.file_bytes (drop s.offset bytes) i 0 lt ∙ get_or-drop s.offset bytes i 0

  file_of : (j i : ℕ) → (j < k) ⊎ (k ≤ j) → j < k + 1 → Loads bytes j → i < (segment_at bytes j).file_bytes
      → slice_index more (start_of (segment_at bytes j) + i) ≡ slice_index bytes ((segment_at bytes j).offset + i)
  file_of j i (inl lt) below l small =
      before_start _ (before.reaches j _ lt (record { loads = l; from = omega arith; to = omega arith })) ∙ before.file j i lt l small
  file_of j i (inr ge) below l small =
      let same : k ≡ j = omega arith in
      let P : ℕ → Type 0 = λ n. i < (segment_at bytes n).file_bytes → slice_index more (start_of (segment_at bytes n) + i) ≡ slice_index bytes ((segment_at bytes n).offset + i) in
      subst P same (own i) small

  zero_at : (place : ℕ) → (place < length memory) ⊎ (length memory ≤ place) → (place < start_of s) ⊎ (start_of s ≤ place)
      → (place < start_of s + s.file_bytes) ⊎ (start_of s + s.file_bytes ≤ place)
      → ((j : ℕ) → j < k + 1 → IsFileByte bytes j place → ⊥) → slice_index more place ≡ 0
  zero_at place (inl lt) _ _ none = before_start place lt ∙ before.zero place (λ j below byte. none j (omega arith) byte)
  zero_at place (inr ge) (inl lt) _ none =
      ap (λ (l : List ℕ). slice_index l place) is ∙ more-between memory (part_of s.offset s.file_bytes bytes) (start_of s) room place ge lt
  zero_at place (inr _) (inr ge) (inl lt) none = absurd (none k (omega arith) (record { loads = loads; from = ge; to = lt }))
  zero_at place (inr _) (inr _) (inr ge) none = get_or_past more place 0 (omega (arith, long))

  reach_of : (j place : ℕ) → (j < k) ⊎ (k ≤ j) → j < k + 1 → IsFileByte bytes j place → place < length more
  reach_of j place (inl lt) below byte = omega (arith, before.reaches j place lt byte, long, room)
  reach_of j place (inr ge) below byte =
      let same : j ≡ k = omega arith in
      let P : ℕ → Type 0 = λ n. place < start_of (segment_at bytes n) + (segment_at bytes n).file_bytes in
      omega (arith, subst P same byte.to, long)

  pub loaded_more : IsLoadedTo bytes (k + 1) more
  loaded_more = record {
    file = λ j i below l small. file_of j i (cases_lt j k) below l small;
    zero = λ place none. zero_at place (cases_lt place (length memory)) (cases_lt place (start_of s)) (cases_lt place (start_of s + s.file_bytes)) none;
    reaches = λ j place below byte. reach_of j place (cases_lt j k) below byte;
    ends = λ place last. (k, omega arith, record { loads = loads; from = omega (arith, long, last, has); to = omega (arith, long, last) });
  }

-- The first k segments end before segment k begins.
pub room_before : (bytes : List ℕ) (ram k : ℕ) (memory : List ℕ) → AreLaidOut bytes ram → ((j : ℕ) → Loads bytes j → IsInFile bytes (segment_at bytes j))
    → Loads bytes k → IsLoadedTo bytes k memory → length memory ≤ start_of (segment_at bytes k)
room_before bytes ram k memory laid inside loads before =
    elim (cases_lt 0 (length memory)) [
      | inl some ↦
          let last = before.ends (length memory - 1) (omega arith) in
          let j = last.0 in
          let l = last.2.loads in
          omega (arith, last.2.to, (inside j l).1, laid.ascend k loads j last.1 l, (laid.fit j l).0.0)
      | inr none ↦ omega arith
    ]

-- The memory is within the RAM.
pub within_ram : (bytes : List ℕ) (ram n : ℕ) (memory : List ℕ) → AreLaidOut bytes ram → ((j : ℕ) → Loads bytes j → IsInFile bytes (segment_at bytes j))
    → IsLoadedTo bytes n memory → length memory ≤ ram
within_ram bytes ram n memory laid inside loaded =
    elim (cases_lt 0 (length memory)) [
      | inl some ↦
          let last = loaded.ends (length memory - 1) (omega arith) in
          let l = last.2.loads in
          omega (arith, last.2.to, (inside last.0 l).1, (laid.fit last.0 l).0.0, (laid.fit last.0 l).0.1)
      | inr none ↦ omega arith
    ]

-- A segment without file bytes changes nothing.
pub loaded_same : (bytes : List ℕ) (k : ℕ) (memory : List ℕ) → (Loads bytes k → 0 < (segment_at bytes k).file_bytes → ⊥) → IsLoadedTo bytes k memory
    → IsLoadedTo bytes (k + 1) memory
loaded_same bytes k memory nothing before = record {
  file = λ j i below l small. before.file j i (under j below (λ same. nothing (at_k j same l) (some_at_k j i same small))) l small;
  zero = λ place none. before.zero place (λ j below byte. none j (omega arith) byte);
  reaches = λ j place below byte. before.reaches j place (under j below (λ same. nothing (at_k j same byte.loads) (byte_at_k j place same byte))) byte;
  ends = λ place last. let e = before.ends place last in (e.0, omega (arith, e.1), e.2);
} where
  under : (j : ℕ) → j < k + 1 → (j ≡ k → ⊥) → j < k
  under j below other = omega (arith, other)

  at_k : (j : ℕ) → j ≡ k → Loads bytes j → Loads bytes k
  at_k j same l = let P : ℕ → Type 0 = λ n. Loads bytes n in subst P same l

  some_at_k : (j i : ℕ) → j ≡ k → i < (segment_at bytes j).file_bytes → 0 < (segment_at bytes k).file_bytes
  some_at_k j i same small = let P : ℕ → Type 0 = λ n. i < (segment_at bytes n).file_bytes in omega (arith, subst P same small)

  byte_at_k : (j place : ℕ) → j ≡ k → IsFileByte bytes j place → 0 < (segment_at bytes k).file_bytes
  byte_at_k j place same byte =
      let P : ℕ → Type 0 = λ n. start_of (segment_at bytes n) < start_of (segment_at bytes n) + (segment_at bytes n).file_bytes in
      omega (arith, subst P same (omega (arith, byte.from, byte.to)))
