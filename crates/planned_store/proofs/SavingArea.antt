-- An area in which the pages stand in their order reads as their memory.
use Rattle.std.proofs.Common.{◌≡◌, ◌∙◌, inl, inr, true, false, Bool, zero, suc, ℕ, ◌+◌, ◌*◌, ◌-◌, ◌%◌, ◌<◌, ◌≤◌, ◌^◌, List, [], ◌∷◌, ◌++◌, length, slice_index, sum, replicate, set, take, drop, min, if◌then◌else◌, refl, sym, ap, subst, arith, append_assoc, mul_comm, length-take, length-drop}
use Rattle.std.{proofs.{Math.Nat.mod-lt, lemmas.{Nat.div-add-mod', Bool.{cases_lt, lt-ltb}, List.Sums.sum_by-cons}}, specs.List.flat_map}
use Rattle.std.proofs.lemmas.List.{drop-drop, drop_more, take-append-drop, get_or-replicate, get_or-set_other, get_or_past, length-replicate, take_all, take_more}
use Rattle.board_model.specs.Shapes.{Size, IsSize, ram_bytes_of, places_of, area_sectors_of}
use Rattle.disk.specs.Facts.{Content, sector}
use Rattle.layout.specs.{Places.IsPlaceHead, Records.{AreCounts, most_places}, Sizes.area_start, declared.places.PlaceHead.PlaceHead}
use Rattle.layout.proofs.SpelledPlaces.{page_in as page_of_head}
use Rattle.image.{specs.{Images.{area_of, places_in, memory_of}, Reading.{came, IsTaken}}, proofs.Heads.{area_sector, head_from}}
use Rattle.image.proofs.{Taking.{behind, taken_more, taken_none, taken_all}, Whole.more, Written.lanes_of}
use Rattle.planned_store.{specs.{Saves.{counts_by, counts_of}, SaveReached.PageStands}, proofs.Counting.{length-places_in, located}}

-- ---- the counts of lanes that are full one after another
pub places_enough : (size : Size) → 1 ≤ size.lanes → size.pages ≤ size.lanes * places_of size
places_enough size some =
    let n = size.pages + size.lanes - 1 in
    let whole = div-add-mod' n size.lanes in
    let small : n % size.lanes < size.lanes = mod-lt n some in
    let turned : places_of size * size.lanes ≡ size.lanes * places_of size = mul_comm (places_of size) size.lanes in
    omega (arith, whole, small, turned)

abbrev c0 : ℕ → ℕ → ℕ
c0 k n = min n k

abbrev c1 : ℕ → ℕ → ℕ
c1 k n = min (n - c0 k n) k

abbrev c2 : ℕ → ℕ → ℕ
c2 k n = min (n - c0 k n - c1 k n) k

abbrev c3 : ℕ → ℕ → ℕ
c3 k n = min (n - c0 k n - c1 k n - c2 k n) k

sum_counts : (k n : ℕ) → sum (counts_by k n) ≡ c0 k n + (c1 k n + (c2 k n + c3 k n))
sum_counts k n =
    sum_by-cons (λ y. y) (c0 k n) (c1 k n ∷ c2 k n ∷ c3 k n ∷ [])
    ∙ ap (λ (s : ℕ). c0 k n + s) (sum_by-cons (λ y. y) (c1 k n) (c2 k n ∷ c3 k n ∷ []) ∙ ap (λ (s : ℕ). c1 k n + s) (sum_by-cons (λ y. y) (c2 k n) (c3 k n ∷ []) ∙ ap (λ (s : ℕ). c2 k n + s) (sum_by-cons (λ y. y) (c3 k n) [] ∙ none (c3 k n))))
  where
    none : (x : ℕ) → x + sum [] ≡ x
    none x = omega arith

-- by how many lanes there are
by_lanes : (lanes k n : ℕ) → 1 ≤ lanes → lanes ≤ 4 → n ≤ lanes * k
    → (c0 k n + (c1 k n + (c2 k n + c3 k n)) ≡ n) × ((lanes ≤ 1 → c1 k n ≡ 0) × (lanes ≤ 2 → c2 k n ≡ 0) × (lanes ≤ 3 → c3 k n ≡ 0))
by_lanes zero k n some few enough = absurd (omega (arith, some))
by_lanes (suc zero) k n some few enough = (omega (arith, enough), (λ _. omega (arith, enough), λ _. omega (arith, enough), λ _. omega (arith, enough)))
by_lanes (suc (suc zero)) k n some few enough = (omega (arith, enough), (λ no. absurd (omega (arith, no)), λ _. omega (arith, enough), λ _. omega (arith, enough)))
by_lanes (suc (suc (suc zero))) k n some few enough = (omega (arith, enough), (λ no. absurd (omega (arith, no)), λ no. absurd (omega (arith, no)), λ _. omega (arith, enough)))
by_lanes (suc (suc (suc (suc zero)))) k n some few enough = (omega (arith, enough), (λ no. absurd (omega (arith, no)), λ no. absurd (omega (arith, no)), λ no. absurd (omega (arith, no))))
by_lanes (suc (suc (suc (suc (suc lanes))))) k n some few enough = absurd (omega (arith, few))

module _ (size : Size) (board : IsSize size) where
  abbrev k : ℕ
  k = places_of size

  abbrev n : ℕ
  n = size.pages

  abbrev counts : List ℕ
  counts = counts_of size

  lanes_so : (c0 k n + (c1 k n + (c2 k n + c3 k n)) ≡ n) × ((size.lanes ≤ 1 → c1 k n ≡ 0) × (size.lanes ≤ 2 → c2 k n ≡ 0) × (size.lanes ≤ 3 → c3 k n ≡ 0))
  lanes_so = by_lanes size.lanes k n (omega (arith, board)) (omega (arith, board)) (places_enough size (omega (arith, board)))

  -- at most as many as the lane has places, and none where the board lacks the lane
  at_most : (lane count : ℕ) → count ≤ k → (size.lanes ≤ lane → count ≡ 0) → count ≤ most_places size lane
  at_most lane count le none = elim (cases_lt lane size.lanes) [
    | inl lt ↦ let is : most_places size lane ≡ k = ap (λ (b : Bool). if b then k else 0) (lt-ltb lane size.lanes lt) in omega (arith, is, le)
    | inr past ↦ omega (arith, none past)
  ]

  pub are_counts : AreCounts size counts
  are_counts = record {
    four = refl;
    each = λ lane lt. by_lane lane lt;
    all = sum_counts k n ∙ lanes_so.0;
  }
    where
      by_lane : (lane : ℕ) → lane < 4 → slice_index counts lane ≤ most_places size lane
      by_lane zero lt = at_most 0 (c0 k n) (omega arith) (λ no. absurd (omega (arith, no, board)))
      by_lane (suc zero) lt = at_most 1 (c1 k n) (omega arith) lanes_so.1.0
      by_lane (suc (suc zero)) lt = at_most 2 (c2 k n) (omega arith) lanes_so.1.1
      by_lane (suc (suc (suc zero))) lt = at_most 3 (c3 k n) (omega arith) lanes_so.1.2
      by_lane (suc (suc (suc (suc lane)))) lt = absurd (omega (arith, lt))

  -- so page after page stands at place after place
  pub in_turn : (p : ℕ) → p < n → slice_index (places_in size 0 counts) p ≡ 9 * p
  in_turn p lt = elim (cases_lt p (c0 k n)) [
    | inl in0 ↦ located size counts 0 p p (omega arith) in0 (omega arith) ∙ omega arith
    | inr past0 ↦ elim (cases_lt p (c0 k n + c1 k n)) [
      | inl in1 ↦
          located size counts 1 (p - c0 k n) p (omega arith) (omega (arith, past0, in1)) (front1 ∙ omega (arith, past0))
          ∙ (let full : c0 k n ≡ k = omega (arith, past0, in1) in omega (arith, full, past0))
      | inr past1 ↦ elim (cases_lt p (c0 k n + c1 k n + c2 k n)) [
        | inl in2 ↦
            located size counts 2 (p - c0 k n - c1 k n) p (omega arith) (omega (arith, past1, in2)) (front2 ∙ omega (arith, past1))
            ∙ (let full : c0 k n ≡ k = omega (arith, past1, in2) in let next : c1 k n ≡ k = omega (arith, past1, in2) in omega (arith, full, next, past1))
        | inr past2 ↦
            let in3 : p - c0 k n - c1 k n - c2 k n < c3 k n = omega (arith, past2, lt, lanes_so.0) in
            located size counts 3 (p - c0 k n - c1 k n - c2 k n) p (omega arith) in3 (front3 ∙ omega (arith, past2))
            ∙ (let full : c0 k n ≡ k = omega (arith, in3) in let next : c1 k n ≡ k = omega (arith, in3) in let last : c2 k n ≡ k = omega (arith, in3) in omega (arith, full, next, last, past2))
      ]
    ]
  ]
    where
      front1 : sum (take 1 counts) + (p - c0 k n) ≡ c0 k n + (p - c0 k n)
      front1 = ap (λ (s : ℕ). s + (p - c0 k n)) (sum_by-cons (λ y. y) (c0 k n) [] ∙ omega arith)

      front2 : sum (take 2 counts) + (p - c0 k n - c1 k n) ≡ c0 k n + c1 k n + (p - c0 k n - c1 k n)
      front2 = ap (λ (s : ℕ). s + (p - c0 k n - c1 k n)) (sum_by-cons (λ y. y) (c0 k n) (c1 k n ∷ []) ∙ ap (λ (s : ℕ). c0 k n + s) (sum_by-cons (λ y. y) (c1 k n) []) ∙ omega arith)

      front3 : sum (take 3 counts) + (p - c0 k n - c1 k n - c2 k n) ≡ c0 k n + c1 k n + c2 k n + (p - c0 k n - c1 k n - c2 k n)
      front3 = ap (λ (s : ℕ). s + (p - c0 k n - c1 k n - c2 k n))
          (sum_by-cons (λ y. y) (c0 k n) (c1 k n ∷ c2 k n ∷ []) ∙ ap (λ (s : ℕ). c0 k n + s) (sum_by-cons (λ y. y) (c1 k n) (c2 k n ∷ []) ∙ ap (λ (s : ℕ). c1 k n + s) (sum_by-cons (λ y. y) (c2 k n) [])) ∙ omega arith)

-- ---- the memory that it reads as
-- a page that is filled with its own bytes
same_page : (memory : List ℕ) (a : ℕ) → take a memory ++ take 4096 (drop a memory) ++ drop (a + 4096) memory ≡ memory
same_page memory a =
    ap (λ (ys : List ℕ). take a memory ++ take 4096 (drop a memory) ++ ys) (sym (drop-drop 4096 a memory))
    ∙ append_assoc (take a memory) (take 4096 (drop a memory)) (drop 4096 (drop a memory))
    ∙ ap (λ (ys : List ℕ). take a memory ++ ys) (take-append-drop 4096 (drop a memory))
    ∙ take-append-drop a memory

-- the sectors of a page, from its parts
flat_parts : (memory : List ℕ) (xs : Content) (m n base : ℕ) → m + n ≤ length xs → ((j : ℕ) → j < n → sector xs (m + j) ≡ take 512 (drop (base + 512 * j) memory))
    → flat_map (λ bytes. bytes) (take n (drop m xs)) ≡ take (512 * n) (drop base memory)
flat_parts memory xs m zero base fits is = let none : 512 * 0 ≡ 0 = omega arith in sym (ap (λ (k : ℕ). take k (drop base memory)) none)
flat_parts memory xs m (suc n) base fits is =
    let here : m + 0 ≡ m = omega arith in
    let from : base + 512 * 0 ≡ base = omega arith in
    let step : 512 * suc n ≡ 512 + 512 * n = omega arith in
    ap (λ (ys : Content). flat_map (λ bytes. bytes) (take (suc n) ys)) (drop_more xs m [] (omega arith))
    ∙ ap (λ (ys : List ℕ). ys ++ flat_map (λ bytes. bytes) (take n (drop (m + 1) xs))) (ap (λ (k : ℕ). sector xs k) (sym here) ∙ is 0 (omega arith) ∙ ap (λ (k : ℕ). take 512 (drop k memory)) from)
    ∙ ap (λ (ys : List ℕ). take 512 (drop base memory) ++ ys) (flat_parts memory xs (m + 1) n (base + 512) (omega arith) (λ j lt. ap (λ (k : ℕ). sector xs k) (next m j) ∙ is (suc j) (omega arith) ∙ ap (λ (k : ℕ). take 512 (drop k memory)) (past base j)))
    ∙ ap (λ (ys : List ℕ). take 512 (drop base memory) ++ take (512 * n) ys) (sym (drop-drop 512 base memory))
    ∙ sym (more 512 (512 * n) (drop base memory))
    ∙ ap (λ (k : ℕ). take k (drop base memory)) (sym step)
  where
    next : (m j : ℕ) → m + 1 + j ≡ m + suc j
    next m j = omega arith

    past : (b j : ℕ) → b + 512 * suc j ≡ b + 512 + 512 * j
    past b j = omega arith

-- the first n pages came
seen : ℕ → List Bool
seen zero = replicate 256 false
seen (suc n) = set (seen n) n true

not_seen : (n k : ℕ) → n ≤ k → came (seen n) k ≡ false
unfolding seen
not_seen zero k le = elim (cases_lt k 256) [
  | inl lt ↦ get_or-replicate 256 k false false lt
  | inr past ↦ get_or_past (replicate 256 false) k false (let long : length (replicate 256 false) ≡ 256 = length-replicate 256 false in omega (arith, long, past))
]
not_seen (suc n) k le = get_or-set_other (seen n) n k true false (λ same. absurd (omega (arith, le, same))) ∙ not_seen n k (omega (arith, le))

module _ (size : Size) (board : IsSize size) (area serial : ℕ) (memory : List ℕ) (content : Content) (wide : serial < 2 ^ 64) (long : length memory ≡ ram_bytes_of size)
    (enough : area_start size area + area_sectors_of size ≤ length content)
    (stand : (p : ℕ) → p < size.pages → PageStands (area_start size area + 9 * p) p serial memory content) where
  abbrev here : Content
  here = area_of size area content

  abbrev places : List ℕ
  places = places_in size 0 (counts_of size)

  fits : (p : ℕ) → p < size.pages → 9 * p + 9 ≤ area_sectors_of size
  fits p lt = omega (arith, lt, places_enough size (omega (arith, board)), lanes_of size, nine size.lanes (places_of size))
    where
      nine : (l k : ℕ) → l * (9 * k) ≡ 9 * (l * k)
      nine l k = omega arith

  length_here : length here ≡ area_sectors_of size
  unfolding area_of
  length_here = omega (arith, length-take (area_sectors_of size) (drop (area_start size area) content), length-drop (area_start size area) content, enough)

  module _ (p : ℕ) (lt : p < size.pages) where
    abbrev head : PlaceHead
    head = record { page = p; serial = serial }

    there : (j : ℕ) → j < 9 → sector here (9 * p + j) ≡ sector content (area_start size area + 9 * p + j)
    there j less = area_sector size area content (9 * p + j) (omega (arith, less, fits p lt)) ∙ ap (λ (k : ℕ). sector content k) (regroup (area_start size area) (9 * p) j)
      where
        regroup : (a b c : ℕ) → a + (b + c) ≡ a + b + c
        regroup a b c = omega arith

    head_here : IsPlaceHead size head (sector here (9 * p))
    head_here = (
      lt,
      (omega (arith, lt, board), (omega arith, (omega (arith, wide), tt))),
      ap (λ (k : ℕ). sector here k) (none (9 * p)) ∙ there 0 (omega arith) ∙ ap (λ (k : ℕ). sector content k) (sym (none (area_start size area + 9 * p))) ∙ (stand p lt).0,
    )
      where
        none : (k : ℕ) → k ≡ k + 0
        none k = omega arith

    behind_here : behind here (9 * p) ≡ take 4096 (drop (4096 * p) memory)
    behind_here =
        flat_parts memory here (9 * p + 1) 8 (4096 * p) (omega (arith, length_here, fits p lt))
        (λ j less.
        ap (λ (k : ℕ). sector here k) (shift (9 * p) j)
        ∙ there (1 + j) (omega (arith, less))
        ∙ ap (λ (k : ℕ). sector content k) (shift_on (area_start size area + 9 * p) j)
        ∙ (stand p lt).1 j less)
      where
        shift : (a j : ℕ) → a + 1 + j ≡ a + (1 + j)
        shift a j = omega arith

        shift_on : (a j : ℕ) → a + (1 + j) ≡ a + 1 + j
        shift_on a j = omega arith

  taken : (n : ℕ) → n ≤ size.pages → IsTaken size serial here (take n places) (seen n) memory
  unfolding seen
  taken zero le = taken_none size serial here (replicate 256 false) memory (length-replicate 256 false) (λ k. not_seen 0 k (omega arith)) long
  taken (suc n) le =
      let lt : n < size.pages = omega (arith, le) in
      let many = length-places_in size 0 (counts_of size) in
      let all = (are_counts size board).all in
      let at = in_turn size board n lt in
      let bytes = take 4096 (drop (4096 * n) memory) in
      let whole : length bytes ≡ 4096 = omega (arith, length-take 4096 (drop (4096 * n) memory), length-drop (4096 * n) memory, long, lt) in
      let one = taken_more size serial here (take n places) (seen n) memory bytes (9 * n) n (taken n (omega (arith, le)))
      (head_from size (head n lt) serial (sector here (9 * n)) (head_here n lt) refl) (page_of_head size (head n lt) (sector here (9 * n)) (head_here n lt)) lt (omega (arith, board))
      (not_seen n n (omega arith)) (behind_here n lt) whole in
      let next : take (suc n) places ≡ take n places ++ 9 * n ∷ [] =
      ap (λ (k : ℕ). take k places) (plus n) ∙ take_more places n 0 (omega (arith, many, all, lt)) ∙ ap (λ (k : ℕ). take n places ++ k ∷ []) at in
      subst (λ (xs : List ℕ). IsTaken size serial here xs (seen (suc n)) memory) (sym next)
      (subst (IsTaken size serial here (take n places ++ 9 * n ∷ []) (seen (suc n))) (same_page memory (4096 * n)) one)
    where
      plus : (k : ℕ) → suc k ≡ k + 1
      plus k = omega arith

  pub area_reads : memory_of size serial (counts_of size) here ≡ memory
  area_reads =
      let many = length-places_in size 0 (counts_of size) in
      let all = (are_counts size board).all in
      sym
      (taken_all size serial (counts_of size) here (seen size.pages) memory (are_counts size board)
      (subst (λ (xs : List ℕ). IsTaken size serial here xs (seen size.pages) memory) (take_all size.pages places (omega (arith, many, all))) (taken size.pages (omega arith))))
