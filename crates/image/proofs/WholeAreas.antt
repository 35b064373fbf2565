-- An area is whole in plain words exactly where it is so by the test.
use Rattle.std.proofs.Common.{◌≡◌, ◌≢◌, ◌∙◌, ◌↔◌, if◌then◌else◌, refl, inl, inr, zero, suc, true, false, Bool, ℕ, ◌+◌, ◌*◌, ◌<◌, ◌≤◌, ◌^◌, List, [], ◌∷◌, ◌++◌, length, slice_index, take, drop, sym, ap, subst, arith, length-take, length-drop, length-append}
use Rattle.std.{proofs.lemmas.Bool.{cases_eq, cases_lt, and_parts, and_from, eq-eqb, ne_eqb}, specs.List.flat_map}
use Rattle.std.proofs.lemmas.List.{append-nil, take_all, take-append-le, drop-append-le, get_or-take, get_or-drop, get_or_past}
use Rattle.board_model.specs.Shapes.{Size, IsSize, area_sectors_of}
use Rattle.disk.specs.Facts.{Content, sector}
use Rattle.layout.{specs.{Places.IsPlaceHead, Records.AreCounts}, proofs.{SpelledPlaces.{page_in as page_of_head}}}
use Rattle.image.{specs.Areas.{IsArea, IsWholeArea}, proofs.{Heads.{head_from, head_true, made}, Lanes.place_within, Taking.not_whole}}
use Rattle.image.specs.Images.{numbers_below, lane_places, places_in, page_of, is_head, are_heads, pages_in, times, each_once, is_whole, page_behind, page_in, memory_of}
use Rattle.image.proofs.Lists.{Each, place_at, each_place, heads_each, often, often_append, often_one, often_none, one_in_all, once_each, each_once_at}
use Rattle.image.proofs.{Whole.flat_append, Written.count_small}

-- what holds of each place holds of each by its lane and number
split_each : (P : ℕ → Type 0) (xs ys : List ℕ) → Each P (xs ++ ys) → Each P xs × Each P ys
split_each P [] ys all = (tt, all)
split_each P (x ∷ xs) ys all = let rest = split_each P xs ys all.1 in ((all.0, rest.0), rest.1)

at_lane : (P : ℕ → Type 0) (size : Size) (lane n : ℕ) → Each P (lane_places size lane n) → (p : ℕ) → p < n → P (place_at size lane p)
unfolding lane_places
at_lane P size lane zero all p lt = absurd (omega (arith, lt))
at_lane P size lane (suc n) all p lt =
    let parts = split_each P (lane_places size lane n) (place_at size lane n ∷ []) all in
    elim (cases_eq p n) [
      | inl last ↦ subst (λ (q : ℕ). P (place_at size lane q)) (sym last) parts.1.0
      | inr before ↦ at_lane P size lane n parts.0 p (omega (arith, lt, before))
    ]

none_more : (k : ℕ) → k + 0 ≡ k
none_more k = omega arith

one_more : (k i : ℕ) → k + 1 + i ≡ k + suc i
one_more k i = omega arith

pub at_place : (P : ℕ → Type 0) (size : Size) (lane : ℕ) (counts : List ℕ) → Each P (places_in size lane counts) → (i p : ℕ) → p < slice_index counts i → P (place_at size (lane + i) p)
unfolding places_in
at_place P size lane [] all i p few = absurd (omega (arith, few))
at_place P size lane (count ∷ counts) all zero p few =
    subst (λ (k : ℕ). P (place_at size k p)) (sym (none_more lane)) (at_lane P size lane count (split_each P (lane_places size lane count) (places_in size (lane + 1) counts) all).0 p few)
at_place P size lane (count ∷ counts) all (suc i) p few =
    subst (λ (k : ℕ). P (place_at size k p)) (one_more lane i) (at_place P size (lane + 1) counts (split_each P (lane_places size lane count) (places_in size (lane + 1) counts) all).1 i p few)

each_head : (size : Size) (serial : ℕ) (area : Content) (places : List ℕ) → are_heads size serial area places ≡ true → Each (λ place. is_head size serial (sector area place) ≡ true) places
unfolding are_heads
each_head size serial area [] is = tt
each_head size serial area (place ∷ places) is = let parts = and_parts (is_head size serial (sector area place)) (are_heads size serial area places) is in (parts.0, each_head size serial area places parts.1)

module _ (area : Content) (k : ℕ) (size : Size) where
  abbrev page : ℕ → ℕ → ℕ
  page i p = page_of (sector area (place_at size i p))

  -- a page that stands somewhere has a place
  in_lane : (lane n : ℕ) → 0 < often area k (lane_places size lane n) → (p : ℕ) × (p < n) × (k ≡ page lane p)
  unfolding lane_places pages_in times
  in_lane lane zero some = absurd (omega (arith, some))
  in_lane lane (suc n) some =
      let here = often_append area k (lane_places size lane n) (place_at size lane n ∷ []) in
      elim (cases_eq k (page lane n)) [
        | inl is ↦ (n, omega arith, is)
        | inr not ↦
            let none = often_none area k (place_at size lane n) not in
            let rest = in_lane lane n (omega (arith, here, none, some)) in
            (rest.0, omega (arith, rest.1), rest.2)
      ]

  in_all : (lane : ℕ) (counts : List ℕ) → 0 < often area k (places_in size lane counts) → (i : ℕ) × (p : ℕ) × (p < slice_index counts i) × (k ≡ page (lane + i) p)
  unfolding places_in pages_in times
  in_all lane [] some = absurd (omega (arith, some))
  in_all lane (count ∷ counts) some =
      let here = often_append area k (lane_places size lane count) (places_in size (lane + 1) counts) in
      elim (cases_lt 0 (often area k (lane_places size lane count))) [
        | inl first ↦
            let found = in_lane lane count first in
            (0, found.0, found.1, found.2 ∙ ap (λ (j : ℕ). page j found.0) (sym (none_more lane)))
        | inr none ↦
            let found = in_all (lane + 1) counts (omega (arith, here, none, some)) in
            (suc found.0, found.1, found.2, found.3 ∙ ap (λ (j : ℕ). page j found.1) (one_more lane found.0))
      ]

  -- and where it has one, it stands
  some_in_lane : (lane n p : ℕ) → p < n → k ≡ page lane p → 0 < often area k (lane_places size lane n)
  unfolding lane_places
  some_in_lane lane zero p lt is = absurd (omega (arith, lt))
  some_in_lane lane (suc n) p lt is =
      let here = often_append area k (lane_places size lane n) (place_at size lane n ∷ []) in
      elim (cases_eq p n) [
        | inl last ↦ let one = often_one area k (place_at size lane n) (is ∙ ap (λ (q : ℕ). page lane q) last) in omega (arith, here, one)
        | inr before ↦ let rest = some_in_lane lane n p (omega (arith, lt, before)) is in omega (arith, here, rest)
      ]

  some_in_all : (lane : ℕ) (counts : List ℕ) (i p : ℕ) → p < slice_index counts i → k ≡ page (lane + i) p → 0 < often area k (places_in size lane counts)
  unfolding places_in
  some_in_all lane [] i p few is = absurd (omega (arith, few))
  some_in_all lane (count ∷ counts) zero p few is =
      let here = often_append area k (lane_places size lane count) (places_in size (lane + 1) counts) in
      let first = some_in_lane lane count p few (is ∙ ap (λ (j : ℕ). page j p) (none_more lane)) in
      omega (arith, here, first)
  some_in_all lane (count ∷ counts) (suc i) p few is =
      let here = often_append area k (lane_places size lane count) (places_in size (lane + 1) counts) in
      let rest = some_in_all (lane + 1) counts i p few (is ∙ ap (λ (j : ℕ). page j p) (sym (one_more lane i))) in
      omega (arith, here, rest)

  -- a page that stands once has one place
  once_in_lane : (lane n p q : ℕ) → p < n → q < n → k ≡ page lane p → k ≡ page lane q → often area k (lane_places size lane n) ≤ 1 → p ≡ q
  unfolding lane_places
  once_in_lane lane zero p q lp lq ip iq few = absurd (omega (arith, lp))
  once_in_lane lane (suc n) p q lp lq ip iq few =
      let here = often_append area k (lane_places size lane n) (place_at size lane n ∷ []) in
      elim (cases_eq p n) [
        | inl pn ↦ elim (cases_eq q n) [
          | inl qn ↦ pn ∙ sym qn
          | inr before ↦
              let one = often_one area k (place_at size lane n) (ip ∙ ap (λ (m : ℕ). page lane m) pn) in
              let more = some_in_lane lane n q (omega (arith, lq, before)) iq in
              absurd (omega (arith, here, one, more, few))
        ]
        | inr before ↦ elim (cases_eq q n) [
          | inl qn ↦
              let one = often_one area k (place_at size lane n) (iq ∙ ap (λ (m : ℕ). page lane m) qn) in
              let more = some_in_lane lane n p (omega (arith, lp, before)) ip in
              absurd (omega (arith, here, one, more, few))
          | inr also ↦ once_in_lane lane n p q (omega (arith, lp, before)) (omega (arith, lq, also)) ip iq (omega (arith, here, few))
        ]
      ]

  once_in_all : (lane : ℕ) (counts : List ℕ) (i p j q : ℕ) → p < slice_index counts i → q < slice_index counts j → k ≡ page (lane + i) p → k ≡ page (lane + j) q → often area k (places_in size lane counts) ≤ 1 → (i ≡ j) × (p ≡ q)
  unfolding places_in
  once_in_all lane [] i p j q fi fj ip iq few = absurd (omega (arith, fi))
  once_in_all lane (count ∷ counts) zero p zero q fi fj ip iq few =
      let here = often_append area k (lane_places size lane count) (places_in size (lane + 1) counts) in
      (refl, once_in_lane lane count p q fi fj (ip ∙ ap (λ (m : ℕ). page m p) (none_more lane)) (iq ∙ ap (λ (m : ℕ). page m q) (none_more lane)) (omega (arith, here, few)))
  once_in_all lane (count ∷ counts) zero p (suc j) q fi fj ip iq few =
      let here = often_append area k (lane_places size lane count) (places_in size (lane + 1) counts) in
      let first = some_in_lane lane count p fi (ip ∙ ap (λ (m : ℕ). page m p) (none_more lane)) in
      let rest = some_in_all (lane + 1) counts j q fj (iq ∙ ap (λ (m : ℕ). page m q) (sym (one_more lane j))) in
      absurd (omega (arith, here, first, rest, few))
  once_in_all lane (count ∷ counts) (suc i) p zero q fi fj ip iq few =
      let here = often_append area k (lane_places size lane count) (places_in size (lane + 1) counts) in
      let first = some_in_lane lane count q fj (iq ∙ ap (λ (m : ℕ). page m q) (none_more lane)) in
      let rest = some_in_all (lane + 1) counts i p fi (ip ∙ ap (λ (m : ℕ). page m p) (sym (one_more lane i))) in
      absurd (omega (arith, here, first, rest, few))
  once_in_all lane (count ∷ counts) (suc i) p (suc j) q fi fj ip iq few =
      let here = often_append area k (lane_places size lane count) (places_in size (lane + 1) counts) in
      let rest = once_in_all (lane + 1) counts i p j q fi fj (ip ∙ ap (λ (m : ℕ). page m p) (sym (one_more lane i))) (iq ∙ ap (λ (m : ℕ). page m q) (sym (one_more lane j))) (omega (arith, here, few)) in
      (ap (λ (m : ℕ). suc m) rest.0, rest.1)

  -- the page that is found is that after the header of its place
  first_is : (bytes : List ℕ) (places : List ℕ) → Each (λ place. k ≡ page_of (sector area place) → page_behind area place ≡ bytes) places → 0 < often area k places → page_in area places k ≡ bytes
  unfolding page_in pages_in times
  first_is bytes [] all some = absurd (omega (arith, some))
  first_is bytes (place ∷ places) all some =
      let here = page_of (sector area place) in
      elim (cases_eq here k) [
        | inl is ↦ ap (λ (b : Bool). if b then page_behind area place else page_in area places k) (eq-eqb here k is) ∙ all.0 (sym is)
        | inr not ↦
            let other : times k (here ∷ pages_in area places) ≡ 0 + times k (pages_in area places) = ap (λ (b : Bool). (if b then 1 else 0) + times k (pages_in area places)) (ne_eqb k here (λ same. not (sym same))) in
            ap (λ (b : Bool). if b then page_behind area place else page_in area places k) (ne_eqb here k not) ∙ first_is bytes places all.1 (omega (arith, some, other))
      ]

-- pages in a row, and one of them
length_pages : (f : ℕ → List ℕ) (n : ℕ) → ((k : ℕ) → k < n → length (f k) ≡ 4096) → length (flat_map f (numbers_below n)) ≡ 4096 * n
unfolding numbers_below
length_pages f zero each = refl
length_pages f (suc n) each =
    ap (λ (xs : List ℕ). length xs) (flat_append f (numbers_below n) (n ∷ []) ∙ ap (λ (xs : List ℕ). flat_map f (numbers_below n) ++ xs) (append-nil (f n)))
    ∙ length-append (flat_map f (numbers_below n)) (f n)
    ∙ (let rest = length_pages f n (λ k lt. each k (omega (arith, lt))) in let last = each n (omega arith) in omega (arith, rest, last))

one_page : (f : ℕ → List ℕ) (n : ℕ) → ((k : ℕ) → k < n → length (f k) ≡ 4096) → (k : ℕ) → k < n → take 4096 (drop (4096 * k) (flat_map f (numbers_below n))) ≡ f k
unfolding numbers_below
one_page f zero each k lt = absurd (omega (arith, lt))
one_page f (suc n) each k lt =
    let front = flat_map f (numbers_below n) in
    let long = length_pages f n (λ j less. each j (omega (arith, less))) in
    let parts : flat_map f (numbers_below n ++ n ∷ []) ≡ front ++ f n = flat_append f (numbers_below n) (n ∷ []) ∙ ap (λ (xs : List ℕ). front ++ xs) (append-nil (f n)) in
    ap (λ (xs : List ℕ). take 4096 (drop (4096 * k) xs)) parts
    ∙ ap (take 4096) (drop-append-le (4096 * k) front (f n) (omega (arith, long, lt)))
    ∙ elim (cases_eq k n) [
      | inl is ↦
          let whole : 4096 * k ≡ length front = omega (arith, is, long) in
          let gone : drop (4096 * k) front ≡ [] = ap (λ (m : ℕ). drop m front) whole ∙ drop_whole front in
          ap (λ (xs : List ℕ). take 4096 (xs ++ f n)) gone ∙ take_all 4096 (f n) (let last = each n (omega arith) in omega (arith, last)) ∙ ap f (sym is)
      | inr not ↦
          let m = length-drop (4096 * k) front in
          take-append-le 4096 (drop (4096 * k) front) (f n) (omega (arith, m, long, lt, not)) ∙ one_page f n (λ j less. each j (omega (arith, less))) k (omega (arith, lt, not))
    ]
  where
    drop_whole : (xs : List ℕ) → drop (length xs) xs ≡ []
    drop_whole [] = refl
    drop_whole (x ∷ xs) = drop_whole xs

length_sectors : (xs : Content) → ((k : ℕ) → k < length xs → length (sector xs k) ≡ 512) → length (flat_map (λ bytes. bytes) xs) ≡ 512 * length xs
length_sectors [] each = refl
length_sectors (x ∷ xs) each =
    length-append x (flat_map (λ bytes. bytes) xs) ∙ (let first = each 0 (omega arith) in let rest = length_sectors xs (λ k lt. each (suc k) (omega (arith, lt))) in omega (arith, first, rest))

length_behind : (size : Size) (area : Content) (place : ℕ) → IsArea size area → place + 9 ≤ area_sectors_of size → length (page_behind area place) ≡ 4096
length_behind size area place is fits =
    let rest = drop (place + 1) area in
    let l = length-take 8 rest in
    let m = length-drop (place + 1) area in
    let eight : length (take 8 rest) ≡ 8 = omega (arith, l, m, is.long, fits) in
    length_sectors (take 8 rest)
    (λ k lt.
    ap (λ (s : List ℕ). length s) (get_or-take 8 rest k [] (omega (arith, lt, eight)) ∙ get_or-drop (place + 1) area k [])
    ∙ is.each (place + 1 + k) (omega (arith, lt, eight, is.long, fits)))
    ∙ omega (arith, eight)

from_zero : (i : ℕ) → 0 + i ≡ i
from_zero i = omega arith

module _ (size : Size) (serial : ℕ) (counts : List ℕ) (area : Content) (board : IsSize size) (wide : serial < 2 ^ 64) (are : AreCounts size counts) (is : IsArea size area) where
  abbrev places : List ℕ
  places = places_in size 0 counts

  abbrev page_at : ℕ → ℕ → ℕ
  page_at i p = page_of (sector area (place_at size i p))

  lane_zero : (i p : ℕ) → page_of (sector area (place_at size (0 + i) p)) ≡ page_at i p
  lane_zero i p = ap (λ (k : ℕ). page_of (sector area (place_at size k p))) (from_zero i)

  in_four : (i p : ℕ) → p < slice_index counts i → i < 4
  in_four i p few = elim (cases_lt i 4) [
    | inl lt ↦ lt
    | inr past ↦ let none : slice_index counts i ≡ 0 = get_or_past counts i 0 (omega (arith, past, are.four)) in absurd (omega (arith, none, few))
  ]

  fits : (i p : ℕ) → p < slice_index counts i → place_at size i p + 9 ≤ area_sectors_of size
  fits i p few = let small = count_small size counts i p are (in_four i p few) few in place_within size i p small.0 small.1

  all_places : (P : ℕ → Type 0) → ((i p : ℕ) → p < slice_index counts i → P (place_at size i p)) → Each P places
  all_places P each = each_place P size 0 counts (λ i p lt few. subst (λ (k : ℕ). P (place_at size k p)) (sym (from_zero i)) (each i p few))

  module _ (heads : are_heads size serial area places ≡ true) (once : (k : ℕ) → k < size.pages → often area k places ≡ 1) where
    is_head_at : (i p : ℕ) → p < slice_index counts i → is_head size serial (sector area (place_at size i p)) ≡ true
    is_head_at i p few =
        subst (λ (k : ℕ). is_head size serial (sector area (place_at size k p)) ≡ true) (from_zero i)
        (at_place (λ place. is_head size serial (sector area place) ≡ true) size 0 counts (each_head size serial area places heads) i p few)

    head_at : (i p : ℕ) → p < slice_index counts i → IsPlaceHead size (made (page_at i p) serial) (sector area (place_at size i p))
    head_at i p few = head_true size serial (sector area (place_at size i p)) (omega (arith, board)) wide (is_head_at i p few)

    one_place : (i p j q : ℕ) → p < slice_index counts i → q < slice_index counts j → page_at i p ≡ page_at j q → (i ≡ j) × (p ≡ q)
    one_place i p j q fi fj same =
        once_in_all area (page_at i p) size 0 counts i p j q fi fj (sym (lane_zero i p)) (same ∙ sym (lane_zero j q))
        (let one = once (page_at i p) (head_at i p fi).0 in omega (arith, one))

    has_place : (k : ℕ) → k < size.pages → (i : ℕ) × (p : ℕ) × (p < slice_index counts i) × (page_at i p ≡ k)
    has_place k lt =
        let one = once k lt in
        let found = in_all area k size 0 counts (omega (arith, one)) in
        (found.0, found.1, found.2, sym (found.3 ∙ lane_zero found.0 found.1))

    pub by_test : IsWholeArea size serial counts area
    by_test = record { page = page_at; head = head_at; each = has_place; once = one_place }

    behind_place : (i p : ℕ) → p < slice_index counts i → page_in area places (page_at i p) ≡ page_behind area (place_at size i p)
    behind_place i p few =
        first_is area (page_at i p) size (page_behind area (place_at size i p)) places
        (all_places (λ place. page_at i p ≡ page_of (sector area place) → page_behind area place ≡ page_behind area (place_at size i p))
        (λ j q fj same. let at = one_place j q i p fj few (sym same) in ap (page_behind area) (ap (λ (m : ℕ). place_at size m q) at.0 ∙ ap (λ (m : ℕ). place_at size i m) at.1)))
        (let one = once (page_at i p) (head_at i p few).0 in omega (arith, one))

    long_page : (k : ℕ) → k < size.pages → length (page_in area places k) ≡ 4096
    long_page k lt =
        let found = has_place k lt in
        ap (λ (m : ℕ). length (page_in area places m)) (sym found.3)
        ∙ ap (λ (xs : List ℕ). length xs) (behind_place found.0 found.1 found.2)
        ∙ length_behind size area (place_at size found.0 found.1) is (fits found.0 found.1 found.2)

    memory_is : memory_of size serial counts area ≡ flat_map (page_in area places) (numbers_below size.pages)
    unfolding memory_of
    memory_is =
        ap (λ (b : Bool). if b then flat_map (page_in area places) (numbers_below size.pages) else [])
        (and_from (are_heads size serial area places) (each_once size.pages (pages_in area places)) heads (once_each size.pages (pages_in area places) once))

    pub some_memory : memory_of size serial counts area ≢ []
    some_memory none =
        let long = length_pages (page_in area places) size.pages long_page in
        let same : length (memory_of size serial counts area) ≡ 4096 * size.pages = ap (λ (xs : List ℕ). length xs) memory_is ∙ long in
        let zero_ : length (memory_of size serial counts area) ≡ 0 = ap (λ (xs : List ℕ). length xs) none in
        omega (arith, same, zero_, board)

    pub page_there : (i p : ℕ) → p < slice_index counts i → take 4096 (drop (4096 * page_at i p) (memory_of size serial counts area)) ≡ page_behind area (place_at size i p)
    page_there i p few =
        ap (λ (xs : List ℕ). take 4096 (drop (4096 * page_at i p) xs)) memory_is
        ∙ one_page (page_in area places) size.pages long_page (page_at i p) (head_at i p few).0
        ∙ behind_place i p few

  module _ (whole : IsWholeArea size serial counts area) where
    page_is : (i p : ℕ) → p < slice_index counts i → page_at i p ≡ whole.page i p
    page_is i p few = page_of_head size (made (whole.page i p) serial) (sector area (place_at size i p)) (whole.head i p few)

    heads_are : are_heads size serial area places ≡ true
    heads_are =
        heads_each size serial area places
        (all_places (λ place. is_head size serial (sector area place) ≡ true) (λ i p few. head_from size (made (whole.page i p) serial) serial (sector area (place_at size i p)) (whole.head i p few) refl))

    each_is_once : (k : ℕ) → k < size.pages → often area k places ≡ 1
    each_is_once k lt =
        let at = whole.each k lt in
        one_in_all area k size 0 counts at.0 at.1 (let four = in_four at.0 at.1 at.2 in omega (arith, four, are.four)) at.2
        (sym (lane_zero at.0 at.1 ∙ page_is at.0 at.1 at.2 ∙ at.3))
        (λ j q lj few same. whole.once j q at.0 at.1 few at.2 (sym (page_is j q few) ∙ sym (lane_zero j q) ∙ sym same ∙ sym at.3))

    pub in_words_memory : memory_of size serial counts area ≢ []
    in_words_memory = some_memory heads_are each_is_once

    pub in_words_page : (i p : ℕ) → p < slice_index counts i → take 4096 (drop (4096 * whole.page i p) (memory_of size serial counts area)) ≡ page_behind area (place_at size i p)
    in_words_page i p few = ap (λ (k : ℕ). take 4096 (drop (4096 * k) (memory_of size serial counts area))) (sym (page_is i p few)) ∙ page_there heads_are each_is_once i p few

  by_memory : (b : Bool) → is_whole size serial area places ≡ b → memory_of size serial counts area ≢ [] → IsWholeArea size serial counts area
  by_memory true test some =
      let parts = and_parts (are_heads size serial area places) (each_once size.pages (pages_in area places)) test in
      by_test parts.0 (each_once_at size.pages (pages_in area places) parts.1)
  by_memory false test some = absurd (some (not_whole size serial counts area test))

  pub both_ways : (memory_of size serial counts area ≢ []) ↔ IsWholeArea size serial counts area
  both_ways = (by_memory (is_whole size serial area places) refl, in_words_memory)
