-- Lists of draws, and what it comes to that each number was drawn once.
use Rattle.std.proofs.Common.{◌≡◌, ◌≢◌, ◌∙◌, ◌⊎◌, inl, inr, refl, zero, suc, ℕ, ◌+◌, ◌*◌, ◌-◌, ◌%◌, ◌<◌, ◌≤◌, List, [], ◌∷◌, ◌++◌, Bool, true, false, length, map, flat_map, slice_index, sum, nat_lt, if◌then◌else◌, sym, ap, subst, arith, suc-mul, mul_comm, length-append}
use Rattle.std.{specs.List.concat, proofs.{Math.Nat.mod-lt, lemmas.{Nat.div-add-mod', List.Sums.sum_by-cons, Bool.cases_eq}}}
use Rattle.std.proofs.lemmas.Bool.Decides.{nat_tests}
use Rattle.board_model.specs.Shapes.{Size, places_of}
use Rattle.disk.specs.Facts.{LaneFacts, lane_at}
use Rattle.layout.specs.Records.{AreCounts, most_places}
use Rattle.savers.{specs.{Saved.LanesHold, Pages.{Fills, DrawnPages, drawn_in}, Draws.{times, once_below}}, proofs.Steps.times-append}

-- ---- where a number stands in a list
times_here : (x : ℕ) (ys : List ℕ) → times x (x ∷ ys) ≡ 1 + times x ys
times_here x ys = grind (arith, nat_tests)

times_other : (x y : ℕ) (ys : List ℕ) → x ≢ y → times x (y ∷ ys) ≡ times x ys
times_other x y ys not = grind (arith, nat_tests)

times_more : (x y : ℕ) (ys : List ℕ) → times x ys ≤ times x (y ∷ ys)
times_more x y ys = omega arith

somewhere : (x : ℕ) (xs : List ℕ) → 0 < times x xs → (p : ℕ) × (p < length xs) × (slice_index xs p ≡ x)
somewhere x [] some = absurd (omega arith)
somewhere x (y ∷ ys) some = elim (cases_eq x y) [
  | inl is ↦ (0, omega arith, sym is)
  | inr not ↦ (let r = somewhere x ys (omega (arith, some, times_other x y ys not)) in (suc r.0, omega (arith, r.1), r.2))
]

here_at : (x : ℕ) (xs : List ℕ) (p : ℕ) → p < length xs → slice_index xs p ≡ x → 0 < times x xs
here_at x [] p lt is = absurd (omega arith)
here_at x (y ∷ ys) zero lt is = omega (arith, subst (λ (k : ℕ). times x (k ∷ ys) ≡ 1 + times x ys) (sym is) (times_here x ys))
here_at x (y ∷ ys) (suc p) lt is = omega (arith, here_at x ys p (omega arith) is, times_more x y ys)

twice_at : (x : ℕ) (xs : List ℕ) (p q : ℕ) → p ≢ q → p < length xs → q < length xs → slice_index xs p ≡ x → slice_index xs q ≡ x → 2 ≤ times x xs
twice_at x [] p q ne lp lq ip iq = absurd (omega arith)
twice_at x (y ∷ ys) zero zero ne lp lq ip iq = absurd (ne refl)
twice_at x (y ∷ ys) zero (suc q) ne lp lq ip iq = omega (arith, subst (λ (k : ℕ). times x (k ∷ ys) ≡ 1 + times x ys) (sym ip) (times_here x ys), here_at x ys q (omega arith) iq)
twice_at x (y ∷ ys) (suc p) zero ne lp lq ip iq = omega (arith, subst (λ (k : ℕ). times x (k ∷ ys) ≡ 1 + times x ys) (sym iq) (times_here x ys), here_at x ys p (omega arith) ip)
twice_at x (y ∷ ys) (suc p) (suc q) ne lp lq ip iq = omega (arith, twice_at x ys p q (λ e. ne (ap suc e)) (omega arith) (omega arith) ip iq, times_more x y ys)

-- ---- and in one of several lists
somewhere_in : (x : ℕ) (xss : List (List ℕ)) → 0 < times x (concat xss)
    → (i : ℕ) × (p : ℕ) × (i < length xss) × (p < length (drawn_in xss i)) × (slice_index (drawn_in xss i) p ≡ x)
somewhere_in x [] some = absurd (omega arith)
somewhere_in x (xs ∷ xss) some = elim (cases_eq (times x xs) 0) [
  | inl none ↦ (let r = somewhere_in x xss (omega (arith, some, none, times-append x xs (concat xss))) in (suc r.0, r.1, omega (arith, r.2), r.3, r.4))
  | inr here ↦ (let r = somewhere x xs (omega arith) in (0, r.0, omega arith, r.1, r.2))
]

pub there_in : (x : ℕ) (xss : List (List ℕ)) (i p : ℕ) → i < length xss → p < length (drawn_in xss i) → slice_index (drawn_in xss i) p ≡ x → 0 < times x (concat xss)
there_in x [] i p lt within is = absurd (omega arith)
there_in x (xs ∷ xss) zero p lt within is = omega (arith, here_at x xs p within is, times-append x xs (concat xss))
there_in x (xs ∷ xss) (suc i) p lt within is = omega (arith, there_in x xss i p (omega arith) within is, times-append x xs (concat xss))

one_place : (x : ℕ) (xss : List (List ℕ)) → times x (concat xss) ≤ 1 → (i p j q : ℕ) → i < length xss → j < length xss → p < length (drawn_in xss i) → q < length (drawn_in xss j)
    → slice_index (drawn_in xss i) p ≡ x → slice_index (drawn_in xss j) q ≡ x → (i ≡ j) × (p ≡ q)
one_place x [] once i p j q li lj lp lq ip iq = absurd (omega arith)
one_place x (xs ∷ xss) once zero p zero q li lj lp lq ip iq = elim (cases_eq p q) [
  | inl is ↦ (refl, is)
  | inr not ↦ absurd (omega (arith, once, twice_at x xs p q not lp lq ip iq, times-append x xs (concat xss)))
]
one_place x (xs ∷ xss) once zero p (suc j) q li lj lp lq ip iq = absurd (omega (arith, once, here_at x xs p lp ip, there_in x xss j q (omega arith) lq iq, times-append x xs (concat xss)))
one_place x (xs ∷ xss) once (suc i) p zero q li lj lp lq ip iq = absurd (omega (arith, once, here_at x xs q lq iq, there_in x xss i p (omega arith) lp ip, times-append x xs (concat xss)))
one_place x (xs ∷ xss) once (suc i) p (suc j) q li lj lp lq ip iq =
    let r = one_place x xss (omega (arith, once, times-append x xs (concat xss))) i p j q (omega arith) (omega arith) lp lq ip iq in
    (ap suc r.0, r.1)

-- ---- how many are below n
abbrev below : ℕ → List ℕ → ℕ
below n [] = 0
below n (y ∷ ys) = once_below y n + below n ys

below-append : (n : ℕ) (xs ys : List ℕ) → below n (xs ++ ys) ≡ below n xs + below n ys
below-append n [] ys = omega arith
below-append n (x ∷ xs) ys = omega (arith, below-append n xs ys)

-- how often the numbers below n stand in a list, all together
abbrev times_to : ℕ → List ℕ → ℕ
times_to zero xs = 0
times_to (suc n) xs = times_to n xs + times n xs

below_next : (y n : ℕ) (ys : List ℕ) → once_below y (suc n) + times n ys ≡ once_below y n + times n (y ∷ ys)
below_next y n ys = grind (arith, nat_tests)

below_none : (y : ℕ) → once_below y 0 ≡ 0
below_none y = grind (arith, nat_tests)

below_yes : (y n : ℕ) → y < n → once_below y n ≡ 1
below_yes y n lt = grind (arith, nat_tests)

below_no : (y n : ℕ) → n ≤ y → once_below y n ≡ 0
below_no y n le = grind (arith, nat_tests)

times_to_nil : (n : ℕ) → times_to n [] ≡ 0
times_to_nil zero = refl
times_to_nil (suc n) = omega (arith, times_to_nil n)

times_to_cons : (n y : ℕ) (ys : List ℕ) → times_to n (y ∷ ys) ≡ once_below y n + times_to n ys
times_to_cons zero y ys = omega (arith, below_none y)
times_to_cons (suc n) y ys = omega (arith, times_to_cons n y ys, below_next y n ys)

below_is : (n : ℕ) (xs : List ℕ) → below n xs ≡ times_to n xs
below_is n [] = sym (times_to_nil n)
below_is n (y ∷ ys) = omega (arith, below_is n ys, times_to_cons n y ys)

-- n of them where each is there once
all_below : (n : ℕ) (xs : List ℕ) → ((x : ℕ) → x < n → times x xs ≡ 1) → times_to n xs ≡ n
all_below zero xs once = refl
all_below (suc n) xs once = omega (arith, all_below n xs (λ x lt. once x (omega arith)), once n (omega arith))

below_first : (n : ℕ) (xs : List ℕ) (f : ℕ) → f ≤ length xs → ((p : ℕ) → p < f → slice_index xs p < n) → ((p : ℕ) → f ≤ p → p < length xs → n ≤ slice_index xs p) → below n xs ≡ f
below_first n [] f le first past = omega arith
below_first n (y ∷ ys) zero le first past = omega (arith, below_no y n (past 0 (omega arith) (omega arith)), below_first n ys 0 (omega arith) (λ p lt. absurd (omega arith)) (λ p le lt. past (suc p) (omega arith) (omega arith)))
below_first n (y ∷ ys) (suc f) le first past = omega (arith, below_yes y n (first 0 (omega arith)), below_first n ys f (omega arith) (λ p lt. first (suc p) (omega arith)) (λ p le lt. past (suc p) (omega arith) (omega arith)))

sum_below : (n : ℕ) (xss : List (List ℕ)) (counts : List ℕ) → length xss ≤ length counts → ((i : ℕ) → i < length xss → slice_index counts i ≡ below n (drawn_in xss i))
    → ((i : ℕ) → length xss ≤ i → slice_index counts i ≡ 0) → sum counts ≡ below n (concat xss)
sum_below n [] [] fits is others = refl
sum_below n (xs ∷ xss) [] fits is others = absurd (omega arith)
sum_below n [] (c ∷ cs) fits is others = omega (arith, sum_by-cons (λ (k : ℕ). k) c cs, others 0 (omega arith), sum_below n [] cs (omega arith) (λ i lt. absurd (omega arith)) (λ i le. others (suc i) (omega arith)))
sum_below n (xs ∷ xss) (c ∷ cs) fits is others =
    omega (arith, sum_by-cons (λ (k : ℕ). k) c cs, is 0 (omega arith), below-append n xs (concat xss), sum_below n xss cs (omega arith) (λ i lt. is (suc i) (omega arith)) (λ i le. others (suc i) (omega arith)))

-- ---- what the savers filled
module _ (size : Size) (memory : List ℕ) (serial : ℕ) where
  filled_within : (drawn : List ℕ) (filled : ℕ) (lane : List (List ℕ)) → Fills size memory serial drawn filled lane → filled ≤ length drawn
  filled_within drawn filled lane f = elim f.ended [
    | inl full ↦ omega (arith, full.1)
    | inr past ↦ omega (arith, past)
  ]

  filled_below : (drawn : List ℕ) (filled : ℕ) (lane : List (List ℕ)) → Fills size memory serial drawn filled lane → below size.pages drawn ≡ filled
  filled_below drawn filled lane f = below_first size.pages drawn filled (filled_within drawn filled lane f) (λ p lt. (f.pages p lt).0) f.past

  module _ (numbers counts : List ℕ) (lanes : List LaneFacts) (some : 1 ≤ size.lanes) (few : size.lanes ≤ 4) (many : length lanes ≡ size.lanes) (d : DrawnPages size memory serial numbers counts lanes) where
    once_drawn : (page : ℕ) → page < size.pages → times page (concat d.drawn) ≡ 1
    once_drawn page lt = ap (times page) d.all ∙ d.once page lt

    of_lane : (i : ℕ) → i < length lanes → slice_index counts i ≤ length (drawn_in d.drawn i)
    of_lane i lt = filled_within (drawn_in d.drawn i) (slice_index counts i) (lane_at lanes i).content (d.fills i lt)

    no_lane_more : (i : ℕ) → i < 4 → slice_index counts i ≤ most_places size i
    no_lane_more i lt = by_test (nat_lt i size.lanes) refl
      where
        by_test : (b : Bool) → nat_lt i size.lanes ≡ b → slice_index counts i ≤ (if b then places_of size else 0)
        by_test true test = (d.fills i (let within : i < size.lanes = grind (arith, nat_tests) in omega (arith, within, many))).few
        by_test false test = omega (arith, d.others i (let past : size.lanes ≤ i = grind (arith, nat_tests) in omega (arith, past, many)))

    pub are_counts : AreCounts size counts
    are_counts = record {
      four = d.four;
      each = no_lane_more;
      all =
          sum_below size.pages d.drawn counts (omega (arith, d.many, d.four, many, few))
          (λ i lt. sym (filled_below (drawn_in d.drawn i) (slice_index counts i) (lane_at lanes i).content (d.fills i (omega (arith, d.many, lt)))))
          (λ i le. d.others i (omega (arith, d.many, le)))
          ∙ below_is size.pages (concat d.drawn)
          ∙ all_below size.pages (concat d.drawn) once_drawn;
    }

    pub lanes_hold : LanesHold size memory serial counts lanes
    lanes_hold = record {
      fit = are_counts;
      page = λ i p. slice_index (drawn_in d.drawn i) p;
      below = λ i p lt within. ((d.fills i lt).pages p within).0;
      stands = λ i p lt within. ((d.fills i lt).pages p within).1;
      each = λ k lt.
          let r = somewhere_in k d.drawn (omega (arith, once_drawn k lt)) in
          let within : r.0 < length lanes = omega (arith, r.2, d.many) in (
            r.0,
            r.1,
            within,
            filled r.0 r.1 within (subst (λ (n : ℕ). n < size.pages) (sym r.4) lt) r.3,
            r.4,
          );
      once = λ i p j q li lj wi wj same.
          one_place (slice_index (drawn_in d.drawn i) p) d.drawn (omega (arith, once_drawn (slice_index (drawn_in d.drawn i) p) ((d.fills i li).pages p wi).0)) i p j q (omega (arith, li, d.many)) (omega (arith, lj, d.many))
          (omega (arith, wi, of_lane i li)) (omega (arith, wj, of_lane j lj)) refl (sym same);
    }
      where
        filled : (i p : ℕ) → (lt : i < length lanes) → slice_index (drawn_in d.drawn i) p < size.pages → p < length (drawn_in d.drawn i) → p < slice_index counts i
        filled i p lt page within = elim (cases_eq (slice_index counts i - p) 0) [
          | inl none ↦ absurd (omega (arith, page, (d.fills i lt).past p (omega arith) within))
          | inr not ↦ omega arith
        ]

-- ---- all pages were drawn
-- Either a number past the last page was drawn, or all lanes are full.
past_or_full : (n places : ℕ) (xss : List (List ℕ)) → ((i : ℕ) → i < length xss → (places ≤ length (drawn_in xss i)) ⊎ ((p : ℕ) × (p < length (drawn_in xss i)) × (n ≤ slice_index (drawn_in xss i) p)))
    → ((x : ℕ) × (n ≤ x) × (0 < times x (concat xss))) ⊎ (length xss * places ≤ length (concat xss))
past_or_full n places [] each = inr (omega arith)
past_or_full n places (xs ∷ xss) each = elim (each 0 (omega arith)) [
  | inl full ↦ elim (past_or_full n places xss (λ i lt. each (suc i) (omega arith))) [
    | inl past ↦ inl (past.0, past.1, omega (arith, past.2, times-append past.0 xs (concat xss)))
    | inr all ↦ inr (omega (arith, full, all, length-append xs (concat xss), suc-mul (length xss) places))
  ]
  | inr past ↦ inl (slice_index xs past.0, past.2, omega (arith, here_at (slice_index xs past.0) xs past.0 past.1 refl, times-append (slice_index xs past.0) xs (concat xss)))
]

places_enough : (size : Size) → 1 ≤ size.lanes → size.pages ≤ size.lanes * places_of size
places_enough size some =
    let n = size.pages + size.lanes - 1 in
    let whole = div-add-mod' n size.lanes in
    let small : n % size.lanes < size.lanes = mod-lt n some in
    let turned : places_of size * size.lanes ≡ size.lanes * places_of size = mul_comm (places_of size) size.lanes in
    omega (arith, whole, small, turned)

pub all_drawn : (size : Size) (memory : List ℕ) (serial : ℕ) (drawn : List (List ℕ)) (counts : List ℕ) (lanes : List LaneFacts) → 1 ≤ size.lanes → length lanes ≡ size.lanes → length drawn ≡ length lanes
    → ((i : ℕ) → i < length lanes → Fills size memory serial (drawn_in drawn i) (slice_index counts i) (lane_at lanes i).content)
    → ((x : ℕ) → times x (concat drawn) ≡ once_below x (length (concat drawn)))
    → (page : ℕ) → page < size.pages → times page (concat drawn) ≡ 1
all_drawn size memory serial drawn counts lanes some many by_lane fills each page lt =
    each page
    ∙ below_yes page (length (concat drawn)) (elim (past_or_full size.pages (places_of size) drawn (λ i within. of_lane i (omega (arith, within, by_lane)))) [
      | inl past ↦ (let r = each past.0 in let b = once_only past.0 (length (concat drawn)) (omega (arith, r, past.2)) in omega (arith, b, past.1, lt))
      | inr full ↦ omega (arith, full, lt, places_enough size some, same_count (places_of size))
    ])
  where
    once_only : (x n : ℕ) → 0 < once_below x n → x < n
    once_only x n is = grind (arith, nat_tests)

    same_count : (k : ℕ) → length drawn * k ≡ size.lanes * k
    same_count k = ap (λ (n : ℕ). n * k) (by_lane ∙ many)

    of_lane : (i : ℕ) → i < length lanes → (places_of size ≤ length (drawn_in drawn i)) ⊎ ((p : ℕ) × (p < length (drawn_in drawn i)) × (size.pages ≤ slice_index (drawn_in drawn i) p))
    of_lane i within = elim (fills i within).ended [
      | inl full ↦ inl (omega (arith, full.0, full.1))
      | inr past ↦ inr (slice_index counts i, omega (arith, past), (fills i within).past (slice_index counts i) (omega arith) (omega (arith, past)))
    ]

pub flat_concat : {S : Type 0} (f : S → List ℕ) (xs : List S) → concat (map f xs) ≡ flat_map f xs
flat_concat f [] = refl
flat_concat f (x ∷ xs) = ap (λ (l : List ℕ). f x ++ l) (flat_concat f xs)
