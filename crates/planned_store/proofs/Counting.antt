-- Where a place stands that is counted through the lanes.
use Rattle.std.proofs.Common.{◌≡◌, ◌∙◌, zero, suc, ℕ, ◌+◌, ◌*◌, ◌-◌, ◌^◌, ◌<◌, ◌≤◌, List, [], ◌∷◌, ◌++◌, length, slice_index, sum, take, drop, refl, sym, ap, subst, arith}
use Rattle.std.proofs.lemmas.List.{length-append, get_or-append_right, get_or_append_left, take-append-drop, drop_more, Sums.sum_by-cons}
use Rattle.board_model.specs.Shapes.{Size, area_sectors_of}
use Rattle.layout.specs.Records.{AreCounts}
use Rattle.image.{specs.Images.{lane_places, places_in}, proofs.{Lanes.{place_within, lane_there}, Lists.{Each, each_place, place_at}}}
use Rattle.image.proofs.Taking.{lane_split, lanes_split}

pub length-lane_places : (size : Size) (lane n : ℕ) → length (lane_places size lane n) ≡ n
unfolding lane_places
length-lane_places size lane zero = refl
length-lane_places size lane (suc n) = length-append (lane_places size lane n) (place_at size lane n ∷ []) ∙ (let rest = length-lane_places size lane n in omega (arith, rest))

pub length-places_in : (size : Size) (lane : ℕ) (counts : List ℕ) → length (places_in size lane counts) ≡ sum counts
unfolding places_in
length-places_in size lane [] = refl
length-places_in size lane (count ∷ counts) =
    let both = length-append (lane_places size lane count) (places_in size (lane + 1) counts) in
    let here = length-lane_places size lane count in
    let rest = length-places_in size (lane + 1) counts in
    let all : sum (count ∷ counts) ≡ count + sum counts = sum_by-cons (λ y. y) count counts in
    omega (arith, both, here, rest, all)

in_lane : (size : Size) (lane p n : ℕ) → p < n → slice_index (lane_places size lane n) p ≡ place_at size lane p
in_lane size lane p n lt =
    let split = lane_split size lane p n lt in
    let long = length-lane_places size lane p in
    let none : p - p ≡ 0 = omega arith in
    ap (λ (xs : List ℕ). slice_index xs p) split.1
    ∙ get_or-append_right (lane_places size lane p) (place_at size lane p ∷ split.0) p p 0 long (omega arith)
    ∙ ap (λ (k : ℕ). slice_index (place_at size lane p ∷ split.0) k) none

-- so many places stand in the lanes before it
pub located : (size : Size) (counts : List ℕ) (lane left n : ℕ) → lane < length counts → left < slice_index counts lane → sum (take lane counts) + left ≡ n
    → slice_index (places_in size 0 counts) n ≡ place_at size lane left
located size counts lane left n lt less is =
    let split = lanes_split size 0 lane counts lt in
    let count = slice_index counts lane in
    let front = places_in size 0 (take lane counts) in
    let here = lane_places size (0 + lane) count in
    let long = length-places_in size 0 (take lane counts) in
    let back : n - sum (take lane counts) ≡ left = omega (arith, is) in
    let many = length-lane_places size (0 + lane) count in
    let from : 0 + lane ≡ lane = omega arith in
    ap (λ (xs : List ℕ). slice_index xs n) split.1
    ∙ get_or-append_right front (here ++ split.0) (sum (take lane counts)) n 0 long (omega (arith, is))
    ∙ ap (λ (k : ℕ). slice_index (here ++ split.0) k) back
    ∙ get_or_append_left here split.0 0 left (omega (arith, many, less))
    ∙ ap (λ (k : ℕ). slice_index (lane_places size k count) left) from
    ∙ in_lane size lane left count less

-- and it stands within its area
pub located_within : (size : Size) (counts : List ℕ) (lane left : ℕ) → AreCounts size counts → lane < 4 → left < slice_index counts lane → place_at size lane left + 9 ≤ area_sectors_of size
located_within size counts lane left are lt less =
    let most = are.each lane lt in
    let there = lane_there size lane left (omega (arith, most, less)) in
    place_within size lane left there.0 there.1

-- the first so many of a list, the next one, and the rest
pub list_at : (xs : List ℕ) (n : ℕ) → n < length xs → xs ≡ take n xs ++ (slice_index xs n ∷ drop (n + 1) xs)
list_at xs n lt = sym (take-append-drop n xs) ∙ ap (λ (ys : List ℕ). take n xs ++ ys) (drop_more xs n 0 lt)

each_at : (P : ℕ → Type 0) (xs : List ℕ) (n : ℕ) → Each P xs → n < length xs → P (slice_index xs n)
each_at P [] n each lt = absurd (omega (arith, lt))
each_at P (x ∷ xs) zero each lt = each.0
each_at P (x ∷ xs) (suc n) each lt = each_at P xs n each.1 (omega (arith, lt))

-- each place in use stands within its area
pub place_there : (size : Size) (counts : List ℕ) (n : ℕ) → AreCounts size counts → n < size.pages → slice_index (places_in size 0 counts) n + 9 ≤ area_sectors_of size
place_there size counts n are lt =
    let long = length-places_in size 0 counts in
    each_at (λ place. place + 9 ≤ area_sectors_of size) (places_in size 0 counts) n
    (each_place (λ place. place + 9 ≤ area_sectors_of size) size 0 counts
    (λ i p li lp. subst (λ (k : ℕ). place_at size k p + 9 ≤ area_sectors_of size) (from_zero i) (located_within size counts i p are (omega (arith, li, are.four)) lp)))
    (omega (arith, long, are.all, lt))
  where
    from_zero : (i : ℕ) → i ≡ 0 + i
    from_zero i = omega arith

-- a place stands near the begin of its area
pub few_sectors : (lane p q : ℕ) → lane < 4 → p ≤ 256 → q < 256 → lane * (9 * p) + 9 * q < 2 ^ 16
few_sectors zero p q lt few small = omega (arith, few, small)
few_sectors (suc zero) p q lt few small = omega (arith, few, small)
few_sectors (suc (suc zero)) p q lt few small = omega (arith, few, small)
few_sectors (suc (suc (suc zero))) p q lt few small = omega (arith, few, small)
few_sectors (suc (suc (suc (suc lane)))) p q lt few small = absurd (omega (arith, lt))
