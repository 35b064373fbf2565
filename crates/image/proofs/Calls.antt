-- How many calls of the disk a read makes: two for each place, and fewer where it is refused.
use Rattle.std.proofs.Common.{◌≡◌, ◌∙◌, zero, suc, ℕ, ◌+◌, ◌*◌, ◌<◌, ◌≤◌, List, [], ◌∷◌, length, slice_index, sum, take, sym, ap, arith}
use Rattle.std.proofs.lemmas.List.{take_all, Sums.sum_by-cons}
use Rattle.board_model.specs.{Shapes.Size, declared.refusal.Refusal.{Refusal, TheVariants.{Device, BadImage}}}
use Rattle.disk.specs.Facts.{counted, most}
use Rattle.layout.specs.Records.{AreCounts}
use Rattle.image.specs.Refusals.{StopsWithin}

pub calls_none : (n : ℕ) → n ≤ most → n ≡ counted n (2 * 0)
calls_none n few = omega (arith, few)

-- so many places more
pub calls_more : (n p q places x y : ℕ) → x ≡ counted n (2 * p) → y ≡ counted x (2 * q) → p + q ≡ places → y ≡ counted n (2 * places)
calls_more n p q places x y was more all = omega (arith, was, more, all)

-- refused after so many places that were read whole
pub stops_after : (places few many n x y : ℕ) (e : Refusal) → x ≡ counted n (2 * places) → places + few ≤ many → StopsWithin few e x y → StopsWithin many e n y
stops_after places few many n x y Device was fits stops = (omega (arith, was, stops.0), omega (arith, was, fits, stops.1))
stops_after places few many n x y BadImage was fits stops = (places + stops.0, omega (arith, fits, stops.1), omega (arith, was, stops.2))
stops_after places few many n x y e was fits stops = tt

sum_take : (lane : ℕ) (counts : List ℕ) → lane < length counts → sum (take (lane + 1) counts) ≡ sum (take lane counts) + slice_index counts lane
sum_take lane [] lt = absurd (omega (arith, lt))
sum_take zero (count ∷ counts) lt = omega (arith, sum_by-cons (λ y. y) count [])
sum_take (suc lane) (count ∷ counts) lt =
    ap (λ (k : ℕ). sum (take k (count ∷ counts))) (next lane)
    ∙ sum_by-cons (λ y. y) count (take (lane + 1) counts)
    ∙ (let rest = sum_take lane counts (omega (arith, lt)) in let front = sum_by-cons (λ y. y) count (take lane counts) in omega (arith, rest, front))
  where
    next : (k : ℕ) → suc k + 1 ≡ suc (k + 1)
    next k = omega arith

sum_take_few : (k : ℕ) (counts : List ℕ) → sum (take k counts) ≤ sum counts
sum_take_few zero counts = omega arith
sum_take_few (suc k) [] = omega arith
sum_take_few (suc k) (count ∷ counts) = omega (arith, sum_take_few k counts, sum_by-cons (λ y. y) count (take k counts), sum_by-cons (λ y. y) count counts)

-- a lane more
pub lane_counted : (lane : ℕ) (counts : List ℕ) → lane < length counts → sum (take lane counts) + slice_index counts lane ≡ sum (take (lane + 1) counts)
lane_counted lane counts lt = sym (sum_take lane counts lt)

-- no lane has more than there are pages
pub lane_within : (size : Size) (lane : ℕ) (counts : List ℕ) → lane < length counts → AreCounts size counts → sum (take lane counts) + slice_index counts lane ≤ size.pages
lane_within size lane counts lt are = omega (arith, sum_take lane counts lt, sum_take_few (lane + 1) counts, are.all)

-- all lanes
pub lanes_counted : (size : Size) (lane : ℕ) (counts : List ℕ) → length counts ≤ lane → AreCounts size counts → sum (take lane counts) ≡ size.pages
lanes_counted size lane counts past are = ap (λ (xs : List ℕ). sum xs) (take_all lane counts past) ∙ are.all
