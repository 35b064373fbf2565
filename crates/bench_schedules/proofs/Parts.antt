-- Parts of a schedule, which take the place of parts of the script.
use Rattle.std.proofs.Common.{◌≡◌, ◌∙◌, ℕ, ◌+◌, ◌<◌, ◌≤◌, ◌==◌, true, false, nat_lt, List, [], ◌∷◌, ◌++◌, length, take, drop, All, refl, sym, ap, subst, arith, append_assoc, ◌-◌, length-drop}
use Rattle.std.proofs.{Math.Seq.take-length, lemmas.{List.{take-append-drop, Sums.sum_by-cons}, Bool.Decides.nat_tests}}
use Rattle.std.proofs.lemmas.List.Elements.{All-append, All-cons, All-nil, All-head, All-tail}
use Rattle.board_model.specs.Shapes.{Size}
use Rattle.script_lang.specs.{Lines.{FitsLine, IsLineInRange, turns_in}, declared.line.Line.Line}
use Rattle.script_lang.specs.declared.line.Line.TheVariants as lines
use Rattle.bench_schedules.{specs.Orders.{IsTurn, named, IsRowOf, IsOrderFor, IsPartAdded, TakesPlaceOf}, proofs.SeenRows.order_of_rows}

module _ (P : Line → Type 0) where
  all_before : (xs ys : List Line) → All P (xs ++ ys) → All P xs
  all_before [] ys are = All-nil P
  all_before (x ∷ xs) ys are = All-cons P x xs (All-head P x (xs ++ ys) are) (all_before xs ys (All-tail P x (xs ++ ys) are))

  all_behind : (xs ys : List Line) → All P (xs ++ ys) → All P ys
  all_behind [] ys are = are
  all_behind (x ∷ xs) ys are = all_behind xs ys (All-tail P x (xs ++ ys) are)

  -- what holds of all lines of a middle part that is put in the place of another
  all_placed : (front old new back : List Line) → (All P old → All P new) → All P (front ++ (old ++ back)) → All P (front ++ (new ++ back))
  all_placed front old new back h are =
      let rest = all_behind front (old ++ back) are in
      All-append P front (new ++ back) (all_before front (old ++ back) are)
      (All-append P new back (h (all_before old back rest)) (all_behind old back rest))

-- a row names no turn of a hart that the board lacks
none_named : (size : Size) (h : ℕ) (row : List Line) → size.harts ≤ h → All (IsLineInRange size) row → named h row ≡ 0
none_named size h [] lacks are = refl
none_named size h (lines.Turn by n ∷ row) lacks are =
    let here = (All-head (IsLineInRange size) (lines.Turn by n) row are).0 in
    let e : (by == h) ≡ false = grind (arith, nat_tests, here, lacks) in
    let own : turns_in h (lines.Turn by n) ≡ 0 = rw e refl in
    omega (arith, sum_by-cons (turns_in h) (lines.Turn by n) row, own, none_named size h row lacks (All-tail (IsLineInRange size) (lines.Turn by n) row are))
none_named size h (line ∷ row) lacks are =
    omega (arith, sum_by-cons (turns_in h) line row, none_named size h row lacks (All-tail (IsLineInRange size) line row are))

-- and a row that names none has lines of that board's harts alone
ranged : (size : Size) (row : List Line) → All IsTurn row → ((h : ℕ) → size.harts ≤ h → named h row ≡ 0) → All (IsLineInRange size) row
ranged size [] are none = All-nil (IsLineInRange size)
ranged size (lines.Turn by n ∷ row) are none =
    let count = All-head IsTurn (lines.Turn by n) row are in
    let more : (h : ℕ) → size.harts ≤ h → named h row ≡ 0 = λ h lacks. omega (arith, none h lacks, sum_by-cons (turns_in h) (lines.Turn by n) row) in
    let e : (by == by) ≡ true = grind (arith, nat_tests) in
    let own : named by (lines.Turn by n ∷ row) ≡ n + named by row = sum_by-cons (turns_in by) (lines.Turn by n) row ∙ rw e refl in
    let has : by < size.harts = elim (nat_lt by size.harts) as (λ b. nat_lt by size.harts ≡ b → by < size.harts) [
      | true ↦ λ is. grind (arith, nat_tests, is)
      | false ↦ λ is. (let lacks : size.harts ≤ by = grind (arith, nat_tests, is) in absurd (omega (arith, none by lacks, own, count.0)))
    ] refl in
    All-cons (IsLineInRange size) (lines.Turn by n) row (has, count) (ranged size row (All-tail IsTurn (lines.Turn by n) row are) more)
ranged size (line ∷ row) are none = absurd (All-head IsTurn line row are)

fits : (row : List Line) → All IsTurn row → All FitsLine row
fits [] are = All-nil FitsLine
fits (lines.Turn by n ∷ row) are = All-cons FitsLine (lines.Turn by n) row tt (fits row (All-tail IsTurn (lines.Turn by n) row are))
fits (line ∷ row) are = absurd (All-head IsTurn line row are)

pub row_takes_place : (row order : List Line) → All IsTurn row → IsRowOf row order → TakesPlaceOf row order
row_takes_place row order are is front back = record {
  order = order_of_rows front row order back are is.0 is.1;
  ranges = λ size. all_placed (IsLineInRange size) front row order back
      (λ in_range. ranged size order is.0 (λ h lacks. is.1 h ∙ none_named size h row lacks in_range));
  fits = all_placed FitsLine front row order back (λ own. fits order is.0);
}

pub same_order : (those : List Line) → IsOrderFor those those
same_order those = record { order = λ h. refl; ranges = λ size are. are; fits = λ are. are }

pub order_twice : (a b c : List Line) → IsOrderFor a b → IsOrderFor b c → IsOrderFor a c
order_twice a b c first second = record {
  order = λ h. second.order h ∙ first.order h;
  ranges = λ size are. second.ranges size (first.ranges size are);
  fits = λ are. second.fits (first.fits are);
}

pub line_takes_place : (those : List Line) → TakesPlaceOf those those
line_takes_place those front back = same_order (front ++ (those ++ back))

-- the schedule so far with the lines that are left, one part further
pub part_made : (said made rest new : List Line) (n : ℕ) → IsOrderFor said (made ++ rest) → TakesPlaceOf (take n rest) new → IsOrderFor said ((made ++ new) ++ drop n rest)
part_made said made rest new n so_far takes =
    let P : List Line → Type 0 = λ r. IsOrderFor said (made ++ r) in
    let Q : List Line → Type 0 = λ r. IsOrderFor said r in
    subst Q (sym (append_assoc made new (drop n rest)))
    (order_twice said (made ++ (take n rest ++ drop n rest)) (made ++ (new ++ drop n rest)) (subst P (sym (take-append-drop n rest)) so_far) (takes made (drop n rest)))

-- all that is left after so many lines
pub left_behind : (rest : List Line) (n : ℕ) → take (length rest - n) (drop n rest) ≡ drop n rest
left_behind rest n = ap (λ k. take k (drop n rest)) (sym (length-drop n rest)) ∙ take-length (drop n rest)

pub part_placed : (said made rest new_made : List Line) (n : ℕ) → IsOrderFor said (made ++ rest) → IsPartAdded rest made new_made n
    → IsOrderFor said (new_made ++ take (length rest - n) (drop n rest))
part_placed said made rest new_made n so_far part =
    let P : List Line → Type 0 = λ m. IsOrderFor said (m ++ take (length rest - n) (drop n rest)) in
    let Q : List Line → Type 0 = λ r. IsOrderFor said ((made ++ part.new) ++ r) in
    subst P (sym part.added) (subst Q (sym (left_behind rest n)) (part_made said made rest part.new n so_far part.placed))
