-- Turns that are dealt out, one step after another.
use Rattle.std.proofs.Common.{◌≡◌, ◌≢◌, ◌∙◌, ℕ, ◌+◌, ◌-◌, ◌<◌, ◌≤◌, ◌==◌, Bool, true, false, List, [], ◌∷◌, ◌++◌, length, nat_lt, take, slice_set, All, if◌then◌else◌, refl, sym, ap, subst, arith}
use Rattle.std.proofs.{lemmas.{List.{get_or-set_same, get_or-set_other, get_or_past}, Bool.Decides.nat_tests}, Math.Seq.take-append_seam}
use Rattle.std.proofs.lemmas.List.{Elements.{All-append, All-cons, All-nil, All-head, All-tail}, Sums.sum_by_push, length-append}
use Rattle.script_lang.specs.{declared.line.Line.Line, Lines.turns_in}
use Rattle.script_lang.specs.declared.line.Line.TheVariants as lines
use Rattle.bench_schedules.specs.{declared.deal.Deal.Deal, Deals.GoesOn, Orders.{IsTurn, named, left_of, IsRowOf}}

pub goes_on_same : (a : Deal) → GoesOn a a
goes_on_same a = record { same = λ h. refl; turns = λ are. are }

pub goes_on_twice : (a b c : Deal) → GoesOn a b → GoesOn b c → GoesOn a c
goes_on_twice a b c first second = record {
  same = λ h. second.same h ∙ first.same h;
  turns = λ are. second.turns (first.turns are);
}

pub named_push : (h : ℕ) (made : List Line) (line : Line) → named h (made ++ line ∷ []) ≡ named h made + turns_in h line
named_push h made line = sum_by_push (turns_in h) made line

pub turns_push : (made : List Line) (line : Line) → All IsTurn made → IsTurn line → All IsTurn (made ++ line ∷ [])
turns_push made line are is = All-append IsTurn made (line ∷ []) are (All-cons IsTurn line [] is (All-nil IsTurn))

-- all lines but the last
cut_last : (made before rest : List Line) (line : Line) → made ≡ before ++ line ∷ [] → rest ≡ take (length made - 1) made → rest ≡ before
cut_last made before rest line e cut =
    let n : length made - 1 ≡ length before = omega (arith, ap length e, length-append before (line ∷ [])) in
    cut ∙ ap (λ k. take k made) n ∙ ap (take (length before)) e ∙ take-append_seam before (line ∷ [])

grown_by : (h by n more : ℕ) → turns_in h (lines.Turn by (n + more)) ≡ turns_in h (lines.Turn by n) + turns_in h (lines.Turn by more)
grown_by h by n more = by_case (by == h)
  where
    by_case : (b : Bool) → (if b then n + more else 0) ≡ (if b then n else 0) + (if b then more else 0)
    by_case true = refl
    by_case false = refl

-- the last line names more turns
pub named_grown : (h by n more : ℕ) (made before rest : List Line) → made ≡ before ++ lines.Turn by n ∷ [] → rest ≡ take (length made - 1) made
    → named h (rest ++ lines.Turn by (n + more) ∷ []) ≡ named h made + turns_in h (lines.Turn by more)
named_grown h by n more made before rest e cut =
    let old : named h made ≡ named h before + turns_in h (lines.Turn by n) = ap (named h) e ∙ named_push h before (lines.Turn by n) in
    let new : named h (rest ++ lines.Turn by (n + more) ∷ []) ≡ named h before + turns_in h (lines.Turn by (n + more)) =
    ap (λ r. named h (r ++ lines.Turn by (n + more) ∷ [])) (cut_last made before rest (lines.Turn by n) e cut) ∙ named_push h before (lines.Turn by (n + more)) in
    let both = grown_by h by n more in
    omega (arith, old, new, both)

all_before : (xs ys : List Line) → All IsTurn (xs ++ ys) → All IsTurn xs
all_before [] ys are = All-nil IsTurn
all_before (x ∷ xs) ys are = All-cons IsTurn x xs (All-head IsTurn x (xs ++ ys) are) (all_before xs ys (All-tail IsTurn x (xs ++ ys) are))

pub turns_grown : (by n more : ℕ) (made before rest : List Line) → made ≡ before ++ lines.Turn by n ∷ [] → rest ≡ take (length made - 1) made
    → 1 ≤ more → n + more ≤ 1000000 → All IsTurn made → All IsTurn (rest ++ lines.Turn by (n + more) ∷ [])
turns_grown by n more made before rest e cut some most are =
    let here : All IsTurn before = all_before before (lines.Turn by n ∷ []) (subst (All IsTurn) e are) in
    let P : List Line → Type 0 = λ r. All IsTurn (r ++ lines.Turn by (n + more) ∷ []) in
    subst P (sym (cut_last made before rest (lines.Turn by n) e cut)) (turns_push before (lines.Turn by (n + more)) here (omega (arith, some), most))

-- a hart is dealt some of its turns
left_then : (left : List ℕ) (by now h : ℕ) → by < length left → now ≤ left_of by left
    → left_of h (slice_set left by (left_of by left - now)) + turns_in h (lines.Turn by now) ≡ left_of h left
left_then left by now h within few = by_case (by == h) refl
  where
    by_case : (b : Bool) → (by == h) ≡ b → left_of h (slice_set left by (left_of by left - now)) + (if b then now else 0) ≡ left_of h left
    by_case true is =
        let e : by ≡ h = grind (arith, nat_tests, is) in
        let P : ℕ → Type 0 = λ k. left_of k (slice_set left by (left_of by left - now)) + now ≡ left_of k left in
        subst P e (omega (arith, get_or-set_same left by (left_of by left - now) 0 within, few))
    by_case false is =
        let e : h ≢ by = grind (arith, nat_tests, is) in
        omega (arith, get_or-set_other left by h (left_of by left - now) 0 e)

-- a hart with turns left is one of them
within : (left : List ℕ) (by : ℕ) → 0 < left_of by left → by < length left
within left by some = elim (nat_lt by (length left)) as (λ b. nat_lt by (length left) ≡ b → by < length left) [
  | true ↦ λ e. grind (arith, nat_tests, e)
  | false ↦ λ e. (let past : length left ≤ by = grind (arith, nat_tests, e) in absurd (omega (arith, some, get_or_past left by 0 past)))
] refl

pub gives : (old new : Deal) (by now : ℕ) → 0 < now → now ≤ left_of by old.left
    → new.left ≡ slice_set old.left by (left_of by old.left - now)
    → ((h : ℕ) → named h new.lines.items ≡ named h old.lines.items + turns_in h (lines.Turn by now))
    → (All IsTurn old.lines.items → All IsTurn new.lines.items) → GoesOn old new
gives old new by now some few left added are = record {
  same = λ h. omega (arith, added h, left_then old.left by now h (within old.left by (omega (arith, some, few))) few, ap (left_of h) left);
  turns = are;
}

-- nothing is left: the lines name what the row names
pub all_dealt : (old mid new : Deal) (turns : List ℕ) (row : List Line) → old.left ≡ turns → old.lines.items ≡ [] → GoesOn old mid → GoesOn mid new
    → ((h : ℕ) → h < 8 → left_of h new.left ≡ 0) → ((h : ℕ) → left_of h turns ≡ named h row) → ((h : ℕ) → 8 ≤ h → left_of h turns ≡ 0)
    → IsRowOf row new.lines.items
all_dealt old mid new turns row begun none first second dealt counted others =
    (second.turns (first.turns (subst (All IsTurn) (sym none) (All-nil IsTurn))), by)
  where
    by : (h : ℕ) → named h new.lines.items ≡ named h row
    by h =
        let whole = (goes_on_twice old mid new first second).same h in
        let no : named h old.lines.items ≡ 0 = ap (named h) none in
        let was : left_of h old.left ≡ left_of h turns = ap (left_of h) begun in
        elim (nat_lt h 8) as (λ b. nat_lt h 8 ≡ b → named h new.lines.items ≡ named h row) [
          | true ↦ λ is. (let few : h < 8 = grind (arith, nat_tests, is) in omega (arith, whole, no, was, dealt h few, counted h))
          | false ↦ λ is. (let past : 8 ≤ h = grind (arith, nat_tests, is) in omega (arith, whole, no, was, others h past, counted h))
        ] refl
