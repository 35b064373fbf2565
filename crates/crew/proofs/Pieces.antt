-- Parts of a list, and a window over two lists, one after the other.
use Rattle.std.proofs.Common.{◌≡◌, ◌⊎◌, inl, inr, ◌+◌, ◌-◌, min, ◌*◌, ◌/◌, ◌%◌, ◌≤◌, ◌<◌, ◌^◌, ℕ, zero, suc, List, [], ◌∷◌, ◌++◌, Option, None, Some, take, drop, length, refl, sym, ◌∙◌, ap, arith}
use Rattle.std.proofs.Math.Nat.{mul-div-le, mul-add-div, mul-div_cancel_left, div-le_of_le-mul, div-le_self, div-mul-le_self}
use Rattle.std.proofs.lemmas.{Nat.{mul-le, le-div, div-add-mod', mod_below}, Bool.cases_lt}
use Rattle.std.proofs.lemmas.List.{take-append-drop, take-take, take_all, drop_all, drop-take, length-drop}
use Rattle.crew.specs.{Parts.{window, piece, own_of, begin_of, end_of, joined}, declared.part.Part.Part}

-- ---- a number of things
pub scaled_is : (k n of : ℕ) → 0 < of → k * (n / of) + k * (n % of) / of ≡ k * n / of
scaled_is k n of some =
    let all : k * n ≡ of * (k * (n / of)) + k * (n % of) = grind (arith, div-add-mod' n of) in
    sym (ap (λ (m : ℕ). m / of) all ∙ mul-add-div some (k * (n / of)) (k * (n % of)))

pub scaled_few : (k n of : ℕ) → k ≤ of → k * n / of ≤ n
scaled_few k n of within = div-le_of_le-mul of (mul-le k n of n within (let same : n ≤ n = omega arith in same))

pub quotient_few : (k n of : ℕ) → k ≤ of → k * (n / of) ≤ n
quotient_few k n of within =
    let most = mul-le k (n / of) of (n / of) within (let same : n / of ≤ n / of = omega arith in same) in
    let all = mul-div-le n of in
    omega (arith, most, all)

pub rest_few : (k n of : ℕ) → 0 < of → k ≤ of → of ≤ 4096 → k * (n % of) < 2 ^ 64
rest_few k n of some within most =
    let few = mod_below n of some in
    let all = mul-le k (n % of) 4096 4096 (let a : k ≤ 4096 = omega (arith, within, most) in a) (let b : n % of ≤ 4096 = omega (arith, few, most) in b) in
    omega (arith, all)

-- ---- windows
drop_none : {X : Type 0} (n : ℕ) → drop {A = X} n [] ≡ []
drop_none zero = refl
drop_none (suc n) = refl

take_none : {X : Type 0} (n : ℕ) → take {A = X} n [] ≡ []
take_none zero = refl
take_none (suc n) = refl

pub window_none : {X : Type 0} (from to : ℕ) → window {X = X} from to [] ≡ []
window_none from to = ap (take (to - from)) (drop_none from) ∙ take_none (to - from)

-- the same window, by equal ends
pub window_at : {X : Type 0} (a b c d : ℕ) (xs : List X) → a ≡ c → b ≡ d → window a b xs ≡ window c d xs
window_at a b c d xs e f = ap (λ (i : ℕ). window i b xs) e ∙ ap (λ (j : ℕ). window c j xs) f

pub window_more : {X : Type 0} (from to : ℕ) (xs ys : List X) → from ≤ to → window from to (xs ++ ys) ≡ window from to xs ++ window (from - length xs) (to - length xs) ys
window_more {X} from to [] ys order =
    window_at from to (from - 0) (to - 0) ys (omega arith) (omega arith) ∙ ap (λ (zs : List X). zs ++ window (from - 0) (to - 0) ys) (sym (window_none from to))
window_more zero zero (x ∷ xs) ys order =
    sym (ap (λ (n : ℕ). take n (drop (0 - length (x ∷ xs)) ys)) (let none : 0 - length (x ∷ xs) - (0 - length (x ∷ xs)) ≡ 0 = omega arith in none))
window_more {X} zero (suc to) (x ∷ xs) ys order =
    front (xs ++ ys)
    ∙ ap (λ (zs : List X). x ∷ zs) (window_more 0 to xs ys (omega arith))
    ∙ ap (λ (zs : List X). zs ++ window (0 - length xs) (to - length xs) ys) (sym (front xs))
    ∙ ap (λ (zs : List X). window 0 (suc to) (x ∷ xs) ++ zs) (window_at (0 - length xs) (to - length xs) (0 - length (x ∷ xs)) (suc to - length (x ∷ xs)) ys (omega arith) (omega arith))
  where
    front : (zs : List X) → window 0 (suc to) (x ∷ zs) ≡ x ∷ window 0 to zs
    front zs = ap (λ (n : ℕ). take n (x ∷ zs)) (let a : suc to - 0 ≡ suc (to - 0) = omega arith in a)
window_more (suc from) zero (x ∷ xs) ys order = absurd (omega (arith, order))
window_more {X} (suc from) (suc to) (x ∷ xs) ys order =
    behind (xs ++ ys) ∙ window_more from to xs ys (omega (arith, order))
    ∙ ap (λ (zs : List X). zs ++ window (from - length xs) (to - length xs) ys) (sym (behind xs))
    ∙ ap (λ (zs : List X). window (suc from) (suc to) (x ∷ xs) ++ zs) (window_at (from - length xs) (to - length xs) (suc from - length (x ∷ xs)) (suc to - length (x ∷ xs)) ys (omega arith) (omega arith))
  where
    behind : (zs : List X) → window (suc from) (suc to) (x ∷ zs) ≡ window from to zs
    behind zs = ap (λ (n : ℕ). take n (drop from zs)) (let a : suc to - suc from ≡ to - from = omega arith in a)

-- a window that goes beyond the list
pub window_cut : {X : Type 0} (from to : ℕ) (xs : List X) → from ≤ to → window from to xs ≡ window (min from (length xs)) (min to (length xs)) xs
window_cut from to xs order = by (cases_lt from (length xs)) (cases_lt to (length xs))
  where
    by : (from < length xs) ⊎ (length xs ≤ from) → (to < length xs) ⊎ (length xs ≤ to) → window from to xs ≡ window (min from (length xs)) (min to (length xs)) xs
    by (inl a) (inl b) = window_at from to (min from (length xs)) (min to (length xs)) xs (omega (arith, a)) (omega (arith, b))
    by (inl a) (inr b) =
        let long = length-drop from xs in
        take_all (to - from) (drop from xs) (omega (arith, long, b)) ∙ sym (take_all (length xs - from) (drop from xs) (omega (arith, long)))
        ∙ window_at from (length xs) (min from (length xs)) (min to (length xs)) xs (omega (arith, a)) (omega (arith, b))
    by (inr a) b =
        ap (take (to - from)) (drop_all from xs a) ∙ take_none (to - from)
        ∙ ap (λ n. take n (drop (min from (length xs)) xs)) (let none : 0 ≡ min to (length xs) - min from (length xs) = omega (arith, a, order) in none)

-- ---- parts
take_plus : {X : Type 0} (n m : ℕ) (xs : List X) → take n xs ++ take m (drop n xs) ≡ take (n + m) xs
take_plus n m xs =
    ap (λ ls. ls ++ take m (drop n xs)) (sym (take-take n (n + m) xs (omega arith))) ∙ ap (λ ls. take n (take (n + m) xs) ++ ls) (sym (drop-take n m xs))
    ∙ take-append-drop n (take (n + m) xs)

two_windows : {X : Type 0} (a b : ℕ) (xs : List X) → a ≤ b → take a xs ++ window a b xs ≡ take b xs
two_windows a b xs order = take_plus a (b - a) xs ∙ ap (λ n. take n xs) (let all : a + (b - a) ≡ b = omega (arith, order) in all)

pub window_all : {X : Type 0} (xs : List X) → window 0 (length xs) xs ≡ xs
window_all xs = take_all (length xs - 0) xs (omega arith)

-- what a run has of some things
pub own_is : {X : Type 0} (part : Option Part) (xs : List X) → own_of part xs ≡ window (begin_of part (length xs)) (end_of part (length xs)) xs
own_is None xs = sym (window_all xs)
own_is (Some part) xs = refl

quotients : (a b of : ℕ) → 0 < of → a ≤ b → a / of ≤ b / of
quotients a b of some order = let down = div-mul-le_self a of in le-div (a / of) b of some (omega (arith, down, order))

joined_is : {X : Type 0} (k of : ℕ) (xs : List X) → 0 < of → joined k of xs ≡ take (k * length xs / of) xs
joined_is zero of xs some =
    let few = div-le_self (0 * length xs) of in
    ap (λ n. take n xs) (let none : 0 ≡ 0 * length xs / of = omega (arith, few) in none)
joined_is (suc k) of xs some =
    let n = length xs in
    let less : k * n ≤ suc k * n = grind arith in
    let same : suc k - 1 ≡ k = omega arith in
    ap (λ ls. ls ++ piece (suc k) of xs) (joined_is k of xs some)
    ∙ ap (λ i. take (k * n / of) xs ++ window (i * n / of) (suc k * n / of) xs) same
    ∙ two_windows (k * n / of) (suc k * n / of) xs (quotients (k * n) (suc k * n) of some less)

pub joined_all : {X : Type 0} (of : ℕ) (xs : List X) → 0 < of → joined of of xs ≡ xs
joined_all of xs some = joined_is of of xs some ∙ ap (λ n. take n xs) (mul-div_cancel_left (length xs) some) ∙ take_all (length xs) xs (omega arith)
