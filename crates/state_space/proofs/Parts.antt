-- Parts of a list, end to end.
use Rattle.std.proofs.Common.{◌≡◌, ℕ, zero, suc, ◌+◌, ◌-◌, ◌*◌, ◌<◌, ◌≤◌, List, [], ◌∷◌, ◌++◌, length, take, drop, get_or, refl, sym, ap, ◌∙◌, arith, length-drop}
use Rattle.std.proofs.{lemmas.{List.{take-append-le, drop-append-le, take_all, drop_at, get_or_append_left}, Nat.mul-le}, Math.Nat.suc-mul}
use Rattle.std.specs.List.{slice_range}
use Rattle.state_space.specs.Begins.{begin_of}

-- a part stays where more is added at the end
pub part_stays : {X : Type 0} (xs ys : List X) (a b : ℕ) → a ≤ b → b ≤ length xs → slice_range (xs ++ ys) a b ≡ slice_range xs a b
part_stays xs ys a b le within =
    ap (take (b - a)) (drop-append-le a xs ys (omega arith))
    ∙ take-append-le (b - a) (drop a xs) ys (omega (arith, length-drop a xs))

-- and what was added is the last part
pub part_last : {X : Type 0} (xs ys : List X) (a b : ℕ) → a ≡ length xs → b ≡ a + length ys → slice_range (xs ++ ys) a b ≡ ys
part_last xs ys a b from to =
    ap (take (b - a)) (drop_at xs ys a (sym from))
    ∙ take_all (b - a) ys (omega arith)

pub row_within : (k count width : ℕ) → k < count → k * width + width ≤ count * width
row_within k count width lt = omega (arith, mul-le (suc k) width count width (omega arith) (omega arith), suc-mul k width)

-- where a part begins stays where another end is added
pub begin_stays : (ends more : List ℕ) (k : ℕ) → k ≤ length ends → begin_of (ends ++ more) k ≡ begin_of ends k
begin_stays ends more zero le = refl
begin_stays ends more (suc k) le = get_or_append_left ends more 0 k (omega arith)

-- a row of so many of that width stays where one more is added
pub row_stays : (old new key : List ℕ) (count width k : ℕ) → new ≡ old ++ key → length old ≡ count * width → k < count → slice_range new (k * width) (k * width + width) ≡ slice_range old (k * width) (k * width + width)
row_stays old new key count width k is whole lt =
    ap (λ xs. slice_range xs (k * width) (k * width + width)) is
    ∙ part_stays old key (k * width) (k * width + width) (omega arith) (omega (arith, row_within k count width lt))

-- words stay where more are added
pub words_stay : (old new key ends grown : List ℕ) (e k : ℕ) → new ≡ old ++ key → grown ≡ ends ++ e ∷ [] → k < length ends → begin_of ends k ≤ get_or ends k 0 → get_or ends k 0 ≤ length old → slice_range new (begin_of grown k) (get_or grown k 0) ≡ slice_range old (begin_of ends k) (get_or ends k 0)
words_stay old new key ends grown e k is grows lt le within =
    let begin : begin_of grown k ≡ begin_of ends k = ap (λ xs. begin_of xs k) grows ∙ begin_stays ends (e ∷ []) k (omega arith) in
    let end : get_or grown k 0 ≡ get_or ends k 0 = ap (λ xs. get_or xs k 0) grows ∙ get_or_append_left ends (e ∷ []) 0 k lt in
    ap (λ n. slice_range new n (get_or grown k 0)) begin
    ∙ ap (λ n. slice_range new (begin_of ends k) n) end
    ∙ ap (λ xs. slice_range xs (begin_of ends k) (get_or ends k 0)) is
    ∙ part_stays old key (begin_of ends k) (get_or ends k 0) le within
