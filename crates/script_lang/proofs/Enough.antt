-- The first 65,537 lines of a script are enough: line 65,537 is a fault, so nothing after it is read.
use Rattle.std.proofs.Common.{◌≡◌, ℕ, ◌+◌, ◌-◌, ◌≤◌, ◌<◌, Bool, true, false, List, [], ◌∷◌, length, take, Ok, if◌then◌else◌, zero, suc, inl, inr, ⊎_elim, refl, ap, sym, ◌∙◌, arith}
use Rattle.std.proofs.lemmas.{List.{take-take, take_all, length-take-le}, Bool.cases_lt}
use Rattle.board_model.specs.Shapes.{Size}
use Rattle.script_lang.specs.{Words.words_of, Scripts.{◌>>>◌, whole_lines, rest_of, board_of, from_board, lines_from}}

rest_of-first : (size : Size) (n m : ℕ) (lines : List (List ℕ)) → n ≤ 65537 → n + m ≡ 65538 → rest_of size n (take m lines) ≡ rest_of size n lines
unfolding rest_of
rest_of-first size n zero lines l e = absurd (omega (arith, l, e))
rest_of-first size n (suc m) [] l e = refl
rest_of-first size n (suc m) (line ∷ more) l e =
    elim (cases_lt 65536 n) [
      | inr few ↦ let later = rest_of-first size (n + 1) m more (omega (arith, few)) (omega (arith, e)) in rw later refl
      | inl last ↦ let e : n ≡ 65537 = omega (arith, l, last) in rw e refl
    ]

from_board-first : (n m : ℕ) (line : List ℕ) (more : List (List ℕ)) → n ≤ 65536 → n + suc m ≡ 65538 → from_board n line (take m more) ≡ from_board n line more
from_board-first n m line more few e = λ i. board_of n (words_of line) >>> λ size. rest_of-first size (n + 1) m more (omega (arith, few)) (omega (arith, e)) i >>> λ lines. Ok (record { size = size; lines = lines })

lines_from-first : (n m : ℕ) (lines : List (List ℕ)) → n ≤ 65537 → n + m ≡ 65538 → lines_from n (take m lines) ≡ lines_from n lines
unfolding lines_from
lines_from-first n zero lines l e = absurd (omega (arith, l, e))
lines_from-first n (suc m) [] l e = refl
lines_from-first n (suc m) (line ∷ more) l e =
    elim (cases_lt 65536 n) [
      | inr few ↦
          let later = lines_from-first (n + 1) m more (omega (arith, few)) (omega (arith, e)) in
          rw (later, from_board-first n m line more few e) refl
      | inl last ↦ let e : n ≡ 65537 = omega (arith, l, last) in rw e refl
    ]

-- without an empty part at the end, a list that is long enough begins as it did
whole-first : (b : Bool) (k : ℕ) (parts : List (List ℕ)) → k < length parts → take k (if b then take (length parts - 1) parts else parts) ≡ take k parts
whole-first true k parts l = take-take k (length parts - 1) parts (omega (arith, l))
whole-first false k parts l = refl

-- the first parts of a script say what all of them say
pub first_enough : (parts : List (List ℕ)) → lines_from 1 (whole_lines (take 65538 parts)) ≡ lines_from 1 (whole_lines parts)
first_enough parts =
    ⊎_elim
    (λ more.
    let long = length-take-le 65538 parts (omega (arith, more)) in
    let back = whole-first _ 65537 (take 65538 parts) (omega (arith, long)) ∙ take-take 65537 65538 parts (omega arith) ∙ sym (whole-first _ 65537 parts (omega (arith, more))) in
    sym (lines_from-first 1 65537 (whole_lines (take 65538 parts)) (omega arith) refl) ∙ ap (lines_from 1) back ∙ lines_from-first 1 65537 (whole_lines parts) (omega arith) refl)
    (λ few. ap (λ ps. lines_from 1 (whole_lines ps)) (take_all 65538 parts few))
    (cases_lt 65538 (length parts))
