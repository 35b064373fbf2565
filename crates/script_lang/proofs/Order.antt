-- Lines are read in their order.
use Rattle.std.proofs.Common.{◌≡◌, ℕ, ◌+◌, List, [], ◌∷◌, ◌++◌, length, Result, Ok, Err, append_assoc, refl, ap, sym, arith, add-zero}
use Rattle.board_model.specs.{declared.refusal.Refusal.Refusal, Shapes.Size}
use Rattle.script_lang.specs.{declared.line.Line.Line, Scripts.{◌>>>◌, said_of, rest_of}}

-- what two lists of lines say, one after the other
abbrev both : Result (List Line) Refusal → Result (List Line) Refusal → Result (List Line) Refusal
both front back = front >>> λ a. back >>> λ b. Ok (a ++ b)

both-assoc : (x y z : Result (List Line) Refusal) → both x (both y z) ≡ both (both x y) z
both-assoc (Err e) y z = refl
both-assoc (Ok a) (Err e) z = refl
both-assoc (Ok a) (Ok b) (Err e) = refl
both-assoc (Ok a) (Ok b) (Ok c) =
    let grouped : (a ++ b) ++ c ≡ a ++ (b ++ c) = simp append_assoc in
    ap Ok (sym grouped)

both-none : (x : Result (List Line) Refusal) → x ≡ both (Ok []) x
both-none (Ok a) = refl
both-none (Err e) = refl

pub rest_of-append : (size : Size) (n : ℕ) (front back : List (List ℕ)) → rest_of size n (front ++ back) ≡ both (rest_of size n front) (rest_of size (n + length front) back)
unfolding rest_of
rest_of-append size n [] back = rw add-zero (both-none (rest_of size n back))
rest_of-append size n (line ∷ front) back =
    let later : (n + 1) + length front ≡ n + length (line ∷ front) = omega arith in
    let more = rest_of-append size (n + 1) front back in
    rw (more, later) (both-assoc (said_of size n line) (rest_of size (n + 1) front) (rest_of size (n + length (line ∷ front)) back))
