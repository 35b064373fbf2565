-- Histories that are cut.
use Rattle.std.proofs.Common.{◌≡◌, ◌≤◌, ◌<◌, ◌+◌, ◌-◌, ℕ, zero, suc, List, [], ◌∷◌, ◌++◌, length, take, drop, get_or, refl, sym, ap, ◌∙◌, subst, arith, append_assoc}
use Rattle.std.{specs.Prelude.{All, replicate}, proofs.{Math.Seq.drop-cons, lemmas.Grind.flat_map-append}}
use Rattle.std.proofs.lemmas.List.{append-nil, replicate-append-replicate, take-append-drop}
use Rattle.std.proofs.lemmas.List.Elements.{All-append, All-cons, All-get_or, All-head, All-nil, All-tail, All-take}
use Rattle.board_model.specs.Shapes.{Size}
use Rattle.script_lang.specs.{Lines.IsLineInRange, declared.line.Line.Line}
use Rattle.script_lang.specs.declared.line.Line.TheVariants as lines
use Rattle.debug_session.specs.{Pasts.{IsRowCut, moments, singles, some_turns}, Notes.AreInRange, Ats.{IsBefore, IsPlace}}

All-back : (P : Line → Type 0) (xs ys : List Line) → All P (xs ++ ys) → All P ys
All-back P [] ys all = all
All-back P (x ∷ xs) ys all = All-back P xs ys (All-tail P x (xs ++ ys) all)

-- the row of a place is that of a hart of the board, with n turns
place_row : (size : Size) (h i k n : ℕ) (past after : List Line) → past ≡ take i past ++ lines.Turn h n ∷ after → AreInRange size past → IsLineInRange size (lines.Turn h n)
place_row size h i k n past after is are =
    let all : AreInRange size (take i past ++ lines.Turn h n ∷ after) = subst (AreInRange size) is are in
    All-head (IsLineInRange size) (lines.Turn h n) after (All-back (IsLineInRange size) (take i past) (lines.Turn h n ∷ after) all)

pub place_hart : (size : Size) (h i k : ℕ) (past : List Line) → IsPlace h i k past → AreInRange size past → h < size.harts
place_hart size h i k past (n, after, is, less) are = (place_row size h i k n past after is are).0

some_ranges : (size : Size) (h k n : ℕ) → IsLineInRange size (lines.Turn h n) → k ≤ n → AreInRange size (some_turns h k)
some_ranges size h zero n is few = All-nil (IsLineInRange size)
some_ranges size h (suc k) n is few =
    All-cons (IsLineInRange size) (lines.Turn h (suc k)) [] (is.0, (omega arith, omega (arith, is.1))) (All-nil (IsLineInRange size))

-- what is left is in the ranges of the board
left_ranges : (size : Size) (h i k n : ℕ) (past after : List Line) → past ≡ take i past ++ lines.Turn h n ∷ after → k ≤ n → AreInRange size past → AreInRange size (take i past ++ some_turns h k)
left_ranges size h i k n past after is few are =
    All-append (IsLineInRange size) (take i past) (some_turns h k) (All-take (IsLineInRange size) i past are) (some_ranges size h k n (place_row size h i k n past after is are) few)

pub cut_ranges : (size : Size) (h i k : ℕ) (past new : List Line) → IsPlace h i k past → new ≡ take i past ++ some_turns h k → AreInRange size past → AreInRange size new
cut_ranges size h i k past new (n, after, is, less) e are = subst (AreInRange size) (sym e) (left_ranges size h i k n past after is (omega (arith, less)) are)

pub row_cut_ranges : (size : Size) (h : ℕ) (old new : List Line) → IsRowCut h old new → AreInRange size old → AreInRange size new
row_cut_ranges size h old new (i, n, after, is, some, e) are = subst (AreInRange size) (sym e) (left_ranges size h i (n - 1) n old after is (omega arith) are)

-- the moments of k turns
some_moments : (h k : ℕ) → moments (some_turns h k) ≡ replicate k (lines.Turn h 1)
some_moments h zero = refl
some_moments h (suc k) = append-nil (replicate (suc k) (lines.Turn h 1))

-- those of what is left
pub left_moments : (h i k : ℕ) (past : List Line) → moments (take i past ++ some_turns h k) ≡ moments (take i past) ++ replicate k (lines.Turn h 1)
left_moments h i k past =
    flat_map-append singles (take i past) (some_turns h k) ∙ ap (λ (xs : List Line). moments (take i past) ++ xs) (some_moments h k)

split_row : (n k : ℕ) (turn : Line) → k < n → replicate n turn ≡ replicate k turn ++ turn ∷ replicate (n - suc k) turn
split_row n k turn less =
    let sum : k + suc (n - suc k) ≡ n = omega (arith, less) in
    ap (λ (x : ℕ). replicate x turn) (sym sum) ∙ sym (replicate-append-replicate k (suc (n - suc k)) turn)

-- the turn after what is left came next
pub place_before : (h i k : ℕ) (past new : List Line) → IsPlace h i k past → new ≡ take i past ++ some_turns h k → IsBefore h past new
place_before h i k past new (n, after, is, less) e =
    let turn = lines.Turn h 1 in
    let front : List Line = take i past in
    let rest : List Line = replicate (n - suc k) turn ++ moments after in
    let whole : moments past ≡ moments front ++ (replicate n turn ++ moments after) = ap moments is ∙ flat_map-append singles front (lines.Turn h n ∷ after) in
    let parted : replicate n turn ++ moments after ≡ replicate k turn ++ (turn ∷ rest) =
    ap (λ (xs : List Line). xs ++ moments after) (split_row n k turn less) ∙ append_assoc (replicate k turn) (turn ∷ replicate (n - suc k) turn) (moments after) in
    let left : moments new ≡ moments front ++ replicate k turn = ap moments e ∙ left_moments h i k past in
    (rest, whole ∙ ap (λ (xs : List Line). moments front ++ xs) parted ∙ sym (append_assoc (moments front) (replicate k turn) (turn ∷ rest)) ∙ ap (λ (xs : List Line). xs ++ turn ∷ rest) (sym left))

-- a row that stands in a history
pub place_at : (h i k n : ℕ) (past : List Line) (d : Line) → i < length past → get_or past i d ≡ lines.Turn h n → k < n → IsPlace h i k past
place_at h i k n past d there is less =
    let P : Line → Type 0 = λ line. past ≡ take i past ++ line ∷ drop (suc i) past in
    let here : past ≡ take i past ++ get_or past i d ∷ drop (suc i) past = sym (take-append-drop i past) ∙ ap (λ (xs : List Line). take i past ++ xs) (drop-cons past i d there) in
    (n, drop (suc i) past, subst P is here, less)

-- and has at least one turn
pub row_some : (size : Size) (h i n : ℕ) (past : List Line) (d : Line) → i < length past → AreInRange size past → get_or past i d ≡ lines.Turn h n → IsLineInRange size (lines.Turn h n)
row_some size h i n past d there are is = subst (IsLineInRange size) is (All-get_or (IsLineInRange size) past i d there are)
