-- Turns that are noted in a history.
use Rattle.std.proofs.Common.{◌≡◌, ◌≤◌, ◌<◌, ◌+◌, inl, inr, ℕ, Bool, true, false, not, List, [], ◌∷◌, ◌++◌, refl, sym, ap, ◌∙◌, subst, arith}
use Rattle.std.{specs.Prelude.All, proofs.lemmas.List.Elements.{All-push, All-nil, All-cons, All-head, All-tail}}
use Rattle.board_model.specs.Shapes.{Size}
use Rattle.sbi.specs.{Words.ends, declared.words.Word.Word}
use Rattle.script_lang.specs.{Lines.IsLineInRange, declared.line.Line.Line}
use Rattle.script_lang.specs.declared.line.Line.TheVariants as lines
use Rattle.simdisk.specs.declared.fill.Fill.{Fill}
use Rattle.debug_session.specs.{Pasts.IsAdded, Notes.{AreInRange, Joins, Leaves}}
use Rattle.report_lines.specs.declared.printed.Answer.{Answer}
use Rattle.bench_report.{specs.{Bench.Bench, Steps.Moves, Agree.fills_after}, proofs.RunLines.{fills_snoc, run_snoc}}
use Rattle.bench_report.specs.{declared.rows.TurnRow.TurnRow, Rows.{RowMoves, made_in, goes_on, is_off, IsWithin}}
use Rattle.bench_report.proofs.Joins.{went_then, lost_then}
use Rattle.bench_report.specs.declared.rows.TurnRow.TheVariants as rows

-- ---- one line more at the end of a list
pub snoc_same : {A : Type 0} (xs ys : List A) (a b : A) → xs ++ a ∷ [] ≡ ys ++ b ∷ [] → (xs ≡ ys) × (a ≡ b)
snoc_same {A = A} [] [] a b e = let same : a ≡ b = cc in (refl, same)
snoc_same {A = A} [] (y ∷ ys) a b e = absurd (none ys e)
  where
    none : (zs : List A) → a ∷ [] ≡ y ∷ (zs ++ b ∷ []) → ⊥
    none [] f = let no : ⊥ = cc in no
    none (z ∷ zs) f = let no : ⊥ = cc in no
snoc_same {A = A} (x ∷ xs) [] a b e = absurd (none xs e)
  where
    none : (zs : List A) → x ∷ (zs ++ a ∷ []) ≡ b ∷ [] → ⊥
    none [] f = let no : ⊥ = cc in no
    none (z ∷ zs) f = let no : ⊥ = cc in no
snoc_same {A = A} (x ∷ xs) (y ∷ ys) a b e =
    let head : x ≡ y = cc in
    let tail : xs ++ a ∷ [] ≡ ys ++ b ∷ [] = cc in
    let rest = snoc_same xs ys a b tail in
    (let same : x ∷ xs ≡ y ∷ ys = ap (λ (zs : List A). x ∷ zs) rest.0 ∙ ap (λ (z : A). z ∷ ys) head in same, rest.1)

pub leaves_more : (size : Size) (start : Bench) (past : List Line) (mid : Bench) (line : Line) (a : Answer) (new : Bench) → Leaves size start past mid → Moves size line mid a new → Leaves size start (past ++ line ∷ []) new
leaves_more size start past mid line a new (answers, run) moves = (answers ++ a ∷ [], run_snoc size past start answers mid line a new run moves)

pub ranges_more : (size : Size) (past : List Line) (line : Line) → AreInRange size past → IsLineInRange size line → AreInRange size (past ++ line ∷ [])
ranges_more size past line are is = All-push (IsLineInRange size) past line are is

-- ---- turns
joins_if : (size : Size) (start : Bench) (past : List Line) (b : Bench) (e : Bool) → (e ≡ false → Joins size start true past b) → Joins size start (not e) past b
joins_if size start past b true holds = tt
joins_if size start past b false holds = holds refl

-- two rows that are the same are of one hart, and of as many turns
hart_in : (a c d f : ℕ) → lines.Turn a c ≡ lines.Turn d f → a ≡ d
hart_in a c d f e = cc

count_in : (a c d f : ℕ) → lines.Turn a c ≡ lines.Turn d f → c ≡ f
count_in a c d f e = cc

-- of two ends of the same lines by a row each is the other
row_before : (size : Size) (start : Bench) (h n g m : ℕ) (w : Word) (old before first : List Line) (mid b : Bench) → old ≡ before ++ lines.Turn h n ∷ [] → old ≡ first ++ lines.Turn g m ∷ []
    → Leaves size start first mid → RowMoves size g (rows.Made m w) mid b → Leaves size start before mid × RowMoves size h (rows.Made n w) mid b
row_before size start h n g m w old before first mid b is was left went =
    let same = snoc_same before first (lines.Turn h n) (lines.Turn g m) (sym is ∙ was) in
    let hart : g ≡ h = hart_in g m h n (sym same.1) in
    let count : m ≡ n = count_in g m h n (sym same.1) in (
      subst (λ (xs : List Line). Leaves size start xs mid) (sym same.0) left,
      subst (λ (x : ℕ). RowMoves size x (rows.Made n w) mid b) hart (subst (λ (x : ℕ). RowMoves size g (rows.Made x w) mid b) count went),
    )

made_noted : (size : Size) (start : Bench) (h k : ℕ) (word : Word) (joins : Bool) (old new : List Line) (b after : Bench) → IsAdded h k joins old new → Leaves size start old b → Joins size start joins old b → RowMoves size h (rows.Made k word) b after
    → Leaves size start new after × (ends word ≡ false → Joins size start true new after)
made_noted size start h k word joins old new b after (inl e) leaves was moves =
    let P : List Line → Type 0 = λ past. Leaves size start past after in
    (subst P (sym e) (leaves_more size start old b (lines.Turn h k) _ after leaves moves), λ runs. (old, h, k, b, word, e, leaves, moves, runs))
made_noted size start h k word false old new b after (inr (may, joined)) leaves was moves = absurd (let never : ⊥ = cc in never)
made_noted size start h k word true old new b after (inr (may, (before, n, is, e, few))) leaves (first, g, m, mid, w, was, left, went, runs) moves =
    let row = row_before size start h n g m w old before first mid b is was left went in
    let one = went_then size h n k w word mid b after runs row.1 moves in
    let P : List Line → Type 0 = λ past. Leaves size start past after in
    (subst P (sym e) (leaves_more size start before mid (lines.Turn h (n + k)) _ after row.0 one), λ goes. (before, h, n + k, mid, word, e, row.0, one, goes))

lost_noted : (size : Size) (start : Bench) (h k : ℕ) (joins : Bool) (old new : List Line) (b after : Bench) → IsAdded h k joins old new → Leaves size start old b → Joins size start joins old b → RowMoves size h (rows.Lost k) b after
    → Leaves size start new after
lost_noted size start h k joins old new b after (inl e) leaves was moves =
    let P : List Line → Type 0 = λ past. Leaves size start past after in
    subst P (sym e) (leaves_more size start old b (lines.Turn h k) _ after leaves moves)
lost_noted size start h k false old new b after (inr (may, joined)) leaves was moves = absurd (let never : ⊥ = cc in never)
lost_noted size start h k true old new b after (inr (may, (before, n, is, e, few))) leaves (first, g, m, mid, w, was, left, went, runs) moves =
    let row = row_before size start h n g m w old before first mid b is was left went in
    let one = lost_then size h n k w mid b after runs row.1 moves in
    let P : List Line → Type 0 = λ past. Leaves size start past after in
    subst P (sym e) (leaves_more size start before mid (lines.Turn h (n + k)) _ after row.0 one)

-- turns that were made are noted
pub row_noted : (size : Size) (start : Bench) (h : ℕ) (row : TurnRow) (joins : Bool) (old new : List Line) (b after : Bench) → (row ≡ rows.Off → ⊥) → IsAdded h (made_in row) joins old new → Leaves size start old b → Joins size start joins old b → RowMoves size h row b after
    → Leaves size start new after × Joins size start (goes_on row) new after
row_noted size start h rows.Off joins old new b after some added leaves was moves = absurd (some refl)
row_noted size start h (rows.Made n word) joins old new b after some added leaves was moves =
    let did = made_noted size start h n word joins old new b after added leaves was moves in
    (did.0, joins_if size start new after (ends word) did.1)
row_noted size start h (rows.Lost n) joins old new b after some added leaves was moves =
    (lost_noted size start h n joins old new b after added leaves was moves, tt)

-- and where none were, nothing is
pub nothing_noted : (size : Size) (start : Bench) (h : ℕ) (row : TurnRow) (joins : Bool) (past : List Line) (b after : Bench) → row ≡ rows.Off → Leaves size start past b → Joins size start joins past b → RowMoves size h row b after
    → Leaves size start past after × Joins size start joins past after
nothing_noted size start h row joins past b after off leaves was moves =
    let P : TurnRow → Type 0 = λ r. RowMoves size h r b after in
    let same : after ≡ b = subst P off moves in
    let Q : Bench → Type 0 = λ x. Leaves size start past x × Joins size start joins past x in
    subst Q (sym same) (leaves, was)

All-front : (P : Line → Type 0) (xs ys : List Line) → All P (xs ++ ys) → All P xs
All-front P [] ys all = All-nil P
All-front P (x ∷ xs) ys all = All-cons P x xs (All-head P x (xs ++ ys) all) (All-front P xs ys (All-tail P x (xs ++ ys) all))

pub added_ranges : (size : Size) (h k : ℕ) (joins : Bool) (old new : List Line) → IsAdded h k joins old new → h < size.harts → 1 ≤ k → k ≤ 1000000 → AreInRange size old → AreInRange size new
added_ranges size h k joins old new (inl e) hart some few are = subst (AreInRange size) (sym e) (ranges_more size old (lines.Turn h k) are (hart, (some, few)))
added_ranges size h k joins old new (inr (may, (before, n, is, e, most))) hart some few are =
    let all : AreInRange size (before ++ lines.Turn h n ∷ []) = subst (AreInRange size) is are in
    subst (AreInRange size) (sym e) (ranges_more size before (lines.Turn h (n + k)) (All-front (IsLineInRange size) before (lines.Turn h n ∷ []) all) (hart, (omega (arith, some), most)))

pub added_fills : (h k : ℕ) (joins : Bool) (old new : List Line) (fill : Fill) → IsAdded h k joins old new → fills_after new fill ≡ fills_after old fill
added_fills h k joins old new fill (inl e) = ap (λ (xs : List Line). fills_after xs fill) e ∙ fills_snoc old (lines.Turn h k) fill
added_fills h k joins old new fill (inr (may, (before, n, is, e, most))) =
    ap (λ (xs : List Line). fills_after xs fill) e ∙ fills_snoc before (lines.Turn h (n + k)) fill ∙ sym (fills_snoc before (lines.Turn h n) fill) ∙ ap (λ (xs : List Line). fills_after xs fill) (sym is)

-- as many as a line may have
pub within_made : (most : ℕ) (row : TurnRow) → (row ≡ rows.Off → ⊥) → IsWithin most row → (1 ≤ made_in row) × (made_in row ≤ most)
within_made most rows.Off some within = absurd (some refl)
within_made most (rows.Made n word) some within = within
within_made most (rows.Lost n) some within = within

pub not_off : (row : TurnRow) → is_off row ≡ false → row ≡ rows.Off → ⊥
not_off row made e = let no : true ≡ false = sym (ap is_off e) ∙ made in let never : ⊥ = cc in never

pub off_is : (row : TurnRow) → is_off row ≡ true → row ≡ rows.Off
off_is rows.Off e = refl
off_is (rows.Made n word) e = absurd (let never : ⊥ = cc in never)
off_is (rows.Lost n) e = absurd (let never : ⊥ = cc in never)
