-- Two scripts that differ in rows of turns alone: the line in which they part.
use Rattle.std.proofs.Common.{◌≡◌, ◌∙◌, ◌==◌, ◌<◌, ◌+◌, ◌-◌, ℕ, suc, Bool, true, false, List, [], ◌∷◌, ◌++◌, None, Some, Ok, Err, Result, inl, inr, if◌then◌else◌, min, get_or, take, drop, length, refl, ap, ap₂, sym, subst, arith, add-one, length-append}
use Rattle.std.{specs.{Prelude.{All, IfErr, IfOk}, Option.option_to_list}, proofs.Math.Seq.{drop-cons, take-append_seam, take-suc}}
use Rattle.std.proofs.lemmas.List.{append-nil, length-drop, take-append-drop, take_rest}
use Rattle.std.proofs.lemmas.List.Elements.{All-append, All-drop, All-head, All-nil, All-push, All-take}
use Rattle.board_model.specs.{Shapes.Size, declared.refusal.Refusal.{Refusal, TheVariants.Memory}}
use Rattle.script_lang.specs.{Lines.IsLineInRange, Scripts.{Gives, Script, script_of}, Spellings.script_text, Views.view}
use Rattle.script_lang.specs.declared.line.Line.{Line}
use Rattle.script_lang.specs.declared.scripts.Script as code
use Rattle.script_lang.specs.declared.line.Line.TheVariants as lines
use Rattle.bench_schedules.specs.Orders.{AreOrderOf, is_other, more_turns, seen_by}
use Rattle.sbigdb.specs.Begins.{PartsAt, both_turn, is_same_row, turns_of_both}

-- ---- what tells lines apart
no_true : false ≡ true → ⊥
no_true e = let never : ⊥ = cc in never

-- the first line is no row of turns
abbrev begins_other : List Line → Bool
begins_other [] = false
begins_other (x ∷ xs) = is_other x

-- the lines after the first
abbrev behind_first : List Line → List Line
behind_first [] = []
behind_first (x ∷ xs) = xs

-- ---- the same front, as a hart sees it, may be left out
more_cancel : (n : ℕ) (xs ys : List Line) → more_turns n xs ≡ more_turns n ys → xs ≡ ys
more_cancel n [] [] e = refl
more_cancel n [] (lines.Turn h m ∷ ys) e = let never : ⊥ = cc in absurd never
more_cancel n [] (y ∷ ys) e = e
more_cancel n (lines.Turn h m ∷ xs) [] e = let never : ⊥ = cc in absurd never
more_cancel n (lines.Turn h m ∷ xs) (lines.Turn g k ∷ ys) e =
    let same : n + m ≡ n + k = cc in
    let count : m ≡ k = omega arith in
    cc
more_cancel n (lines.Turn h m ∷ xs) (y ∷ ys) e = absurd (no_true (ap begins_other e))
more_cancel n (x ∷ xs) [] e = e
more_cancel n (x ∷ xs) (lines.Turn g k ∷ ys) e = absurd (no_true (sym (ap begins_other e)))
more_cancel n (x ∷ xs) (y ∷ ys) e = e

seen_other : (h : ℕ) (x : Line) (more : List Line) → is_other x ≡ true → seen_by h (x ∷ more) ≡ lines.Turn h 0 ∷ x ∷ seen_by h more
unfolding seen_by
seen_other h (lines.Turn by n) more never = let no : ⊥ = cc in absurd no
seen_other h x more other = refl

seen_behind : (h : ℕ) (front a b : List Line) → seen_by h (front ++ a) ≡ seen_by h (front ++ b) → seen_by h a ≡ seen_by h b
unfolding seen_by
seen_behind h [] a b e = e
seen_behind h (lines.Turn by n ∷ more) a b e = seen_behind h more a b (more_cancel _ (seen_by h (more ++ a)) (seen_by h (more ++ b)) e)
seen_behind h (line ∷ more) a b e = seen_behind h more a b (ap (λ (xs : List Line). behind_first (behind_first xs)) e)

-- ---- a line of both
same_others : (x y : Line) (a b : List Line) → is_other x ≡ true → is_other y ≡ true → seen_by 0 (x ∷ a) ≡ seen_by 0 (y ∷ b) → x ≡ y
same_others x y a b one other e = let first = seen_other 0 x a one in let second = seen_other 0 y b other in cc

same_row : (x y : Line) (a b : List Line) → is_same_row x y ≡ true → seen_by 0 (x ∷ a) ≡ seen_by 0 (y ∷ b) → x ≡ y
same_row (lines.Turn h n) (lines.Turn g m) a b is e = grind arith
same_row (lines.Turn h n) y a b is e = absurd (no_true is)
same_row x y a b is e = same_others x y a b refl is e

same_itself : (x : Line) → is_same_row x x ≡ true
same_itself (lines.Turn h n) = grind arith
same_itself x = refl

-- ---- the line at a place
pub split_here : (l : List Line) (i : ℕ) (x : Line) → i < length l → x ≡ get_or l i x → l ≡ take i l ++ (x ∷ drop (suc i) l)
split_here l i x within is =
    sym (take-append-drop i l) ∙ ap (λ (r : List Line). take i l ++ r) (drop-cons l i x within ∙ ap (λ (z : Line). z ∷ drop (suc i) l) (sym is))

pub take_here : (l : List Line) (i : ℕ) (x : Line) → i < length l → x ≡ get_or l i x → take (suc i) l ≡ take i l ++ x ∷ []
take_here l i x within is = take-suc l i x within ∙ ap (λ (z : Line). take i l ++ (z ∷ [])) (sym is)

first_here : (l : List Line) (i : ℕ) (x line : Line) (a : List Line) → i < length l → x ≡ get_or l i x → drop i l ≡ line ∷ a → x ≡ line
first_here l i x line a within is rest = let here = drop-cons l i x within in cc

pub one_more_same : (own other : List Line) (x y : Line) (i : ℕ) → AreOrderOf own other → i < length own → i < length other → x ≡ get_or own i x → y ≡ get_or other i y
    → take i own ≡ take i other → is_same_row x y ≡ true → take (i + 1) own ≡ take (i + 1) other
one_more_same own other x y i order within too one two same row =
    let mine = split_here own i x within one in
    let theirs = split_here other i y too two in
    let seen : seen_by 0 (take i own ++ (y ∷ drop (suc i) other)) ≡ seen_by 0 (take i own ++ (x ∷ drop (suc i) own)) =
    ap (λ (f : List Line). seen_by 0 (f ++ (y ∷ drop (suc i) other))) same ∙ ap (seen_by 0) (sym theirs) ∙ order 0 ∙ ap (seen_by 0) mine in
    let equal = same_row x y (drop (suc i) own) (drop (suc i) other) row (sym (seen_behind 0 (take i own) (y ∷ drop (suc i) other) (x ∷ drop (suc i) own) seen)) in
    rw add-one (take_here own i x within one ∙ ap (λ (f : List Line). f ++ x ∷ []) same ∙ ap (λ (z : Line). take i other ++ z ∷ []) equal ∙ sym (take_here other i y too two))

pub part_here : (own other : List Line) (x y : Line) (i : ℕ) → i < length own → i < length other → x ≡ get_or own i x → y ≡ get_or other i y → is_same_row x y ≡ false
    → (line : Line) (a b : List Line) → drop i own ≡ line ∷ a → drop i other ≡ line ∷ b → ⊥
part_here own other x y i within too one two apart line a b mine theirs =
    let first = first_here own i x line a within one mine in
    let second = first_here other i y line b too two theirs in
    let itself = same_itself line in
    cc

pub part_at_end : (own other : List Line) (i : ℕ) → i ≡ min (length own) (length other) → (line : Line) (a b : List Line) → drop i own ≡ line ∷ a → drop i other ≡ line ∷ b → ⊥
part_at_end own other i is line a b mine theirs =
    let first : length own - i ≡ suc (length a) = sym (length-drop i own) ∙ ap length mine in
    let second : length other - i ≡ suc (length b) = sym (length-drop i other) ∙ ap length theirs in
    omega arith

-- ---- the turns that both make then
pub both_first : (left right : List Line) (x y : Line) → 0 < length left → 0 < length right → x ≡ get_or left 0 x → y ≡ get_or right 0 y
    → option_to_list (turns_of_both x y) ≡ both_turn left right
both_first [] right x y some too one two = absurd (omega arith)
both_first (a ∷ left) [] x y some too one two = absurd (omega arith)
both_first (a ∷ left) (b ∷ right) x y some too one two = ap (λ (z : Line). option_to_list (turns_of_both z y)) one ∙ ap (λ (z : Line). option_to_list (turns_of_both a z)) two

pub none_left : (left right : List Line) → length left ≡ 0 → both_turn left right ≡ []
none_left [] right none = refl
none_left (a ∷ left) right none = absurd (omega arith)

pub none_right : (left right : List Line) → length right ≡ 0 → both_turn left right ≡ []
none_right [] right none = refl
none_right (a ∷ left) [] none = refl
none_right (a ∷ left) (b ∷ right) none = absurd (omega arith)

-- the rest of each, as it is cut out
pub both_rest : (n : ℕ) (own other seen : List Line) → seen ≡ other
    → both_turn (take (length own - n) (drop n own)) (take (length seen - n) (drop n seen)) ≡ both_turn (drop n own) (drop n other)
both_rest n own other seen same = ap₂ both_turn (take_rest own n) (take_rest seen n ∙ ap (drop n) same)

both_ranged : (size : Size) (x y : Line) → IsLineInRange size x → IsLineInRange size y → All (IsLineInRange size) (option_to_list (turns_of_both x y))
both_ranged size (lines.Turn h n) (lines.Turn g m) one other =
    elim (h == g) as (λ v. All (IsLineInRange size) (option_to_list (if v then Some (lines.Turn h (min n m)) else None))) [
      | true ↦ All-push (IsLineInRange size) [] (lines.Turn h (min n m)) (All-nil (IsLineInRange size)) (one.0, (omega arith, omega arith))
      | false ↦ All-nil (IsLineInRange size)
    ]
both_ranged size (lines.Turn h n) y one other = All-nil (IsLineInRange size)
both_ranged size x y one other = All-nil (IsLineInRange size)

next_ranged : (size : Size) (left right : List Line) → All (IsLineInRange size) left → All (IsLineInRange size) right → All (IsLineInRange size) (both_turn left right)
next_ranged size [] right mine theirs = All-nil (IsLineInRange size)
next_ranged size (x ∷ left) [] mine theirs = All-nil (IsLineInRange size)
next_ranged size (x ∷ left) (y ∷ right) mine theirs = both_ranged size x y (All-head (IsLineInRange size) x left mine) (All-head (IsLineInRange size) y right theirs)

-- ---- up to there
pub stands_ranged : (own other : List Line) (n : ℕ) (lines : List Line) → lines ≡ take n other ++ both_turn (drop n own) (drop n other)
    → (size : Size) → All (IsLineInRange size) own → All (IsLineInRange size) other → All (IsLineInRange size) lines
stands_ranged own other n lines is size mine theirs =
    subst (All (IsLineInRange size)) (sym is)
    (All-append (IsLineInRange size) (take n other) (both_turn (drop n own) (drop n other)) (All-take (IsLineInRange size) n other theirs)
    (next_ranged size (drop n own) (drop n other) (All-drop (IsLineInRange size) n own mine) (All-drop (IsLineInRange size) n other theirs)))

pub parts_there : (own other : List Line) (n : ℕ) (lines : List Line) → take n own ≡ take n other
    → ((line : Line) (a b : List Line) → drop n own ≡ line ∷ a → drop n other ≡ line ∷ b → ⊥)
    → lines ≡ take n other ++ both_turn (drop n own) (drop n other) → PartsAt own other lines
parts_there own other n lines same apart is = record {
  front = take n own;
  left = drop n own;
  right = drop n other;
  of_own = sym (take-append-drop n own);
  of_other = sym (take-append-drop n other) ∙ ap (λ (f : List Line). f ++ drop n other) (sym same);
  parts = apart;
  stands = is ∙ ap (λ (f : List Line). f ++ both_turn (drop n own) (drop n other)) (sym same);
}

pub parts_nowhere : (own : List Line) → PartsAt own own own
parts_nowhere own = record {
  front = own;
  left = [];
  right = [];
  of_own = sym (append-nil own);
  of_other = sym (append-nil own);
  parts = λ line a b mine theirs. let never : ⊥ = cc in never;
  stands = sym (append-nil own);
}

-- ---- a text that ends by a line feed
pub all_but_last : (text bytes : List ℕ) → text ≡ bytes ++ 10 ∷ [] → take (length text - 1) text ≡ bytes
all_but_last text bytes is =
    let size : length text ≡ length bytes + 1 = ap length is ∙ length-append bytes (10 ∷ []) in
    let count : length text - 1 ≡ length bytes = omega arith in
    ap (λ (n : ℕ). take n text) count ∙ ap (take (length bytes)) is ∙ take-append_seam bytes (10 ∷ [])

pub reads_back : (r : Result code.Script Refusal) (said : Script) (bytes : List ℕ) → Gives view r (script_of bytes) → bytes ≡ script_text said → script_of (script_text said) ≡ Ok said → IfOk r (λ script. view script ≡ said)
reads_back (Ok script) said bytes gives is reads = let same = sym gives ∙ ap script_of is ∙ reads in cc
reads_back (Err e) said bytes gives is reads = tt

pub refused_back : (r : Result code.Script Refusal) (said : Script) (bytes : List ℕ) → Gives view r (script_of bytes) → bytes ≡ script_text said → script_of (script_text said) ≡ Ok said → IfErr r (λ e. e ≡ Memory)
refused_back (Ok script) said bytes gives is reads = tt
refused_back (Err e) said bytes (inl want) is reads = want
refused_back (Err e) said bytes (inr fault) is reads = let same = sym fault ∙ ap script_of is ∙ reads in let never : ⊥ = cc in absurd never

pub same_script : (read : Result Script Refusal) (a b : Script) → read ≡ Ok a → read ≡ Ok b → a ≡ b
same_script read a b one other = let same = sym one ∙ other in cc
