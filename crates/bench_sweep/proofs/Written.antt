-- Rows that are written one after another, and counted.
use Rattle.std.proofs.Common.{◌≡◌, ◌⊎◌, inl, inr, ◌^◌, Bool, true, false, ◌<◌, ◌≤◌, ℕ, zero, suc, ◌+◌, ◌-◌, min, List, [], ◌∷◌, ◌++◌, Option, None, Some, length, map, take, drop, get_or, refl, sym, ◌∙◌, ap, subst, append_assoc, add_assoc, length-append, zero-add, add-one, arith}
use Rattle.std.{proofs.lemmas.{List.{append-nil, take_more, length-take-le}, Grind.flat_map-append, Bool.cases_lt}, specs.List.All}
use Rattle.std.proofs.lemmas.List.Elements.{All-nil, All-cons, All-head, All-tail, All-append, All-weaker}
use Rattle.std.{proofs.Math.Seq.{drop-append_seam, take-append_seam}, specs.Io.KnownBytes.{Appends, Keeps}}
use Rattle.crew.{specs.Parts.window, proofs.Pieces.{window_at, window_cut, window_more}}
use Rattle.bench_sweep.specs.declared.{plan.SweepPlan.SweepPlan, points.{BenchKind.{BenchKind, TheVariants.{Cuts, Fails}}, Caller.Caller}}
use Rattle.bench_sweep.specs.{Made.{BeginsOn, CallsIn, IsRunOf}, Points.callers, declared.{judges.Sweep.Sweep, rows.Row.Row}}
use Rattle.bench_sweep.specs.Rows.{row_text, sweep_text}
use Rattle.bench_sweep.specs.Swept.{Cell, Spot, spot, cell, cell_of, runs_of, runs_at, all_points, own_points, points_from, rows_text, GoesOn, Writes, WroteAll}
use Rattle.disk.specs.Facts.{counted}
use Rattle.simdisk.specs.declared.{SimDisk.SimDisk, fill.Fill.{Fill, TheVariants.{Byte, Alternating, Old, New}}}
use Rattle.board_model.{specs.Shapes.Size, proofs.Written.{appended, unwritten}}
use Rattle.script_lang.specs.declared.line.Line.{Line}
use Rattle.bench_report.specs.{Bench.Bench, Happens.unpowered}

-- what is handed on stays written
pub handed_on : (a b c : Option (List ℕ)) (x : List ℕ) → Appends a b x → Keeps b c → Appends a c x
handed_on None b c x h k = tt
handed_on (Some a) (Some b) (Some c) x h k = k ∙ h
handed_on (Some a) None c x h k = absurd h
handed_on (Some a) (Some b) None x h k = absurd k

-- the rows of two lists; a quiet bench writes none
text_more : (quiet : Bool) (rows more : List Row) → rows_text quiet (rows ++ more) ≡ rows_text quiet rows ++ rows_text quiet more
text_more true rows more = refl
text_more false rows more = flat_map-append (λ (row : Row). row_text row ++ 10 ∷ []) rows more

pub cells_more : (rows more : List Row) → map cell_of (rows ++ more) ≡ map cell_of rows ++ map cell_of more
cells_more [] more = refl
cells_more (r ∷ rows) more = ap (λ cs. cell_of r ∷ cs) (cells_more rows more)

stays : (n : ℕ) → GoesOn n n 0
stays n k e = omega (arith, e)

pub one_more : (m n : ℕ) → n ≡ counted m 1 → GoesOn m n 1
one_more m n is k e = omega (arith, is, e)

-- one row more
pub rows_one_more : (rows : List Row) (i : ℕ) (row d : Row) → i < length rows → row ≡ get_or rows i d → rows_text false (take i rows) ++ (row_text row ++ 10 ∷ []) ≡ rows_text false (take (i + 1) rows)
rows_one_more rows i row d less is =
    ap (λ (t : List ℕ). rows_text false (take i rows) ++ t) (sym (append-nil (row_text row ++ 10 ∷ [])) ∙ ap (λ (r : Row). rows_text false (r ∷ [])) is)
    ∙ sym (text_more false (take i rows) (get_or rows i d ∷ [])) ∙ ap (rows_text false) (sym (take_more rows i d less))

-- no row
text_none : (quiet : Bool) → [] ≡ rows_text quiet []
text_none true = refl
text_none false = refl

pub writes_none : (quiet : Bool) (Is : Row → Type 0) (now : Option (List ℕ)) (s : Sweep) → Writes quiet Is now now s s [] 0
writes_none quiet Is now s = record { rows = []; each = All-nil Is; text = (let P : List ℕ → Type 0 = λ t. Appends now now t in subst P (text_none quiet) (unwritten now)); cells = refl; points = stays s.points; runs = stays s.runs; right = refl }

goes_more : (a b c m n : ℕ) → GoesOn a b m → GoesOn b c n → GoesOn a c (m + n)
goes_more a b c m n first second k e = second (k + m) (first k e) ∙ ap (λ x. counted 0 x) (sum k m n)
  where
    sum : (k m n : ℕ) → k + m + n ≡ k + (m + n)
    sum k m n = omega arith

-- and then more of them
pub writes_more : (quiet : Bool) (Is : Row → Type 0) (a b c : Option (List ℕ)) (s t u : Sweep) (xs ys : List Cell) (m n : ℕ) → Writes quiet Is a b s t xs m → Writes quiet Is b c t u ys n → Writes quiet Is a c s u (xs ++ ys) (m + n)
writes_more quiet Is a b c s t u xs ys m n first second = record {
  rows = first.rows ++ second.rows;
  each = All-append Is first.rows second.rows first.each second.each;
  text = rw (text_more quiet first.rows second.rows) (appended a b c (rows_text quiet first.rows) (rows_text quiet second.rows) first.text second.text);
  cells = cells_more first.rows second.rows ∙ ap (λ zs. zs ++ map cell_of second.rows) first.cells ∙ ap (λ zs. xs ++ zs) second.cells;
  points = goes_more s.points t.points u.points m n first.points second.points;
  runs = rw (length-append first.rows second.rows) (goes_more s.runs t.runs u.runs (length first.rows) (length second.rows) first.runs second.runs);
  right = second.right ∙ first.right;
}

-- the same runs
pub writes_as : (quiet : Bool) (Is : Row → Type 0) (a b : Option (List ℕ)) (s t : Sweep) (xs ys : List Cell) (m n : ℕ) → xs ≡ ys → m ≡ n → Writes quiet Is a b s t xs m → Writes quiet Is a b s t ys n
writes_as quiet Is a b s t xs ys m n e f w =
    let P : List Cell → Type 0 = λ zs. Writes quiet Is a b s t zs m in
    let Q : ℕ → Type 0 = λ k. Writes quiet Is a b s t ys k in
    subst Q f (subst P e w)

-- rows of which another thing holds too
pub writes_weaker : (quiet : Bool) (Is So : Row → Type 0) (a b : Option (List ℕ)) (s t : Sweep) (xs : List Cell) (n : ℕ) → ((row : Row) → Is row → So row) → Writes quiet Is a b s t xs n → Writes quiet So a b s t xs n
writes_weaker quiet Is So a b s t xs n then w = record { rows = w.rows; each = All-weaker Is So then w.rows w.each; text = w.text; cells = w.cells; points = w.points; runs = w.runs; right = w.right }

-- rows of one point
pub each_at : (bench : BenchKind) (caller : Caller) (number : ℕ) (Is So : Row → Type 0) (rows : List Row) → ((row : Row) → row.caller ≡ caller → row.number ≡ number → Is row → So row) → map cell_of rows ≡ runs_of bench caller number → All Is rows → All So rows
each_at bench caller number Is So rows then cells each = by rows (subst (λ (xs : List Cell). All At xs) (sym cells) (all bench)) each
  where
    At : Cell → Type 0
    At x = (x.caller ≡ caller) × (x.number ≡ number)

    fills : (fs : List Fill) → All At (map (λ (fill : Fill). cell caller number (Some fill)) fs)
    fills [] = All-nil At
    fills (fill ∷ fs) = All-cons At (cell caller number (Some fill)) (map (λ (f : Fill). cell caller number (Some f)) fs) (refl, refl) (fills fs)

    all : (kind : BenchKind) → All At (runs_of kind caller number)
    all Cuts = fills (Byte 0 ∷ Byte 255 ∷ Alternating ∷ Old ∷ New ∷ [])
    all Fails = All-cons At (cell caller number None) [] (refl, refl) (All-nil At)

    by : (rows : List Row) → All At (map cell_of rows) → All Is rows → All So rows
    by [] at is = All-nil So
    by (row ∷ rows) at is =
        let here = All-head At (cell_of row) (map cell_of rows) at in
        All-cons So row rows (then row here.0 here.1 (All-head Is row rows is)) (by rows (All-tail At (cell_of row) (map cell_of rows) at) (All-tail Is row rows is))

-- ---- points of a caller
counted_on : (first m k : ℕ) → counted (counted first m) k ≡ counted first (m + k)
counted_on first m k = omega arith

-- points that follow on others
points_on : (caller : Caller) (first m n : ℕ) → points_from caller first m ++ points_from caller (counted first m) n ≡ points_from caller first (m + n)
points_on caller first m zero = append-nil (points_from caller first m) ∙ ap (points_from caller first) (let same : m ≡ m + 0 = omega arith in same)
points_on caller first m (suc n) =
    sym (append_assoc (points_from caller first m) (points_from caller (counted first m) n) (spot caller (counted (counted first m) n) ∷ []))
    ∙ ap (λ zs. zs ++ spot caller (counted (counted first m) n) ∷ []) (points_on caller first m n)
    ∙ ap (λ k. points_from caller first (m + n) ++ spot caller k ∷ []) (counted_on first m n)
    ∙ ap (points_from caller first) (let next : suc (m + n) ≡ m + suc n = omega arith in next)

pub points_long : (caller : Caller) (first n : ℕ) → length (points_from caller first n) ≡ n
points_long caller first zero = refl
points_long caller first (suc n) = length-append (points_from caller first n) (spot caller (counted first n) ∷ []) ∙ ap (λ (k : ℕ). k + 1) (points_long caller first n) ∙ (let next : n + 1 ≡ suc n = omega arith in next)

-- one more
pub next_point : (caller : Caller) (first done number : ℕ) → number ≡ counted first done → points_from caller first done ++ spot caller number ∷ [] ≡ points_from caller first (done + 1)
next_point caller first done number e = ap (λ n. points_from caller first done ++ spot caller n ∷ []) e ∙ ap (points_from caller first) (sym (add-one done))

-- those of a window of them
behind : {X : Type 0} (n : ℕ) (xs ys : List X) → length xs ≡ n → drop n (xs ++ ys) ≡ ys
behind n xs ys long = ap (λ (k : ℕ). drop k (xs ++ ys)) (sym long) ∙ drop-append_seam xs ys

front : {X : Type 0} (n : ℕ) (xs ys : List X) → length xs ≡ n → take n (xs ++ ys) ≡ xs
front n xs ys long = ap (λ (k : ℕ). take k (xs ++ ys)) (sym long) ∙ take-append_seam xs ys

points_within : (caller : Caller) (first from to n : ℕ) → from ≤ to → to ≤ n → window from to (points_from caller first n) ≡ points_from caller (counted first from) (to - from)
points_within caller first from to n order few =
    let all : from + (to - from + (n - to)) ≡ n = omega (arith, order, few) in
    let here = counted first from in
    let mine = points_from caller here (to - from) in
    let rest = points_from caller (counted here (to - from)) (n - to) in
    let parts : points_from caller first n ≡ points_from caller first from ++ (mine ++ rest) =
    ap (points_from caller first) (sym all) ∙ sym (points_on caller first from (to - from + (n - to))) ∙ ap (λ zs. points_from caller first from ++ zs) (sym (points_on caller here (to - from) (n - to))) in
    ap (λ zs. window from to zs) parts ∙ ap (take (to - from)) (behind from (points_from caller first from) (mine ++ rest) (points_long caller first from))
    ∙ front (to - from) mine rest (points_long caller here (to - from))

-- a window of `count` calls after `made` others, which may go beyond them
pub window_of_calls : (caller : Caller) (made count from to : ℕ) → from ≤ to → made + count < 2 ^ 64
    → points_from caller (made + min from count + 1) (min to count - min from count) ≡ window from to (points_from caller (made + 1) count)
window_of_calls caller made count from to order room =
    by (cases_lt (min from count) (min to count)) ∙ ap (λ (k : ℕ). window (min from k) (min to k) points) (sym (points_long caller (made + 1) count)) ∙ sym (window_cut from to points order)
  where
    points : List Spot
    points = points_from caller (made + 1) count

    by : (min from count < min to count) ⊎ (min to count ≤ min from count) → points_from caller (made + min from count + 1) (min to count - min from count) ≡ window (min from count) (min to count) points
    by (inl less) =
        let few : min to count ≤ count = omega arith in
        let first : made + min from count + 1 ≡ counted (made + 1) (min from count) = omega (arith, room, less, few) in
        let in_order : min from count ≤ min to count = omega (arith, less) in
        ap (λ (k : ℕ). points_from caller k (min to count - min from count)) first ∙ sym (points_within caller (made + 1) (min from count) (min to count) count in_order few)
    by (inr none) =
        let no_more : min to count - min from count ≡ 0 = omega (arith, none) in
        ap (λ (n : ℕ). points_from caller (made + min from count + 1) n) no_more ∙ ap (λ (n : ℕ). take n (drop (min from count) points)) (sym no_more)

-- the calls up to the next site
next_points : (caller : Caller) (made calls : ℕ) → made + calls < 2 ^ 64 → points_from caller 1 made ++ points_from caller (made + 1) calls ≡ points_from caller 1 (made + calls)
next_points caller made zero room = append-nil (points_from caller 1 made) ∙ ap (points_from caller 1) (let same : made ≡ made + 0 = omega arith in same)
next_points caller made (suc calls) room =
    ap (λ k. points_from caller 1 made ++ points_from caller k (suc calls)) (let first : made + 1 ≡ counted 1 made = omega (arith, room) in first) ∙ points_on caller 1 made (suc calls)

pub next_window : (caller : Caller) (from to made calls a b : ℕ) → from ≤ to → a ≡ from - made → b ≡ to - made → made + calls < 2 ^ 64
    → window from to (points_from caller 1 made) ++ window a b (points_from caller (made + 1) calls) ≡ window from to (points_from caller 1 (made + calls))
next_window caller from to made calls a b order e f room =
    let long = points_long caller 1 made in
    ap (λ zs. window from to (points_from caller 1 made) ++ zs)
    (window_at a b (from - length (points_from caller 1 made)) (to - length (points_from caller 1 made)) (points_from caller (made + 1) calls) (e ∙ ap (λ (k : ℕ). from - k) (sym long)) (f ∙ ap (λ (k : ℕ). to - k) (sym long)))
    ∙ sym (window_more from to (points_from caller 1 made) (points_from caller (made + 1) calls) order)
    ∙ ap (λ zs. window from to zs) (next_points caller made calls room)

-- ---- points of all callers
all_points_more : (cs : List Caller) (ns : List ℕ) (c : Caller) (n : ℕ) → length cs ≡ length ns → all_points (cs ++ c ∷ []) (ns ++ n ∷ []) ≡ all_points cs ns ++ points_from c 1 n
all_points_more [] [] c n e = append-nil (points_from c 1 n)
all_points_more [] (k ∷ ns) c n e = cc
all_points_more (d ∷ cs) [] c n e = cc
all_points_more (d ∷ cs) (k ∷ ns) c n e =
    ap (λ zs. points_from d 1 k ++ zs) (all_points_more cs ns c n (let f : length cs ≡ length ns = omega (arith, e) in f))
    ∙ sym (append_assoc (points_from d 1 k) (all_points cs ns) (points_from c 1 n))

abbrev pub total : List ℕ → ℕ
total [] = 0
total (n ∷ ns) = n + total ns

pub all_long : (cs : List Caller) (ns : List ℕ) → length cs ≡ length ns → length (all_points cs ns) ≡ total ns
all_long [] [] e = refl
all_long [] (k ∷ ns) e = cc
all_long (c ∷ cs) [] e = cc
all_long (c ∷ cs) (k ∷ ns) e =
    length-append (points_from c 1 k) (all_points cs ns) ∙ ap (λ (m : ℕ). m + length (all_points cs ns)) (points_long c 1 k)
    ∙ ap (λ (m : ℕ). k + m) (all_long cs ns (let f : length cs ≡ length ns = omega (arith, e) in f))

pub total_more : (ns : List ℕ) (n : ℕ) → total (ns ++ n ∷ []) ≡ total ns + n
total_more [] n = omega arith
total_more (k ∷ ns) n = ap (λ x. k + x) (total_more ns n) ∙ sym (add_assoc k (total ns) n)

-- one caller more
pub next_caller : (items : List Caller) (i : ℕ) (caller d : Caller) (counts : List ℕ) (n from to a b : ℕ) → i < length items → caller ≡ get_or items i d → length counts ≡ i → from ≤ to → a ≡ from - total counts → b ≡ to - total counts
    → window from to (all_points (take i items) counts) ++ window a b (points_from caller 1 n) ≡ window from to (all_points (take (i + 1) items) (counts ++ n ∷ []))
next_caller items i caller d counts n from to a b less is long order e f =
    let same : length (take i items) ≡ length counts = length-take-le i items (omega (arith, less)) ∙ sym long in
    let all = all_long (take i items) counts same in
    ap (λ zs. window from to (all_points (take i items) counts) ++ zs)
    (window_at a b (from - length (all_points (take i items) counts)) (to - length (all_points (take i items) counts)) (points_from caller 1 n) (e ∙ ap (λ (k : ℕ). from - k) (sym all)) (f ∙ ap (λ (k : ℕ). to - k) (sym all)))
    ∙ sym (window_more from to (all_points (take i items) counts) (points_from caller 1 n) order)
    ∙ ap (λ zs. window from to zs)
    (sym (all_points_more (take i items) counts caller n same) ∙ ap (λ c. all_points (take i items ++ c ∷ []) (counts ++ n ∷ [])) is
    ∙ ap (λ cs. all_points cs (counts ++ n ∷ [])) (sym (take_more items i d less)))

-- ---- runs of points
pub runs_more : (bench : BenchKind) (xs ys : List Spot) → runs_at bench (xs ++ ys) ≡ runs_at bench xs ++ runs_at bench ys
runs_more bench xs ys = flat_map-append (λ (s : Spot). runs_of bench s.caller s.number) xs ys

-- all rows, and then the last line
pub wrote_all : (plan : SweepPlan) (size : Size) (start : List (List ℕ)) (lines : List Line) (a b c : Option (List ℕ)) (s t : Sweep) (begin : ℕ) (first : Bench) (origin : SimDisk) (counts : List ℕ) (all : ℕ) → s.points ≡ 0 → s.runs ≡ 0 → s.wrong ≡ 0
    → BeginsOn size start (take begin lines) first origin → CallsIn size origin (unpowered first) (drop begin lines) counts → all ≡ length (all_points callers counts)
    → Writes plan.quiet (IsRunOf size plan.bench origin (unpowered first) (drop begin lines)) a b s t (runs_at plan.bench (own_points plan.part counts)) (length (own_points plan.part counts))
    → Appends b c (sweep_text plan.part all t ++ 10 ∷ []) → WroteAll plan size start lines a c t
wrote_all plan size start lines a b c s t begin first origin counts all no_point no_run no_wrong begins calls total wrote last =
    let L : ℕ → Type 0 = λ n. Appends b c (sweep_text plan.part n t ++ 10 ∷ []) in record {
      begin = begin;
      first = first;
      origin = origin;
      begins = begins;
      counts = counts;
      calls = calls;
      rows = wrote.rows;
      each = wrote.each;
      cells = wrote.cells;
      text = appended a b c (rows_text plan.quiet wrote.rows) (sweep_text plan.part (length (all_points callers counts)) t ++ 10 ∷ []) wrote.text (subst L total last);
      points = wrote.points 0 no_point ∙ ap (λ k. counted 0 k) (zero-add (length (own_points plan.part counts)));
      runs = wrote.runs 0 no_run ∙ ap (λ k. counted 0 k) (zero-add (length wrote.rows));
      right = wrote.right ∙ no_wrong;
    }

-- ---- runs of one list
-- one more of a list
pub map_more : {A B : Type 0} (f : A → B) (xs : List A) (i : ℕ) (x d : A) → i < length xs → x ≡ get_or xs i d → map f (take (i + 1) xs) ≡ map f (take i xs) ++ f x ∷ []
map_more {A = A} f xs i x d less is = ap (map f) (take_more xs i d less) ∙ snoc (take i xs) (get_or xs i d) ∙ ap (λ y. map f (take i xs) ++ f y ∷ []) (sym is)
  where
    snoc : (ys : List A) (y : A) → map f (ys ++ y ∷ []) ≡ map f ys ++ f y ∷ []
    snoc [] y = refl
    snoc (z ∷ ys) y = ap (λ zs. f z ∷ zs) (snoc ys y)
