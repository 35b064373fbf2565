-- The run of a number among all runs of a bench.
use Rattle.std.proofs.Common.{◌≡◌, ◌≤◌, ◌<◌, ◌+◌, ◌*◌, ◌⊎◌, ◌^◌, ◌++◌, ◌∷◌, [], ℕ, zero, suc, List, Option, inl, inr, length, take, get_or, refl, sym, ◌∙◌, ap, subst, append_assoc, length-append, arith}
use Rattle.std.proofs.lemmas.{Bool.cases_lt, List.{append-nil, take_all}}
use Rattle.disk.specs.Facts.{counted}
use Rattle.bench_sweep.specs.{declared.points.{BenchKind.{BenchKind, TheVariants.{Cuts, Fails}}, Caller.Caller}, Points.callers}
use Rattle.bench_sweep.{specs.Shown.{fill_at, runs_each, HasFewer, IsNthRun}, proofs.Written.{runs_more, total}}
use Rattle.bench_sweep.specs.Swept.{Cell, all_points, cell, points_from, runs_at, runs_of, spot}
use Rattle.simdisk.specs.declared.fill.Fill.{Fill}

-- a run stands at that place, from 0
record At (cells : List Cell) (place : ℕ) (run : Cell) : Type 0 where
  pub before : List Cell
  pub later : List Cell
  pub all : cells ≡ before ++ run ∷ later
  pub at : length before ≡ place

in_front : (xs ys : List Cell) (place : ℕ) (run : Cell) → At xs place run → At (xs ++ ys) place run
in_front xs ys place run a = record {
  before = a.before;
  later = a.later ++ ys;
  all = ap (λ zs. zs ++ ys) a.all ∙ append_assoc a.before (run ∷ a.later) ys;
  at = a.at;
}

behind : (xs ys : List Cell) (m place : ℕ) (run : Cell) → length xs ≡ m → At ys place run → At (xs ++ ys) (m + place) run
behind xs ys m place run long a = record {
  before = xs ++ a.before;
  later = a.later;
  all = ap (λ zs. xs ++ zs) a.all ∙ sym (append_assoc xs a.before (run ∷ a.later));
  at = length-append xs a.before ∙ ap (λ k. k + length a.before) long ∙ ap (λ k. m + k) a.at;
}

at_as : (cells : List Cell) (m n : ℕ) (run : Cell) → m ≡ n → At cells m run → At cells n run
at_as cells m n run e a = subst (λ k. At cells k run) e a

-- ---- of a point
of_point : (kind : BenchKind) (caller : Caller) (number r : ℕ) → r < runs_each kind → At (runs_of kind caller number) r (cell caller number (fill_at kind r))
of_point Cuts caller number zero less = record { before = []; later = _; all = refl; at = refl }
of_point Cuts caller number (suc zero) less = record { before = cell caller number (fill_at Cuts 0) ∷ []; later = _; all = refl; at = refl }
of_point Cuts caller number (suc (suc zero)) less = record { before = cell caller number (fill_at Cuts 0) ∷ cell caller number (fill_at Cuts 1) ∷ []; later = _; all = refl; at = refl }
of_point Cuts caller number (suc (suc (suc zero))) less = record { before = cell caller number (fill_at Cuts 0) ∷ cell caller number (fill_at Cuts 1) ∷ cell caller number (fill_at Cuts 2) ∷ []; later = _; all = refl; at = refl }
of_point Cuts caller number (suc (suc (suc (suc zero)))) less =
    record { before = cell caller number (fill_at Cuts 0) ∷ cell caller number (fill_at Cuts 1) ∷ cell caller number (fill_at Cuts 2) ∷ cell caller number (fill_at Cuts 3) ∷ []; later = []; all = refl; at = refl }
of_point Cuts caller number (suc (suc (suc (suc (suc r))))) less = absurd (omega (arith, less))
of_point Fails caller number zero less = record { before = []; later = []; all = refl; at = refl }
of_point Fails caller number (suc r) less = absurd (omega (arith, less))

point_long : (kind : BenchKind) (caller : Caller) (number : ℕ) → length (runs_of kind caller number) ≡ runs_each kind
point_long Cuts caller number = refl
point_long Fails caller number = refl

-- ---- of a caller
abbrev runs_from : BenchKind → Caller → ℕ → ℕ → List Cell
runs_from kind caller first n = runs_at kind (points_from caller first n)

runs_step : (kind : BenchKind) (caller : Caller) (first n : ℕ) → runs_from kind caller first (suc n) ≡ runs_from kind caller first n ++ runs_of kind caller (counted first n)
runs_step kind caller first n =
    runs_more kind (points_from caller first n) (spot caller (counted first n) ∷ []) ∙ ap (λ zs. runs_from kind caller first n ++ zs) (append-nil (runs_of kind caller (counted first n)))

at_step : (kind : BenchKind) (caller : Caller) (first n place : ℕ) (run : Cell) → At (runs_from kind caller first n ++ runs_of kind caller (counted first n)) place run → At (runs_from kind caller first (suc n)) place run
at_step kind caller first n place run a = subst (λ zs. At zs place run) (sym (runs_step kind caller first n)) a

caller_long : (kind : BenchKind) (caller : Caller) (first n : ℕ) → length (runs_from kind caller first n) ≡ n * runs_each kind
caller_long kind caller first zero = let none : 0 ≡ 0 * runs_each kind = omega arith in none
caller_long kind caller first (suc n) =
    ap length (runs_step kind caller first n) ∙ length-append (runs_from kind caller first n) (runs_of kind caller (counted first n)) ∙ ap (λ k. k + length (runs_of kind caller (counted first n))) (caller_long kind caller first n)
    ∙ ap (λ k. n * runs_each kind + k) (point_long kind caller (counted first n)) ∙ (let more : n * runs_each kind + runs_each kind ≡ suc n * runs_each kind = omega arith in more)

of_caller : (kind : BenchKind) (caller : Caller) (first n q r : ℕ) → q < n → r < runs_each kind → At (runs_from kind caller first n) (q * runs_each kind + r) (cell caller (counted first q) (fill_at kind r))
of_caller kind caller first zero q r less within = absurd (omega (arith, less))
of_caller kind caller first (suc n) q r less within = by (λ below. of_caller kind caller first n q r below within) (cases_lt q n)
  where
    here : At (runs_from kind caller first (suc n)) (n * runs_each kind + r) (cell caller (counted first n) (fill_at kind r))
    here = at_step kind caller first n _ _ (behind (runs_from kind caller first n) (runs_of kind caller (counted first n)) (n * runs_each kind) r _ (caller_long kind caller first n) (of_point kind caller (counted first n) r within))

    by : (q < n → At (runs_from kind caller first n) (q * runs_each kind + r) (cell caller (counted first q) (fill_at kind r))) → (q < n) ⊎ (n ≤ q)
        → At (runs_from kind caller first (suc n)) (q * runs_each kind + r) (cell caller (counted first q) (fill_at kind r))
    by before (inl below) = at_step kind caller first n _ _ (in_front (runs_from kind caller first n) (runs_of kind caller (counted first n)) _ _ (before below))
    by before (inr last) =
        let same : n ≡ q = omega (arith, less, last) in
        subst (λ k. At (runs_from kind caller first (suc n)) (k * runs_each kind + r) (cell caller (counted first k) (fill_at kind r))) same here

-- ---- of all
abbrev all_runs : BenchKind → List Caller → List ℕ → List Cell
all_runs kind cs ns = runs_at kind (all_points cs ns)

all_step : (kind : BenchKind) (c : Caller) (cs : List Caller) (n : ℕ) (ns : List ℕ) → all_runs kind (c ∷ cs) (n ∷ ns) ≡ runs_from kind c 1 n ++ all_runs kind cs ns
all_step kind c cs n ns = runs_more kind (points_from c 1 n) (all_points cs ns)

all_long : (kind : BenchKind) (cs : List Caller) (ns : List ℕ) → length ns ≡ length cs → length (all_runs kind cs ns) ≡ total ns * runs_each kind
all_long kind [] [] same = let none : 0 ≡ 0 * runs_each kind = omega arith in none
all_long kind [] (n ∷ ns) same = absurd (omega (arith, same))
all_long kind (c ∷ cs) [] same = absurd (omega (arith, same))
all_long kind (c ∷ cs) (n ∷ ns) same =
    ap length (all_step kind c cs n ns) ∙ length-append (runs_from kind c 1 n) (all_runs kind cs ns) ∙ ap (λ k. k + length (all_runs kind cs ns)) (caller_long kind c 1 n)
    ∙ ap (λ k. n * runs_each kind + k) (all_long kind cs ns (omega (arith, same))) ∙ (let more : n * runs_each kind + total ns * runs_each kind ≡ (n + total ns) * runs_each kind = omega arith in more)

of_all : (kind : BenchKind) (cs : List Caller) (ns : List ℕ) (i q r : ℕ) (d : Caller) → length ns ≡ length cs → i < length cs → q < get_or ns i 0 → r < runs_each kind
    → At (all_runs kind cs ns) ((total (take i ns) + q) * runs_each kind + r) (cell (get_or cs i d) (counted 1 q) (fill_at kind r))
of_all kind [] ns i q r d same less below within = absurd (omega (arith, less))
of_all kind (c ∷ cs) [] i q r d same less below within = absurd (omega (arith, same))
of_all kind (c ∷ cs) (n ∷ ns) zero q r d same less below within =
    subst (λ zs. At zs ((0 + q) * runs_each kind + r) (cell c (counted 1 q) (fill_at kind r))) (sym (all_step kind c cs n ns))
    (at_as _ _ _ _ (let e : q * runs_each kind + r ≡ (0 + q) * runs_each kind + r = omega arith in e) (in_front (runs_from kind c 1 n) (all_runs kind cs ns) _ _ (of_caller kind c 1 n q r below within)))
of_all kind (c ∷ cs) (n ∷ ns) (suc i) q r d same less below within =
    subst (λ zs. At zs ((n + total (take i ns) + q) * runs_each kind + r) (cell (get_or cs i d) (counted 1 q) (fill_at kind r))) (sym (all_step kind c cs n ns))
    (at_as _ _ _ _ (let e : n * runs_each kind + ((total (take i ns) + q) * runs_each kind + r) ≡ (n + total (take i ns) + q) * runs_each kind + r = omega arith in e)
    (behind (runs_from kind c 1 n) (all_runs kind cs ns) (n * runs_each kind) _ _ (caller_long kind c 1 n) (of_all kind cs ns i q r d (omega (arith, same)) (omega (arith, less)) below within)))

-- ---- by its number
-- it is one of the caller of that place, and so many points stand before it
pub nth_run : (kind : BenchKind) (counts : List ℕ) (number place i at : ℕ) (caller d : Caller) (fill : Option Fill) → length counts ≡ 5 → i < 5 → caller ≡ get_or callers i d → fill ≡ fill_at kind place → number ≡ (total (take i counts) + at) * runs_each kind + place + 1 → place < runs_each kind
    → at < get_or counts i 0 → at + 1 < 2 ^ 64 → IsNthRun kind counts number (cell caller (at + 1) fill)
nth_run kind counts number place i at caller d fill five less is is_fill nth within below small =
    let found = of_all kind callers counts i at place d five less below within in
    let call : counted 1 at ≡ at + 1 = omega (arith, small) in
    let C : Caller → Type 0 = λ c. At (all_runs kind callers counts) ((total (take i counts) + at) * runs_each kind + place) (cell c (at + 1) (fill_at kind place)) in
    let N : ℕ → Type 0 = λ n. At (all_runs kind callers counts) ((total (take i counts) + at) * runs_each kind + place) (cell (get_or callers i d) n (fill_at kind place)) in
    let F : Option Fill → Type 0 = λ f. At (all_runs kind callers counts) ((total (take i counts) + at) * runs_each kind + place) (cell caller (at + 1) f) in
    let a = subst F (sym is_fill) (subst C (sym is) (subst N call found)) in
    record { before = a.before; later = a.later; all = a.all; nth = nth ∙ ap (λ k. k + 1) (sym a.at) }

-- there are fewer
pub fewer_runs : (kind : BenchKind) (counts : List ℕ) (number all rest place i : ℕ) → length counts ≡ 5 → 5 ≤ i → all ≡ total (take i counts) + rest → number ≡ all * runs_each kind + place + 1 → HasFewer kind counts number
fewer_runs kind counts number all rest place i five end is nth =
    let whole : total (take i counts) ≡ total counts = ap total (take_all i counts (omega (arith, five, end))) in
    let long = all_long kind callers counts five in
    let same : number ≡ (total counts + rest) * runs_each kind + place + 1 = nth ∙ ap (λ k. k * runs_each kind + place + 1) (is ∙ ap (λ k. k + rest) whole) in
    inr (omega (arith, long, same))
