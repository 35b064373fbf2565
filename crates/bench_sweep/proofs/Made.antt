-- Rows of runs that were made.
use Rattle.std.proofs.Common.{◌≡◌, ◌≤◌, ◌<◌, ◌+◌, ◌-◌, ◌⊎◌, ◌++◌, ◌∷◌, [], ℕ, suc, List, None, inl, inr, length, take, drop, refl, sym, ◌∙◌, ap, subst, arith}
use Rattle.std.proofs.lemmas.List.{take-append-drop, take-take, take_all, drop_all, drop-drop, drop-take, length-drop, length-take-le, append-nil}
use Rattle.std.{proofs.lemmas.{Bool.cases_lt, Grind.flat_map-append}, specs.List.{flat_map, AllZip}}
use Rattle.board_model.specs.Shapes.{Size}
use Rattle.disk.specs.FaultState.{FaultState}
use Rattle.script_lang.specs.declared.line.Line.{Line}
use Rattle.bench_report.specs.{declared.power.Power.Power, Bench.Bench, Happens.{off, unpowered, armed_with}, Steps.Run, Views.fault_state}
use Rattle.report_lines.specs.declared.printed.Answer.{Answer}
use Rattle.bench_sweep.specs.declared.{ledgers.RunLedger.RunLedger, points.{BenchKind.{BenchKind, TheVariants.{Cuts, Fails}}, Point.Point}}
use Rattle.bench_sweep.specs.{declared.{points.Caller.Caller, rows.Row.Row, site.{Going.Going, Site.Site}}, Points.{fault_at, MadeCalls}}
use Rattle.bench_sweep.specs.{Made.{Lives, ComesTo, IsEnded, IsPlainRun, IsRunOf, RunsArmed, RunsWith}, Reports.{IsLeftBy, RunsAlong}}
use Rattle.bench_sweep.{specs.{Runs.{RunsAt, RanTo, IsEnd, IsLife}, Took.RunTook}, proofs.Took.took_both}
use Rattle.simdisk.specs.declared.SimDisk.{SimDisk}

-- ---- a run with a fault armed
-- by how it ended
pub runs_armed : (size : Size) (kind : BenchKind) (caller : Caller) (call : ℕ) (b : Bench) (those : List Line) (count : ℕ) (first new : Going) → count ≤ length those
    → (ran : RanTo size (armed_with (fault_at kind caller call) b) (take count those) first new) → IsEnded kind count (length those) ran.bench
    → (r : RunsArmed size kind caller call b those count) × (unpowered ran.bench ≡ unpowered r.end)
runs_armed size Cuts caller call b those count first new few ran (hit, none) =
    let s = ran.struck hit in (
      record {
        few = few;
        answers = ran.answers;
        end = ran.end;
        run = ran.run;
        ends = s.1;
        refused_none = (ap (λ (x : Bench). x.growths) (sym s.0) ∙ ran.runs.follows.enough, ap (λ (x : Bench). x.fault_state.own) (sym s.0) ∙ none);
      },
      ap (λ (x : Bench). unpowered x) s.0,
    )
runs_armed size Fails caller call b those count first new few ran (all, calm, none, struck) =
    let same = ran.calm calm in (
      record {
        few = few;
        answers = ran.answers;
        end = ran.end;
        run = ran.run;
        ends = (all, ap (λ (x : Bench). x.fault_state.armed) (sym same) ∙ struck);
        refused_none = (ap (λ (x : Bench). x.growths) (sym same) ∙ ran.runs.follows.enough, ap (λ (x : Bench). x.fault_state.own) (sym same) ∙ none);
      },
      ap (λ (x : Bench). unpowered x) same,
    )

-- and its row
pub runs_with : (size : Size) (kind : BenchKind) (at : Point) (b : Bench) (lines : List Line) (count : ℕ) (first new : Going) → count ≤ length lines
    → (ran : RanTo size (armed_with (fault_at kind at.caller at.call) b) (take count lines) first new) → IsEnded kind count (length lines) ran.bench
    → (disk : SimDisk) (row : Row) → row.caller ≡ at.caller → row.number ≡ at.number → IsLeftBy size (off ran.bench) disk row → RunsWith size kind at.before b lines row
runs_with size kind at b lines count first new few ran ended disk row caller number left =
    let r = runs_armed size kind at.caller at.call b lines count first new few ran ended in
    let Q : Caller → Type 0 = λ who. (a : RunsArmed size kind who at.call b lines count) × (unpowered ran.bench ≡ unpowered a.end) in
    let armed = subst Q (sym caller) r in
    record { call = at.call; counts = number ∙ at.counts; count = count; armed = armed.0; at = off ran.bench; ended = off_ended kind ended; same = armed.1; disk = disk; left = left }
  where
    off_ended : (k : BenchKind) → IsEnded k count (length lines) ran.bench → IsEnded k count (length lines) (off ran.bench)
    off_ended Cuts e = e
    off_ended Fails e = e

-- over the first of some lines, of which a cut ended it
pub over_all : (size : Size) (before : ℕ) (b : Bench) (lines : List Line) (n : ℕ) → n ≤ length lines → (row : Row) → RunsWith size Cuts before b (take n lines) row → RunsWith size Cuts before b lines row
over_all size before b lines n few row r =
    let long = length-take-le n lines few in
    let a = r.armed in
    let P : List Line → Type 0 = λ ls. Run size (armed_with (fault_at Cuts row.caller r.call) b) ls a.answers a.end in record {
      call = r.call;
      counts = r.counts;
      count = r.count;
      armed = record {
        few = omega (arith, few, long, a.few);
        answers = a.answers;
        end = a.end;
        run = subst P (take-take r.count n lines (omega (arith, long, a.few))) a.run;
        ends = a.ends;
        refused_none = a.refused_none;
      };
      at = r.at;
      ended = r.ended;
      same = r.same;
      disk = r.disk;
      left = r.left;
    }

-- ---- lives
lives_more : (size : Size) (b : Bench) (lives : List (List Line)) (at : Bench) (life : List Line) (answers : List Answer) (end : Bench) → Lives size b lives at → Run size (unpowered at) life answers end → end.power ≡ None → Lives size b (lives ++ life ∷ []) (off end)
lives_more size b [] at life answers end is run none = let P : Bench → Type 0 = λ x. Run size (unpowered x) life answers end in (answers, end, subst P is run, none, refl)
lives_more size b (l ∷ ls) at life answers end (x, mid, ran, out, more) run none = (x, mid, ran, out, lives_more size (off mid) ls at life answers end more run none)

abbrev pub all_of : List (List Line) → List Line
all_of lives = flat_map (λ (life : List Line). life) lives

all_more : (lives : List (List Line)) (life : List Line) → all_of (lives ++ life ∷ []) ≡ all_of lives ++ life
all_more lives life = flat_map-append (λ (l : List Line). l) lives (life ∷ []) ∙ ap (λ ls. all_of lives ++ ls) (append-nil life)

pub take_plus : (n m : ℕ) (lines : List Line) → take n lines ++ take m (drop n lines) ≡ take (n + m) lines
take_plus n m lines =
    ap (λ ls. ls ++ take m (drop n lines)) (sym (take-take n (n + m) lines (omega arith))) ∙ ap (λ ls. take n (take (n + m) lines) ++ ls) (sym (drop-take n m lines))
    ∙ take-append-drop n (take (n + m) lines)

-- the lines after the first n, as a slice of all has them
pub rest_is : (n : ℕ) (lines : List Line) → take (length lines - n) (drop n lines) ≡ drop n lines
rest_is n lines = let long = length-drop n lines in take_all (length lines - n) (drop n lines) (omega (arith, long))

-- the lives up to a site of the plain run, and the site
pub record SoFar (size : Size) (first : Bench) (lines : List Line) (at : Site) : Type 0 where
  pub bench : Bench
  pub comes : ComesTo size first lines bench
  pub site : RunsAt size bench at

-- the last life too, to the end of the lines
pub record AllRan (size : Size) (first : Bench) (lines : List Line) (at : Site) : Type 0 where
  pub before : ℕ
  pub bench : Bench
  pub lives : ComesTo size first (take before lines) bench
  pub answers : List Answer
  pub end : Bench
  pub run : Run size (unpowered bench) (drop before lines) answers end
  pub site : RunsAt size (off end) at

-- one or the other, after n lines
abbrev pub Went : Size → Bench → List Line → ℕ → Site → Type 0
Went size first lines n at = SoFar size first (take n lines) at ⊎ ((length lines ≤ n) × AllRan size first lines at)

pub none_yet : (size : Size) (first : Bench) (lines : List Line) (at : Site) → RunsAt size first at → Went size first lines 0 at
none_yet size first lines at r = inl (record { bench = first; comes = record { lives = []; all = refl; run = refl }; site = r })

-- it is the first, where lines are left after them
pub sits_at : (size : Size) (first : Bench) (lines : List Line) (n : ℕ) (at : Site) → n < length lines → Went size first lines n at → SoFar size first (take n lines) at
sits_at size first lines n at less (inl f) = f
sits_at size first lines n at less (inr (all, f)) = absurd (omega (arith, less, all))

one_life : (size : Size) (first : Bench) (lines rest : List Line) (n m : ℕ) (at next : Site) → rest ≡ drop n lines → (f : SoFar size first (take n lines) at) → (l : IsLife size f.bench rest m next)
    → l.end.power ≡ None → SoFar size first (take (n + m) lines) next
one_life size first lines rest n m at next is f l none = record {
  bench = off l.end;
  comes = record {
    lives = f.comes.lives ++ take m rest ∷ [];
    all = all_more f.comes.lives (take m rest) ∙ ap (λ ls. ls ++ take m rest) f.comes.all ∙ ap (λ ls. take n lines ++ take m ls) is ∙ take_plus n m lines;
    run = lives_more size first f.comes.lives f.bench (take m rest) l.answers l.end f.comes.run l.run none;
  };
  site = l.left;
}

last_life : (size : Size) (first : Bench) (lines rest : List Line) (n m : ℕ) (at next : Site) → rest ≡ drop n lines → length rest ≤ m → (f : SoFar size first (take n lines) at)
    → IsLife size f.bench rest m next → AllRan size first lines next
last_life size first lines rest n m at next is all f l =
    let P : List Line → Type 0 = λ ls. Run size (unpowered f.bench) ls l.answers l.end in record {
      before = n;
      bench = f.bench;
      lives = f.comes;
      answers = l.answers;
      end = l.end;
      run = subst P (take_all m rest all ∙ is) l.run;
      site = l.left;
    }

long_rest : (n : ℕ) (lines rest : List Line) → rest ≡ drop n lines → n ≤ length lines → n + length rest ≡ length lines
long_rest n lines rest is few = let long = length-drop n lines in let same : length rest ≡ length (drop n lines) = ap (λ (ls : List Line). length ls) is in omega (arith, long, same, few)

-- one stretch more
pub went_more : (size : Size) (first : Bench) (lines rest : List Line) (n m : ℕ) (at next : Site) → rest ≡ drop n lines → n ≤ length lines → (f : SoFar size first (take n lines) at)
    → IsLife size f.bench rest m next → Went size first lines (n + m) next
went_more size first lines rest n m at next is few f l = by (cases_lt m (length rest))
  where
    by : (m < length rest) ⊎ (length rest ≤ m) → Went size first lines (n + m) next
    by (inl less) = inl (one_life size first lines rest n m at next is f l (l.stops less))
    by (inr all) = inr (let long = long_rest n lines rest is few in omega (arith, all, long), last_life size first lines rest n m at next is all f l)

-- the last of them was run
pub ends_at : (size : Size) (first : Bench) (lines : List Line) (n : ℕ) (at : Site) → length lines ≤ n → (fault_state at.off.disk).own ≡ 0 → Went size first lines n at → IsEnd size first lines at
ends_at size first lines n at all none (inl f) = record {
  before = n;
  bench = f.bench;
  lives = f.comes;
  answers = [];
  end = unpowered f.bench;
  run = let P : List Line → Type 0 = λ ls. Run size (unpowered f.bench) ls [] (unpowered f.bench) in subst P (sym (drop_all n lines all)) refl;
  refused_none = (f.site.follows.enough, ap (λ (m : FaultState). m.own) f.site.agrees.2.0 ∙ none);
  at = f.bench;
  stands = f.site;
  same = refl;
}
ends_at size first lines n at all none (inr (long, f)) = record {
  before = f.before;
  bench = f.bench;
  lives = f.lives;
  answers = f.answers;
  end = f.end;
  run = f.run;
  refused_none = (f.site.follows.enough, ap (λ (m : FaultState). m.own) f.site.agrees.2.0 ∙ none);
  at = off f.end;
  stands = f.site;
  same = refl;
}

pub plain_run : (size : Size) (first : Bench) (lines : List Line) (site : Site) → IsEnd size first lines site → IsPlainRun size first lines
plain_run size first lines site e = record { before = e.before; bench = e.bench; lives = e.lives; answers = e.answers; end = e.end; run = e.run; refused_none = e.refused_none }

-- the disks of some lines more
pub took_on : (size : Size) (lines rest : List Line) (n m : ℕ) (old mid new : SimDisk) → rest ≡ drop n lines → RunTook size (take n lines) old mid → RunTook size (take m rest) mid new → RunTook size (take (n + m) lines) old new
took_on size lines rest n m old mid new is first second =
    let R : List Line → Type 0 = λ ls. RunTook size (take m ls) mid new in
    let L : List Line → Type 0 = λ ls. RunTook size ls old new in
    subst L (take_plus n m lines) (took_both size (take n lines) (take m (drop n lines)) old mid new first (subst R is second))

-- a row after n lines, and after some of the life under way
pub row_of : (size : Size) (kind : BenchKind) (caller : Caller) (before : ℕ) (origin : SimDisk) (first : Bench) (lines rest : List Line) (n : ℕ) (at : Site) → rest ≡ drop n lines → (f : SoFar size first (take n lines) at) → RunTook size (take n lines) origin at.off.disk
    → MadeCalls origin at.off.disk caller before → (row : Row) → RunsAlong size kind caller at before (unpowered f.bench) rest row → IsRunOf size kind origin first lines row
row_of size kind caller before origin first lines rest n at is f took counts row r =
    let M : Caller → Type 0 = λ x. MadeCalls origin r.disk x (before + r.made) in
    let P : List Line → Type 0 = λ ls. Run size (unpowered f.bench) (take r.more ls) r.answers r.at in
    let Q : List Line → Type 0 = λ ls. RunsWith size kind (before + r.made) r.at ls row in record {
      before = n;
      bench = f.bench;
      plain = f.comes;
      more = r.more;
      answers = r.answers;
      at = r.at;
      along = subst P is r.along;
      disk = r.disk;
      stands = r.stands;
      took = took_on size lines rest n r.more origin at.off.disk r.disk is took r.took;
      made = before + r.made;
      counted = subst M (sym r.who) (omega (arith, counts, r.counts));
      run = subst Q (ap (λ (ls : List Line). drop r.more ls) is ∙ drop-drop r.more n lines) r.runs;
    }

-- ---- counts of callers
pub zip_long : {A B : Type 0} (R : A → B → Type 0) (xs : List A) (ys : List B) → AllZip R xs ys → length ys ≡ length xs
zip_long R [] [] z = refl
zip_long R [] (y ∷ ys) z = absurd z
zip_long R (x ∷ xs) [] z = absurd z
zip_long R (x ∷ xs) (y ∷ ys) z = ap (λ (n : ℕ). suc n) (zip_long R xs ys z.1)

pub zip_more : {A B : Type 0} (R : A → B → Type 0) (xs : List A) (ys : List B) (x : A) (y : B) → AllZip R xs ys → R x y → AllZip R (xs ++ x ∷ []) (ys ++ y ∷ [])
zip_more R [] [] x y z r = (r, tt)
zip_more R [] (b ∷ ys) x y z r = absurd z
zip_more R (a ∷ xs) [] x y z r = absurd z
zip_more R (a ∷ xs) (b ∷ ys) x y z r = (z.0, zip_more R xs ys x y z.1 r)

-- they are the same however they were counted
pub zip_same : (from to : SimDisk) (cs : List Caller) (ms ns : List ℕ) → AllZip (MadeCalls from to) cs ms → AllZip (MadeCalls from to) cs ns → ms ≡ ns
zip_same from to [] [] [] a b = refl
zip_same from to [] [] (n ∷ ns) a b = absurd b
zip_same from to [] (m ∷ ms) ns a b = absurd a
zip_same from to (c ∷ cs) [] ns a b = absurd a
zip_same from to (c ∷ cs) (m ∷ ms) [] a b = absurd b
zip_same from to (c ∷ cs) (m ∷ ms) (n ∷ ns) a b =
    let first : m ≡ n = omega (arith, a.0, b.0) in
    ap (λ (k : ℕ). k ∷ ms) first ∙ ap (λ (ks : List ℕ). n ∷ ks) (zip_same from to cs ms ns a.1 b.1)
