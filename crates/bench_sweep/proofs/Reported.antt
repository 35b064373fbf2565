-- Reports that go on one after another, and the lines that they are of.
use Rattle.std.proofs.Common.{◌≡◌, ◌≤◌, ◌+◌, ℕ, Bool, List, [], ◌++◌, take, drop, length, Option, refl, sym, ◌∙◌, subst, arith, length-append}
use Rattle.std.proofs.lemmas.List.{length-drop, length-take, Elements.{All-take, All-drop}}
use Rattle.board_model.specs.Shapes.{Size}
use Rattle.script_lang.specs.{Lines.IsLineInRange, declared.line.Line.Line}
use Rattle.bench_sweep.specs.{declared.{points.BenchKind.BenchKind, rows.Row.Row, sweeps.SweepReport.SweepReport}, Reports.Reports}
use Rattle.bench_sweep.specs.Swept.{Spot, runs_at, IsPlainLine, AreSwept, Writes}
use Rattle.bench_sweep.proofs.Written.{runs_more, writes_none, writes_more, writes_as, writes_weaker}

-- no row
pub reports_none : {W : Type 0} (contents : W → Option (List ℕ)) (kind : BenchKind) (Is : Row → Type 0) (now : SweepReport W) → Reports contents kind Is now now []
reports_none contents kind Is now = record { same = refl; quiet = refl; wrote = writes_none _ Is _ _ }

-- and then more of them
pub reports_more : {W : Type 0} (contents : W → Option (List ℕ)) (kind : BenchKind) (Is : Row → Type 0) (a b c : SweepReport W) (xs ys : List Spot) → Reports contents kind Is a b xs → Reports contents kind Is b c ys → Reports contents kind Is a c (xs ++ ys)
reports_more contents kind Is a b c xs ys first second =
    let P : Bool → Type 0 = λ quiet. Writes quiet Is (contents b.out.now) (contents c.out.now) b.done c.done (runs_at kind ys) (length ys) in record {
      same = second.same ∙ first.same;
      quiet = second.quiet ∙ first.quiet;
      wrote = writes_as a.quiet Is _ _ _ _ _ _ _ _ (sym (runs_more kind xs ys)) (sym (length-append xs ys)) (writes_more a.quiet Is _ _ _ _ _ _ _ _ _ _ first.wrote (subst P first.quiet second.wrote));
    }

-- the same points
pub reports_as : {W : Type 0} (contents : W → Option (List ℕ)) (kind : BenchKind) (Is : Row → Type 0) (a b : SweepReport W) (xs ys : List Spot) → xs ≡ ys → Reports contents kind Is a b xs → Reports contents kind Is a b ys
reports_as contents kind Is a b xs ys e r = subst (λ (zs : List Spot). Reports contents kind Is a b zs) e r

-- rows of which another thing holds too
pub reports_weaker : {W : Type 0} (contents : W → Option (List ℕ)) (kind : BenchKind) (Is So : Row → Type 0) (a b : SweepReport W) (xs : List Spot) → ((row : Row) → Is row → So row) → Reports contents kind Is a b xs → Reports contents kind So a b xs
reports_weaker contents kind Is So a b xs then r = record { same = r.same; quiet = r.quiet; wrote = writes_weaker _ Is So _ _ _ _ _ _ then r.wrote }

-- ---- some of the lines
pub swept_take : (size : Size) (n : ℕ) (lines : List Line) → AreSwept size lines → AreSwept size (take n lines)
swept_take size n lines all = record { ranges = All-take (IsLineInRange size) n lines all.ranges; plain = All-take IsPlainLine n lines all.plain }

pub swept_drop : (size : Size) (n : ℕ) (lines : List Line) → AreSwept size lines → AreSwept size (drop n lines)
swept_drop size n lines all = record { ranges = All-drop (IsLineInRange size) n lines all.ranges; plain = All-drop IsPlainLine n lines all.plain }

pub stays_within : (from count n : ℕ) (lines : List Line) → from ≤ length lines → count ≤ length (take n (drop from lines)) → from + count ≤ length lines
stays_within from count n lines within few =
    let some = length-take n (drop from lines) in
    let rest = length-drop from lines in
    omega (arith, within, few, some, rest)
