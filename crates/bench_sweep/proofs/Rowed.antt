-- The rows of a point, and how they are written one point after another.
use Rattle.std.proofs.Common.{◌≡◌, ◌<◌, ◌+◌, ◌^◌, ◌++◌, ◌∷◌, [], ℕ, List, Option, length, map, sym, ◌∙◌, ap, subst, length-append, arith}
use Rattle.std.{proofs.lemmas.List.{Elements.{All-nil, All-cons, All-append, All-weaker}, append-nil}, specs.List.All}
use Rattle.disk.specs.Facts.{counted}
use Rattle.board_model.specs.Shapes.{Size}
use Rattle.script_lang.specs.declared.line.Line.{Line}
use Rattle.bench_report.specs.{Bench.Bench, Happens.unpowered}
use Rattle.crew.specs.Handed.{AreRows, TakesAll, Handed}
use Rattle.bench_sweep.specs.declared.{judging.PointRows.PointRows, points.{BenchKind.BenchKind, Caller.Caller}, rows.Row.Row}
use Rattle.bench_sweep.specs.{declared.{site.Site.Site, sweeps.SweepReport.SweepReport}, Runs.RunsAt}
use Rattle.bench_sweep.specs.Reports.{Keeps, Judged, IsOfCall, TakesPoint, Reports, RunsAlong}
use Rattle.bench_sweep.specs.Swept.{Cell, spot, cell_of, runs_of, points_from, GoesOn}
use Rattle.bench_sweep.proofs.{Written.{cells_more, each_at, next_point, one_more}, Reported.{reports_none, reports_more, reports_as}}

-- ---- rows of a point
pub judged_none : (Is : Row → Type 0) (now : PointRows) → now.rows.items ≡ [] → now.sweep.runs ≡ 0 → now.sweep.wrong ≡ 0 → Judged Is now []
judged_none Is now none runs right = record {
  each = subst (λ (rs : List Row). All Is rs) (sym none) (All-nil Is);
  cells = ap (λ (rs : List Row). map cell_of rs) none;
  runs = runs ∙ ap (λ (rs : List Row). counted 0 (length rs)) (sym none);
  right = right;
}

-- one more
pub judged_more : (Is : Row → Type 0) (old new : PointRows) (cells : List Cell) (made : Cell) → Judged Is old cells → Keeps Is old new made → Judged Is new (cells ++ made ∷ [])
judged_more Is old new cells made j k =
    let long : length new.rows.items ≡ length old.rows.items + 1 = ap (λ (rs : List Row). length rs) k.rows ∙ length-append old.rows.items (k.row ∷ []) in record {
      each = subst (λ (rs : List Row). All Is rs) (sym k.rows) (All-append Is old.rows.items (k.row ∷ []) j.each (All-cons Is k.row [] k.is (All-nil Is)));
      cells =
          ap (λ (rs : List Row). map cell_of rs) k.rows ∙ cells_more old.rows.items (k.row ∷ []) ∙ ap (λ (zs : List Cell). zs ++ cell_of k.row ∷ []) j.cells
          ∙ ap (λ (z : Cell). cells ++ z ∷ []) k.cell;
      runs = omega (arith, k.runs, j.runs, long);
      right = k.right ∙ j.right;
    }

pub judged_as : (Is : Row → Type 0) (rows : PointRows) (xs ys : List Cell) → xs ≡ ys → Judged Is rows xs → Judged Is rows ys
judged_as Is rows xs ys e j = record { each = j.each; cells = j.cells ∙ e; runs = j.runs; right = j.right }

-- rows of which another thing holds too
pub judged_weaker : (Is So : Row → Type 0) (rows : PointRows) (cells : List Cell) → ((row : Row) → Is row → So row) → Judged Is rows cells → Judged So rows cells
judged_weaker Is So rows cells then j = record { each = All-weaker Is So then rows.rows.items j.each; cells = j.cells; runs = j.runs; right = j.right }

pub judged_at : (kind : BenchKind) (caller : Caller) (number : ℕ) (Is So : Row → Type 0) (rows : PointRows) → ((row : Row) → row.caller ≡ caller → row.number ≡ number → Is row → So row) → Judged Is rows (runs_of kind caller number)
    → Judged So rows (runs_of kind caller number)
judged_at kind caller number Is So rows then j = record { each = each_at kind caller number Is So rows.rows.items then j.cells j.each; cells = j.cells; runs = j.runs; right = j.right }

-- ---- points that are written
some_more : (m n some long : ℕ) → n ≡ counted m some → some ≡ counted 0 long → GoesOn m n long
some_more m n some long is few k e = omega (arith, is, few, e)

-- the rows of one point
pub reports_point : {W : Type 0} (contents : W → Option (List ℕ)) (kind : BenchKind) (Is : Row → Type 0) (old new : SweepReport W) (rows : PointRows) (caller : Caller) (number : ℕ)
    → Judged Is rows (runs_of kind caller number) → TakesPoint contents old rows new → Reports contents kind Is old new (spot caller number ∷ [])
reports_point contents kind Is old new rows caller number j t = record {
  same = t.same;
  quiet = t.quiet;
  wrote = record {
    rows = rows.rows.items;
    each = j.each;
    text = t.text j.right;
    cells = j.cells ∙ sym (append-nil (runs_of kind caller number));
    points = one_more old.done.points new.done.points t.points;
    runs = some_more old.done.runs new.done.runs rows.sweep.runs (length rows.rows.items) t.runs j.runs;
    right = t.right j.right;
  };
}

-- the points of calls in a row, of which so many are passed over
module _ {W : Type 0} (contents : W → Option (List ℕ)) (size : Size) (kind : BenchKind) (caller : Caller) (before from : ℕ) (lines : List Line) (site : Site) (b : Bench) (r : RunsAt size b site) (first : SweepReport W) where
  abbrev Is : Row → Type 0
  Is = RunsAlong size kind caller site before (unpowered b) lines

  abbrev Wrote : SweepReport W → ℕ → Type 0
  Wrote now done = Reports contents kind Is first now (points_from caller (before + from + 1) done)

  one_point : (done : ℕ) (rows : PointRows) (old new : SweepReport W) → before + from + done + 1 < 2 ^ 64 → IsOfCall size kind caller before lines site (from + done) rows → TakesPoint contents old rows new → Wrote old done → Wrote new (done + 1)
  one_point done rows old new room is took so_far =
      let number = before + (from + done) + 1 in
      reports_as contents kind Is first new _ _ (next_point caller (before + from + 1) done number (omega (arith, room)))
      (reports_more contents kind Is first old new _ _ so_far (reports_point contents kind Is old new rows caller number (is b r) took))

  go : (done : ℕ) (points : List PointRows) (old new : SweepReport W) → before + from + (done + length points) < 2 ^ 64 → AreRows (IsOfCall size kind caller before lines site) (from + done) points → TakesAll (TakesPoint contents) old points new → Wrote old done
      → Wrote new (done + length points)
  go done [] old new room each taken so_far =
      let same : done ≡ done + 0 = omega arith in
      subst (λ (n : ℕ). Wrote new n) same (subst (λ (now : SweepReport W). Wrote now done) (sym taken) so_far)
  go done (point ∷ points) old new room each taken so_far =
      let long : length (point ∷ points) ≡ length points + 1 = omega arith in
      let same : done + 1 + length points ≡ done + length (point ∷ points) = omega (arith, long) in
      let next : from + done + 1 ≡ from + (done + 1) = omega arith in
      let later = subst (λ (k : ℕ). AreRows (IsOfCall size kind caller before lines site) k points) next each.1 in
      subst (λ (n : ℕ). Wrote new n) same (go (done + 1) points taken.0 new (omega (arith, room, long)) later taken.2 (one_point done point old taken.0 (omega (arith, room, long)) each.0 taken.1 so_far))

  pub all_points : (count : ℕ) (last : SweepReport W) → before + from + count < 2 ^ 64 → Handed (IsOfCall size kind caller before lines site) (TakesPoint contents) from count first last → Wrote last count
  all_points count last room handed =
      let many : 0 + length handed.rows ≡ count = omega (arith, handed.many) in
      let none : from ≡ from + 0 = omega arith in
      let each = subst (λ (k : ℕ). AreRows (IsOfCall size kind caller before lines site) k handed.rows) none handed.each in
      subst (λ (n : ℕ). Wrote last n) many (go 0 handed.rows first last (omega (arith, room, handed.many)) each handed.taken (reports_none contents kind Is first))
