-- The row of a run, by what a power-on found on the disk that a cut left.
use Rattle.std.proofs.Common.{◌≡◌, ℕ, Option, ap, sym, subst}
use Rattle.board_model.specs.Shapes.{Size}
use Rattle.disk.specs.Facts.{Content}
use Rattle.simdisk.specs.declared.{SimDisk.SimDisk, fill.Fill.Fill}
use Rattle.bench_report.specs.{Bench.Bench, Examined.OpensOf, Happens.unpowered, Views.facts}
use Rattle.bench_sweep.specs.{declared.{judging.PointRows.PointRows, points.Caller.Caller}, Made.cut_content, Points.cut_fill}
use Rattle.bench_sweep.specs.{Reports.{IsFoundOn, IsLeftBy, Keeps}, Swept.{Cell, cell}, Took.StandsOn}

pub left_row : (size : Size) (end : Bench) (disk off : SimDisk) (caller : Caller) (number : ℕ) (fill : Option Fill) (bytes : Fill) (old new : PointRows) → StandsOn size end disk → bytes ≡ cut_fill fill → (facts off).content ≡ cut_content disk bytes
    → Keeps (IsFoundOn size (unpowered end) off) old new (cell caller number fill) → Keeps (IsLeftBy size end disk) old new (cell caller number fill)
left_row size end disk off caller number fill bytes old new stands filled cut k =
    let P : Content → Type 0 = λ content. OpensOf content k.row.left in
    let B : Fill → Type 0 = λ f. OpensOf (cut_content disk f) k.row.left in
    let O : Option Fill → Type 0 = λ f. OpensOf (cut_content disk (cut_fill f)) k.row.left in
    let same : k.row.fill ≡ fill = ap (λ (x : Cell). x.fill) k.cell in
    record {
      row = k.row;
      is = record { stands = stands; after = k.is.after; says = k.is.says; finds = k.is.finds; opens = subst O (sym same) (subst B filled (subst P cut k.is.opens)) };
      cell = k.cell;
      rows = k.rows;
      runs = k.runs;
      right = k.right;
    }
