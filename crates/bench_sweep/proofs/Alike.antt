-- A cut that leaves the same by each fill.
use Rattle.std.proofs.{Common.{◌≡◌, ◌∙◌, ◌∷◌, ◌++◌, [], ℕ, List, All, Some, refl, sym, subst}, lemmas.List.Elements.All-head}
use Rattle.board_model.specs.Shapes.{Size}
use Rattle.disk.specs.{Facts.{Content, counted}, WriteLog.synced}
use Rattle.simdisk.specs.declared.{SimDisk.SimDisk, fill.Fill.Fill}
use Rattle.bench_report.specs.{Bench.Bench, Examined.OpensOf, Views.sim_log_of}
use Rattle.bench_sweep.specs.{Points.cut_fill, Made.cut_content, Reports.{again, IsLeftBy, Keeps}, Swept.cell, declared.rows.Row.Row}
use Rattle.bench_sweep.specs.declared.{judging.PointRows.PointRows, points.Caller.Caller}

-- what was found after one of these cuts is found after another
pub left_alike : (size : Size) (end : Bench) (disk : SimDisk) (row : Row) (caller : Caller) (number : ℕ) (fill : Fill) → ((other : Fill) → cut_content disk other ≡ synced (sim_log_of disk)) → IsLeftBy size end disk row → IsLeftBy size end disk (again row caller number fill)
left_alike size end disk row caller number fill same left =
    let here : cut_content disk (cut_fill row.fill) ≡ cut_content disk fill = same (cut_fill row.fill) ∙ sym (same fill) in
    let O : Content → Type 0 = λ content. OpensOf content row.left in
    record { stands = left.stands; after = left.after; says = left.says; finds = left.finds; opens = subst O here left.opens }

-- so the row of the first may be kept once more
pub kept_again : (Is : Row → Type 0) (old new : PointRows) (once : List Row) (caller : Caller) (number : ℕ) (fill : Fill) (first : Row) (rest : List Row) → once ≡ first ∷ rest → new.rows.items ≡ old.rows.items ++ again first caller number fill ∷ []
    → new.sweep.runs ≡ counted old.sweep.runs 1 → new.sweep.wrong ≡ old.sweep.wrong → All Is once → ((row : Row) → Is row → Is (again row caller number fill)) → Keeps Is old new (cell caller number (Some fill))
kept_again Is old new once caller number fill first rest are rows runs right each other =
    record {
      row = again first caller number fill;
      is = other first (All-head Is _ rest (subst (λ (xs : List Row). All Is xs) are each));
      cell = refl;
      rows = rows;
      runs = runs;
      right = right;
    }
