use Rattle.std.proofs.Common.{◌≡◌, ◌+◌, ◌*◌, ◌≤◌, List, ◌∷◌, take}
use Rattle.report_lines.specs.{declared.printed.Answer.Answer, Counts.Reported}
use Rattle.bench_report.specs.{Agree.fills_after, Bench.Bench, Reports.board_answer, Steps.Run, Lives.{IsSound, Shows}}
use Rattle.bench_report.proofs.runs.run_lines.Given as goal

-- the lines so far ran, and were written
abbrev pub invariant-loop-line : goal.invariant-loop-line
invariant-loop-line g l = record {
  few : l.report.lines ≤ 2 + 2 * l.line-index;
  fill : l.bench.fill ≡ fills_after (take l.line-index l.lines) l.fn.bench.fill;
  sound : IsSound l.bench;
  reported : (b : Bench) → Shows l.setting.shape.now b l.fn.bench → (answers : List Answer) × (now : Bench) × Run l.setting.shape.now b (take l.line-index l.lines) answers now × Shows l.setting.shape.now now l.bench
      × Reported (g.W.Write.contents l.fn.out) (g.W.Write.contents l.out) l.report (board_answer l.setting.shape.now ∷ answers);
}
