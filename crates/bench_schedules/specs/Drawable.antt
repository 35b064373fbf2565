-- What the runs of schedules stand on.
use Rattle.std.specs.Prelude.{◌≡◌, ◌≤◌, List, All, length}
use Rattle.board_model.specs.Shapes.{Size, IsSize}
use Rattle.script_lang.specs.Lines.{FitsLine, IsLineInRange}
use Rattle.script_lang.specs.declared.line.Line.{Line}
use Rattle.report_lines.specs.declared.printed.Answer.{Answer}
use Rattle.bench_schedules.specs.Orders.{other_count}

-- Schedules of these lines can be run beside the script's own run.
pub record AreDrawable (size : Size) (those : List Line) (own : List Answer) : Type 0 where
  pub sized : IsSize size
  pub few : length those ≤ 65535
  pub ranges : All (IsLineInRange size) those
  pub fits : All FitsLine those
  pub count : length own ≡ other_count those
