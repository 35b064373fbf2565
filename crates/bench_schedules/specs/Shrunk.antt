-- A schedule that is shrunk. Source: docs/SCRIPT.md, "Schedules".
use Rattle.std.specs.Prelude.{◌≡◌, ◌≤◌, ◌++◌, ◌∷◌, [], ℕ, List, Option, None, Some, Ok, All, length}
use Rattle.std.specs.Io.KnownBytes.{Appends}
use Rattle.board_model.specs.Shapes.{Size}
use Rattle.script_lang.specs.Lines.{IsLineInRange}
use Rattle.script_lang.specs.Scripts.{Script, script_of}
use Rattle.script_lang.specs.Spellings.{script_text, IsWritable}
use Rattle.script_lang.specs.declared.line.Line.{Line}
use Rattle.report_lines.specs.declared.printed.Answer.{Answer}
use Rattle.bench_schedules.specs.Orders.{IsOrderFor, IsScheduleOf, other_count}
use Rattle.bench_schedules.specs.Schedules.{RanLike, RanOwn}
use Rattle.bench_schedules.specs.declared.runs.Difference.{Difference}

-- Schedules of these lines can be run beside the script's own run.
pub record IsSearchable (size : Size) (those : List Line) (own : List Answer) : Type 0 where
  pub few : length those ≤ 65535
  pub ranges : All (IsLineInRange size) those
  pub count : length own ≡ other_count those

-- These lines are a schedule of the script's lines, and their run first differs from the script's own run at that place.
pub record IsFound (size : Size) (start : List (List ℕ)) (those : List Line) (own : List Answer) (place : ℕ) (new : List Line) : Type 0 where
  pub order : IsOrderFor those new
  pub few : length new ≤ 65535
  pub differs : Difference
  pub ran : RanLike size start new own (Some differs)
  pub there : differs.place ≡ place

-- the place among the lines that are no turns at which two reports first differ, where they do
abbrev pub place_of : Option Difference → Option ℕ
place_of None = None
place_of (Some d) = Some d.place

-- A schedule was drawn and run. These lines are a schedule too, and their run first differs at the same place. Where the run of the
-- drawn one differs nowhere, they are that one.
pub record IsShortened (size : Size) (start : List (List ℕ)) (those : List Line) (own : List Answer) (drawn new : List Line) : Type 0 where
  pub order : IsOrderFor those new
  pub few : length new ≤ 65535
  pub differs : Option Difference
  pub ran_drawn : RanLike size start drawn own differs
  pub found : Option Difference
  pub ran : RanLike size start new own found
  pub same : place_of found ≡ place_of differs
  pub unchanged : differs ≡ None → new ≡ drawn

-- `--shrink`: a schedule of the script, as a text that is read back as it; a line feed ends its last line too. Its report first differs
-- from that of the script's own run in the same line as the report of the schedule that was drawn, or as little as that one.
pub record Shrunk (said : Script) (start : List (List ℕ)) (old new : Option (List ℕ)) : Type 0 where
  pub own : List Answer
  pub ran_own : RanOwn said.size start said.lines own
  pub drawn : Script
  pub drawn_order : IsScheduleOf said drawn
  pub schedule : Script
  pub order : IsScheduleOf said schedule
  pub writable : IsWritable schedule
  pub reads : script_of (script_text schedule) ≡ Ok schedule
  pub text : Appends old new (script_text schedule ++ 10 ∷ [])
  pub shortened : IsShortened said.size start said.lines own drawn.lines schedule.lines
