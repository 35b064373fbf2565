-- A line that ran, against the script's own run.
use Rattle.std.specs.Prelude.{◌≡◌, ◌≢◌, ◌⊎◌, ◌+◌, ℕ, true, false, List, get_or}
use Rattle.script_lang.specs.declared.line.Line.{Line}
use Rattle.report_lines.specs.declared.printed.Answer.{Answer}
use Rattle.bench_schedules.specs.Orders.{is_other}
use Rattle.bench_schedules.specs.declared.runs.Difference.{Difference}

-- the place of the next answer to be compared: the same after a `turn` line, and the next one after a line that answered what
-- stands at this place
abbrev pub IsNextPlace : List Answer → ℕ → Line → Answer → ℕ → Type 0
IsNextPlace own place line a next =
    ((is_other line ≡ false) × (next ≡ place))
    ⊎ ((is_other line ≡ true) × (get_or own place a ≡ a) × (next ≡ place + 1))

-- it is no line of turns, and answered other than what stands there
abbrev pub IsDifference : List Answer → ℕ → Line → Answer → Difference → Type 0
IsDifference own place line a d =
    (is_other line ≡ true) × (d.place ≡ place) × (d.own ≡ get_or own place d.own) × (d.answer ≡ a) × (d.own ≢ a)
