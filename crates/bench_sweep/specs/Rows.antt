-- The lines of a bench. Source: docs/SCRIPT.md, "The benches".
use Rattle.std.specs.Prelude.{ℕ, List, [], ◌++◌, Option, Some, None}
use Rattle.std.specs.Fmt.{decimal}
use Rattle.board_model.specs.declared.durable.Durable.{Durable}
use Rattle.simdisk.specs.declared.fill.Fill.{Fill}
use Rattle.script_lang.specs.Words.{fill_text}
use Rattle.board_model.specs.Texts.{state_text}
use Rattle.report_lines.specs.Texts.{line_text}
use Rattle.report_lines.specs.declared.printed.Answer.{Answer}
use Rattle.report_lines.specs.declared.printed.Printed.{Printed}
use Rattle.bench_sweep.specs.declared.judges.Sweep.{Sweep}
use Rattle.bench_sweep.specs.declared.points.Caller.{Caller}
use Rattle.bench_sweep.specs.declared.points.Caller.TheVariants.{Disk, Lane}
use Rattle.bench_sweep.specs.declared.rows.Row.{Row}
use Rattle.crew.specs.Parts.{part_text}
use Rattle.crew.specs.declared.part.Part.{Part}
use lib.Chars.{codes}

abbrev pub caller_text : Caller → List ℕ
caller_text Disk = codes "disk"
caller_text (Lane i) = codes "lane " ++ decimal i

-- the fill as a script has it; a bench of failures has none
abbrev pub fill_part : Option Fill → List ℕ
fill_part None = []
fill_part (Some fill) = codes " " ++ fill_text fill

-- what a power-on says: the found line where the open found a state, and else its last line
abbrev pub told_text : Option Durable → Printed → List ℕ
told_text None line = line_text line
told_text (Some d) line = codes "found " ++ state_text d

abbrev pub left_text : Answer → List ℕ
left_text a = told_text a.found a.line

-- at whose call, its number, and what the cut left
abbrev pub call_text : Caller → ℕ → Option Fill → List ℕ
call_text caller number fill = caller_text caller ++ codes " " ++ decimal number ++ fill_part fill

abbrev pub row_text : Row → List ℕ
row_text r = call_text r.caller r.number r.fill ++ codes " " ++ left_text r.left

-- how many points and runs there were, the points as that text, and how many of these were wrong
abbrev pub counts_text : List ℕ → Sweep → List ℕ
counts_text points s = codes "points " ++ points ++ codes " runs " ++ decimal s.runs ++ codes " wrong " ++ decimal s.wrong

-- the last line: of the whole, or of a part, where the whole has `all` points
abbrev pub sweep_text : Option Part → ℕ → Sweep → List ℕ
sweep_text None all s = counts_text (decimal s.points) s
sweep_text (Some part) all s = part_text (Some part) ++ counts_text (decimal s.points ++ codes " of " ++ decimal all) s
