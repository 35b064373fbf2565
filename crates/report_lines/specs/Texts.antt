-- The exact text of the lines of a report, and how many they are.
use Rattle.std.specs.Prelude.{ℕ, ◌+◌, List, [], ◌∷◌, ◌++◌, Option, Some, None}
use Rattle.std.specs.Fmt.{decimal}
use Rattle.std.specs.List.{flat_map, sum_by, filter_map}
use Rattle.board_model.specs.declared.durable.Durable.{Durable}
use Rattle.board_model.specs.ConsoleCommands.{word_of}
use Rattle.board_model.specs.Texts.{state_text}
use Rattle.script_lang.specs.Lines.{mode_text}
use Rattle.machine.specs.Texts.{machine_line_text}
use Rattle.report_lines.specs.InspectionTexts.{inspection_text}
use Rattle.report_lines.specs.declared.printed.Printed.{Printed}
use Rattle.report_lines.specs.declared.printed.Printed.TheVariants as printed
use Rattle.report_lines.specs.declared.printed.Answer.{Answer}
use lib.Chars.{codes}

abbrev pub line_text : Printed → List ℕ
line_text (printed.Board harts pages lanes sectors) =
    codes "board " ++ decimal harts ++ codes "/" ++ decimal pages ++ codes "/" ++ decimal lanes
    ++ codes " sectors " ++ decimal sectors
line_text printed.Formatted = codes "format ok"
line_text (printed.FormatRefused n) = codes "format refused " ++ decimal n
line_text (printed.On mode) = codes "on " ++ mode_text mode
line_text (printed.OnRefused n) = codes "on refused " ++ decimal n
line_text (printed.Acknowledged c n) = word_of c ++ codes " ok " ++ decimal n
line_text (printed.CommandRefused c n) = word_of c ++ codes " refused " ++ decimal n
line_text printed.Cut = codes "cut"
line_text printed.Armed = codes "armed"
line_text printed.PowerLost = codes "power lost"
line_text printed.Busy = codes "busy"
line_text printed.Off = codes "off"
line_text (printed.Shown shown) = machine_line_text shown
line_text printed.Poked = codes "poked"
line_text (printed.Inspected i) = codes "inspect " ++ inspection_text i
line_text (printed.InspectRefused n) = codes "inspect refused " ++ decimal n
line_text printed.Woken = codes "wake ok"
line_text (printed.WakeRefused n) = codes "wake refused " ++ decimal n

abbrev pub found_line : Option Durable → List ℕ
found_line None = []
found_line (Some d) = codes "found " ++ (state_text d ++ 10 ∷ [])

abbrev pub found_count : Option Durable → ℕ
found_count None = 0
found_count (Some d) = 1

-- the lines that one line of a script makes
abbrev pub answer_text : Answer → List ℕ
answer_text a = found_line a.found ++ (line_text a.line ++ 10 ∷ [])

abbrev pub report_text : List Answer → List ℕ
report_text answers = flat_map answer_text answers

-- how many lines, and the states of the found lines
abbrev pub line_count : List Answer → ℕ
line_count answers = sum_by (λ (a : Answer). found_count a.found + 1) answers

abbrev pub found_states : List Answer → List Durable
found_states answers = filter_map (λ (a : Answer). a.found) answers
