-- A report of a run in which memory was never refused and the disk never failed, told by its lines.
use Rattle.std.specs.Prelude.{◌≡◌, ◌≢◌, List, [], ◌∷◌, ⊤}
use Rattle.sbi.specs.declared.words.Word.TheVariants as words
use Rattle.sbi_calls.specs.declared.words.Did.TheVariants.{Next}
use Rattle.machine.specs.declared.line.MachineLine.{MachineLine}
use Rattle.machine.specs.declared.line.MachineLine.TheVariants as shown
use Rattle.report_lines.specs.declared.printed.Answer.{Answer}
use Rattle.report_lines.specs.declared.printed.Printed.{Printed}
use Rattle.report_lines.specs.declared.printed.Printed.TheVariants as printed

-- A line that shows that no hart's command was refused for its disk or for memory: one turn, after which the
-- hart did not just go on, or a call that was not answered. (A refused command is answered, and the hart goes
-- on.)
abbrev pub IsFailureFreeLine : MachineLine → Type 0
IsFailureFreeLine (shown.Turn h made word) = (made ≡ 1) × (word ≢ words.Goes Next)
IsFailureFreeLine (shown.Answered h e v) = ⊥
IsFailureFreeLine line = ⊤

-- a line by which no memory was refused (11), no call of the disk failed (5, and 6 where it leaves a command
-- in doubt) and no armed cut struck
abbrev pub ShowsNoFailure : Printed → Type 0
ShowsNoFailure (printed.FormatRefused n) = n ≢ 5
ShowsNoFailure (printed.OnRefused n) = (n ≢ 5) × (n ≢ 6) × (n ≢ 11)
ShowsNoFailure (printed.CommandRefused word n) = (n ≢ 5) × (n ≢ 6)
ShowsNoFailure (printed.InspectRefused n) = (n ≢ 5) × (n ≢ 11)
ShowsNoFailure printed.PowerLost = ⊥
ShowsNoFailure (printed.Shown line) = IsFailureFreeLine line
ShowsNoFailure line = ⊤

-- so is each line
abbrev pub ShowNoFailure : List Answer → Type 0
ShowNoFailure [] = ⊤
ShowNoFailure (a ∷ answers) = ShowsNoFailure a.line × ShowNoFailure answers
