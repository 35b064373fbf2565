-- Without a failure of the disk, in the words of the report alone: from the first `format ok` on there is one
-- state before each line, a found line shows it, and it is what all commands that were acknowledged since the
-- format make of the formatted one, and no other.
use Rattle.std.specs.Prelude.{◌≡◌, List, [], ◌∷◌, None, MatchBool, ⊤}
use Rattle.board_model.specs.Durable.{DurableState, Change, formatted}
use Rattle.board.specs.Boots.{boot_refusal}
use Rattle.sbi.specs.declared.words.Word.{Word}
use Rattle.sbi.specs.declared.words.Word.TheVariants as words
use Rattle.machine.specs.declared.line.MachineLine.{MachineLine}
use Rattle.machine.specs.declared.line.MachineLine.TheVariants as shown
use Rattle.script_lang.specs.declared.line.Line.{Line}
use Rattle.report_lines.specs.declared.printed.Answer.{Answer}
use Rattle.report_lines.specs.declared.printed.Printed.{Printed}
use Rattle.report_lines.specs.declared.printed.Printed.TheVariants as printed
use Rattle.bench_report.specs.PowerOns.{commands_of}
use Rattle.bench_report.specs.Taken.{TakesAll}
use Rattle.bench_report.specs.Prefix.{AskedLine, Boot, Command, Guest, Nothing, line_asks, IsEndBy, ShowsAt, is_format_ok}

-- a hart's command of this kind was acknowledged
abbrev pub Acknowledges : (Change → Type 0) → DurableState → DurableState → Type 0
Acknowledges Is s t = (c : Change) × Is c × TakesAll (c ∷ []) s t

abbrev pub WordMakes : Word → DurableState → DurableState → Type 0
WordMakes (words.Goes did) s t = t ≡ s
WordMakes (words.Over end) s t = Acknowledges (IsEndBy end) s t

abbrev pub ShownMakes : MachineLine → DurableState → DurableState → Type 0
ShownMakes (shown.Turn h made word) s t = WordMakes word s t
ShownMakes (shown.Called h word) s t = WordMakes word s t
ShownMakes line s t = t ≡ s

-- The state s before a line and t after it, by what the line asked and what it says. No cut strikes in a line
-- that asks something of the disk.
abbrev pub LineMakes : AskedLine → Printed → DurableState → DurableState → Type 0
LineMakes (Boot asked) (printed.On mode) s t =
    (mode ≡ asked) × TakesAll (commands_of asked s) s t × (boot_refusal s asked ≡ None)
LineMakes (Command c) (printed.Acknowledged word k) s t = TakesAll (c ∷ []) s t
LineMakes Guest (printed.Shown line) s t = ShownMakes line s t
LineMakes Nothing said s t = t ≡ s
LineMakes asked printed.PowerLost s t = ⊥
LineMakes asked said s t = t ≡ s

-- the lines that are left, where the commands that were acknowledged make s
abbrev pub AreAllFound : DurableState → List Line → List Answer → Type 0
AreAllFound s [] [] = ⊤
AreAllFound s (line ∷ more) (answer ∷ answers) =
    ShowsAt answer s × (t : DurableState) × LineMakes (line_asks line) answer.line s t × AreAllFound t more answers
AreAllFound s [] (answer ∷ answers) = ⊥
AreAllFound s (line ∷ more) [] = ⊥

-- from the first format that answered Ok on
abbrev pub FindAll : List Line → List Answer → Type 0
FindAll [] answers = ⊤
FindAll (line ∷ more) [] = ⊥
FindAll (line ∷ more) (answer ∷ answers) =
    MatchBool (is_format_ok answer.line) (AreAllFound formatted more answers) (FindAll more answers)

-- a report: the first answer is the board line's
abbrev pub FindsAll : List Line → List Answer → Type 0
FindsAll script [] = ⊥
FindsAll script (board ∷ answers) = FindAll script answers
