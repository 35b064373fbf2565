-- The prefix law over whole runs, in the words of the report alone. There is one state before each line, the
-- formatted one after the first `format ok`. A found line shows the state before its line, and each `on` that
-- turns the board on has one. A line turns it
-- into the state after those of its commands that took effect, the first of them first: all, where it says
-- so; where it was refused, some but not all; where it was refused 6 or lost power, some first of them. A
-- life takes commands from its power-on to its first command in doubt, its end or a cut.
use Rattle.std.specs.Prelude.{All, ◌≡◌, ◌≢◌, ◌⊎◌, ℕ, zero, suc, ◌+◌, ◌-◌, ◌^◌, ◌==◌, ◌≤◌, Bool, true, false, List, [], ◌∷◌, Option, Some, None, MatchBool, ⊤}
use Rattle.board_model.specs.Durable.{DurableState, Change, Reset, Suspend, formatted}
use Rattle.bench_report.specs.Taken.{TakesAll, TakesSome, TakesFewer}
use Rattle.board_model.specs.Views.{durable_of}
use Rattle.board_model.specs.ConsoleCommands.{console_change}
use Rattle.board_model.specs.declared.durable.Durable.{Durable}
use Rattle.board_model.specs.declared.durable.Reason.{Reason}
use Rattle.board_model.specs.declared.durable.ImageHead.{ImageHead}
use Rattle.board_model.specs.declared.boot_mode.BootMode.{BootMode}
use Rattle.board_model.specs.declared.boot_mode.BootMode.TheVariants as modes
use Rattle.board.specs.Boots.{boot_refusal}
use Rattle.sbi.specs.declared.words.Word.{Word}
use Rattle.sbi.specs.declared.words.Word.TheVariants as words
use Rattle.sbi_calls.specs.Words.{is_answered}
use Rattle.sbi_calls.specs.declared.words.Did.{Did}
use Rattle.sbi.specs.declared.words.LifeEnd.{LifeEnd}
use Rattle.sbi.specs.declared.words.LifeEnd.TheVariants as life_ends
use Rattle.machine.specs.declared.line.MachineLine.{MachineLine}
use Rattle.machine.specs.declared.line.MachineLine.TheVariants as shown
use Rattle.script_lang.specs.declared.line.Line.{Line}
use Rattle.script_lang.specs.declared.line.Line.TheVariants as lines
use Rattle.bench_report.specs.Deeds as deeds
use Rattle.bench_report.specs.Deeds.{Deed, deed_of}
use Rattle.report_lines.specs.declared.printed.Answer.{Answer}
use Rattle.report_lines.specs.declared.printed.Printed.{Printed}
use Rattle.report_lines.specs.declared.printed.Printed.TheVariants as printed
use Rattle.bench_report.specs.PowerOns.{commands_of}

-- what a line asks of the disk: a boot with its commands, one command of the console, at most one that a hart
-- makes, or none
pub data AskedLine : Type 0 where
  Boot : BootMode → AskedLine
  Command : Change → AskedLine
  Guest : AskedLine
  Nothing : AskedLine

-- the table of the lines that ask something
abbrev pub line_asks : Line → AskedLine
line_asks (lines.On mode) = Boot mode
line_asks (lines.Command c) = Command (console_change c)
line_asks (lines.Turn hart turns) = Guest
line_asks (lines.Call hart words) = Guest
line_asks line = Nothing

-- the same by what the line has the bench do
abbrev pub asked_of : Deed → AskedLine
asked_of (deeds.PowerOn mode) = Boot mode
asked_of (deeds.Issue c) = Command (console_change c)
asked_of (deeds.Turns h n) = Guest
asked_of (deeds.Call h asked) = Guest
asked_of deed = Nothing

abbrev pub asked_by : Line → AskedLine
asked_by line = asked_of (deed_of line)

-- A command was refused: by 6 it may have taken effect, and the life takes no more (up: whether it took
-- commands before; now: whether it does after); by another number it did not.
abbrev pub RefusedChange : ℕ → Change → DurableState → Bool → DurableState → Bool → Type 0
RefusedChange n c s up t now =
    ((n ≢ 6) × (t ≡ s) × (now ≡ up))
    ⊎ ((n ≡ 6) × (now ≡ false) × ((t ≡ s) ⊎ ((up ≡ true) × TakesSome (c ∷ []) s t)))

-- the commands of harts
abbrev pub IsReset : Change → Type 0
IsReset c = (r : Reason) × (c ≡ Reset r)

abbrev pub IsSuspension : Change → Type 0
IsSuspension c = (hart address opaque : ℕ) × (memory : List ℕ) × (c ≡ Suspend hart address opaque memory)

-- the command with which a life ends so
abbrev pub IsEndBy : LifeEnd → Change → Type 0
IsEndBy life_ends.Asleep c = IsSuspension c
IsEndBy (life_ends.Reset kind) c = IsReset c

abbrev pub IsOfHarts : Change → Type 0
IsOfHarts c = IsReset c ⊎ IsSuspension c

-- a hart's command of this kind ended the life
abbrev pub EndsLife : (Change → Type 0) → DurableState → Bool → DurableState → Bool → Type 0
EndsLife Is s up t now = (up ≡ true) × (now ≡ false) × (c : Change) × Is c × TakesAll (c ∷ []) s t

-- the line tells of no command, and none was made
abbrev pub Keeps : DurableState → Bool → DurableState → Bool → Type 0
Keeps s up t now = (t ≡ s) × (now ≡ up)

-- A hart's command is in doubt of which the report does not tell, and the life takes no more; or none was
-- made.
abbrev pub Hides : DurableState → Bool → DurableState → Bool → Type 0
Hides s up t now = Keeps s up t now
    ⊎ ((up ≡ true) × (now ≡ false) × (c : Change) × IsOfHarts c × TakesSome (c ∷ []) s t)

-- A hart whose command is in doubt is answered -1, and goes on. So one turn that ended otherwise hides none; of a
-- row of turns the line tells the last alone.
abbrev pub may_hide : ℕ → Did → Bool
may_hide (suc zero) did = is_answered did
may_hide made did = true

-- what a line of `made` turns tells by the word of the last
abbrev pub TellsTurns : ℕ → Word → DurableState → Bool → DurableState → Bool → Type 0
TellsTurns made (words.Goes did) s up t now = MatchBool (may_hide made did) (Hides s up t now) (Keeps s up t now)
TellsTurns made (words.Over end) s up t now = EndsLife (IsEndBy end) s up t now

-- what the word of a call tells that was not answered
abbrev pub TellsCall : Word → DurableState → Bool → DurableState → Bool → Type 0
TellsCall (words.Goes did) s up t now = Keeps s up t now
TellsCall (words.Over end) s up t now = EndsLife (IsEndBy end) s up t now

-- what a line of harts tells; a call that was answered hides a command where the answer is -1
abbrev pub TellsLine : MachineLine → DurableState → Bool → DurableState → Bool → Type 0
TellsLine (shown.Turn h made word) s up t now = TellsTurns made word s up t now
TellsLine (shown.Called h word) s up t now = TellsCall word s up t now
TellsLine (shown.Answered h error value) s up t now =
    MatchBool (error == 2 ^ 64 - 1) (Hides s up t now) (Keeps s up t now)
TellsLine line s up t now = Keeps s up t now

-- power was lost within the line: some first of its commands took effect, of which a board takes none that is
-- off or in doubt
abbrev pub Lost : AskedLine → DurableState → Bool → DurableState → Type 0
Lost (Boot mode) s up t = TakesSome (commands_of mode s) s t
Lost (Command c) s up t = (t ≡ s) ⊎ ((up ≡ true) × TakesSome (c ∷ []) s t)
Lost Guest s up t = (t ≡ s) ⊎ ((up ≡ true) × (c : Change) × IsOfHarts c × TakesSome (c ∷ []) s t)
Lost Nothing s up t = t ≡ s

-- The state s before a line and t after it, and whether a board that is on takes commands before and after: by what the line
-- says, and of a boot, a command or harts by what it asked. A boot, a command or a suspension that was cut says `power lost`.
-- No second format answers Ok.
abbrev pub LineImplies : AskedLine → Printed → DurableState → Bool → DurableState → Bool → Type 0
LineImplies (Boot asked) (printed.On mode) s up t now =
    (mode ≡ asked) × (up ≡ false) × TakesAll (commands_of asked s) s t × (now ≡ true) × (boot_refusal s asked ≡ None)
LineImplies asked (printed.On mode) s up t now = ⊥
LineImplies (Boot mode) (printed.OnRefused n) s up t now =
    (up ≡ false) × (now ≡ false)
    × ((t ≡ s) ⊎ TakesFewer (commands_of mode s) s t ⊎ ((n ≡ 6) × TakesSome (commands_of mode s) s t))
LineImplies asked (printed.OnRefused n) s up t now = ⊥
LineImplies (Command c) (printed.Acknowledged word k) s up t now =
    (up ≡ true) × TakesAll (c ∷ []) s t × (now ≡ true) × (console_change word ≡ c)
LineImplies asked (printed.Acknowledged word k) s up t now = ⊥
LineImplies (Command c) (printed.CommandRefused word n) s up t now =
    RefusedChange n c s up t now × (console_change word ≡ c)
LineImplies asked (printed.CommandRefused word n) s up t now = ⊥
LineImplies Guest (printed.Shown line) s up t now = TellsLine line s up t now
LineImplies asked (printed.Shown line) s up t now = Keeps s up t now
LineImplies asked printed.Cut s up t now = (t ≡ s) × (now ≡ false)
LineImplies asked printed.PowerLost s up t now = Lost asked s up t × (now ≡ false)
LineImplies asked printed.Formatted s up t now = ⊥
LineImplies asked said s up t now = Keeps s up t now

abbrev pub ShowsIts : Option Durable → DurableState → Type 0
ShowsIts None s = ⊤
ShowsIts (Some d) s = d ≡ durable_of s

-- A line shows the state before it: one that says that the board is on always, another where it shows one.
abbrev pub ShowsBy : Printed → Option Durable → DurableState → Type 0
ShowsBy (printed.On mode) found s = found ≡ Some (durable_of s)
ShowsBy said found s = ShowsIts found s

abbrev pub ShowsAt : Answer → DurableState → Type 0
ShowsAt answer s = ShowsBy answer.line answer.found s

-- The lines that are left, where the disk stands for s, and the board takes commands or not. After the last of
-- them it stands for a state that is so.
abbrev pub IsPrefixedTo : (DurableState → Type 0) → DurableState → Bool → List Line → List Answer → Type 0
IsPrefixedTo Ends s up [] [] = Ends s
IsPrefixedTo Ends s up (line ∷ more) (answer ∷ answers) =
    ShowsAt answer s × (t : DurableState) × (now : Bool)
    × LineImplies (line_asks line) answer.line s up t now × IsPrefixedTo Ends t now more answers
IsPrefixedTo Ends s up [] (answer ∷ answers) = ⊥
IsPrefixedTo Ends s up (line ∷ more) [] = ⊥

-- the serials of the images that were resumed, in order
abbrev pub serial_then : Option ImageHead → List ℕ → List ℕ
serial_then None rest = rest
serial_then (Some head) rest = head.serial ∷ rest

abbrev pub resumed : Option Durable → Printed → List ℕ → List ℕ
resumed (Some d) (printed.On modes.Resume) rest = serial_then d.image rest
resumed found line rest = rest

abbrev pub resumes : List Answer → List ℕ
resumes [] = []
resumes (a ∷ answers) = resumed a.found a.line (resumes answers)

-- each is n or more, and above those before it
abbrev pub RisesFrom : ℕ → List ℕ → Type 0
RisesFrom n [] = ⊤
RisesFrom n (x ∷ xs) = (n ≤ x) × RisesFrom (x + 1) xs

-- no power-on was refused 13: each image that stands has the memory of its board
abbrev pub AreLoaded : List Answer → Type 0
AreLoaded answers = All (λ (a : Answer). a.line ≢ printed.OnRefused 13) answers

abbrev pub is_format_ok : Printed → Bool
is_format_ok printed.Formatted = true
is_format_ok line = false

-- from the first format that answered Ok on, no board is on before it that could go on after it
abbrev pub IsFoundByPrefix : (DurableState → Type 0) → List Line → List Answer → Type 0
IsFoundByPrefix Ends [] answers = ⊤
IsFoundByPrefix Ends (line ∷ more) [] = ⊥
IsFoundByPrefix Ends (line ∷ more) (answer ∷ answers) =
    MatchBool (is_format_ok answer.line)
    (IsPrefixedTo Ends formatted false more answers × RisesFrom 0 (resumes answers) × AreLoaded answers)
    (IsFoundByPrefix Ends more answers)

-- a report, whose first answer is the board line's; after it, where a format answered Ok, the disk stands for a
-- state that is so
abbrev pub KeepsPrefixLawTo : (DurableState → Type 0) → List Line → List Answer → Type 0
KeepsPrefixLawTo Ends script [] = ⊥
KeepsPrefixLawTo Ends script (board ∷ answers) = IsFoundByPrefix Ends script answers

-- the same for any state
abbrev pub KeepsPrefixLaw : List Line → List Answer → Type 0
KeepsPrefixLaw script answers = KeepsPrefixLawTo (λ t. ⊤) script answers

-- The history that a report tells may end in this state.
abbrev pub MayEndIn : DurableState → List Line → List Answer → Type 0
MayEndIn t script answers = KeepsPrefixLawTo (λ s. s ≡ t) script answers
