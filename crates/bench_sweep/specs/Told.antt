-- What a line's answer tells of the commands that a disk keeps. Source: docs/DURABLE.md, "What an open finds".
use Rattle.std.specs.Prelude.{◌≡◌, ◌≢◌, ◌⊎◌, ℕ, Bool, true, false, List, [], ◌∷◌, Option, None, Some, length}
use Rattle.board_model.specs.Durable.{Change, Reset, Suspend, Consume, Discard, refusal_of}
use Rattle.board_model.specs.Kept.{Kept, MayKeep, found_of}
use Rattle.board_model.specs.Shapes.{Size, ram_bytes_of}
use Rattle.board_model.specs.Views.{durable_of}
use Rattle.board_model.specs.declared.boot_mode.BootMode.{BootMode}
use Rattle.board_model.specs.declared.boot_mode.BootMode.TheVariants as modes
use Rattle.board_model.specs.declared.durable.Durable.{Durable}
use Rattle.board_model.specs.declared.durable.Reason.{Reason}
use Rattle.board_model.specs.declared.durable.Trial.{Trial}
use Rattle.board.specs.Moments.{attempts_of}
use Rattle.script_lang.specs.declared.line.Line.{Line}
use Rattle.sbi.specs.declared.words.Word.{Word}
use Rattle.sbi.specs.declared.words.Word.TheVariants as words
use Rattle.sbi.specs.declared.words.LifeEnd.TheVariants as life_ends
use Rattle.sbi_calls.specs.Words.{is_answered}
use Rattle.bench_report.specs.Prefix.{AskedLine, Boot, Command, Guest, asked_by}
use Rattle.report_lines.specs.declared.printed.Printed.{Printed}
use Rattle.report_lines.specs.declared.printed.Printed.TheVariants as printed
use Rattle.report_lines.specs.declared.printed.Answer.{Answer}
use Rattle.bench_sweep.specs.Ledgers.{more_kept, in_doubt, settled}

-- a line that harts move
abbrev pub is_guest : AskedLine → Bool
is_guest Guest = true
is_guest asked = false

abbrev pub moves_harts : Line → Bool
moves_harts line = is_guest (asked_by line)

-- A command was answered, by its receipt (none) or by the number that refused it. It is in doubt by 6, or another
-- is.
abbrev pub IssuedTold : Option ℕ → Change → Kept → Kept → Type 0
IssuedTold None c old new =
    (old.doubt ≡ None) × (refusal_of (found_of old.changes) c ≡ None) × (new ≡ more_kept c old)
IssuedTold (Some n) c old new =
    (((n ≡ 6) → (d : Change) × (old.doubt ≡ Some d)) × (new ≡ old))
    ⊎ ((n ≡ 6) × (old.doubt ≡ None) × (refusal_of (found_of old.changes) c ≡ None) × (new ≡ in_doubt c old))

-- what a command of the console says
abbrev pub CommandTold : Printed → Change → Kept → Kept → Type 0
CommandTold (printed.Acknowledged word k) c old new = IssuedTold None c old new
CommandTold (printed.CommandRefused word n) c old new = IssuedTold (Some n) c old new
CommandTold line c old new = new ≡ old

-- Commands that a boot issues in a row: all were answered by their receipts (none), or one by the number that
-- refused it, and then no other was issued.
abbrev pub AllTold : Option ℕ → List Change → Kept → Kept → Type 0
AllTold None [] old new = new ≡ old
AllTold None (c ∷ cs) old new = (mid : Kept) × IssuedTold None c old mid × AllTold None cs mid new
AllTold (Some n) [] old new = ⊥
AllTold (Some n) (c ∷ cs) old new =
    IssuedTold (Some n) c old new ⊎ ((mid : Kept) × IssuedTold None c old mid × AllTold (Some n) cs mid new)

-- the commands of a boot by the mode, of a slot that is on trial so
abbrev pub commands_told : BootMode → Option Trial → List Change
commands_told modes.Fresh trial = attempts_of trial
commands_told modes.Keep trial = attempts_of trial
commands_told modes.Discard trial = Discard ∷ attempts_of trial
commands_told modes.Resume trial = Consume ∷ []

-- a boot with these commands, which was made (none) or refused by that number
abbrev pub BootTold : Option ℕ → List Change → Kept → Kept → Type 0
BootTold None cs old new = AllTold None cs old new
BootTold (Some n) cs old new = ((n ≢ 6) × (new ≡ old)) ⊎ AllTold (Some n) cs old new

-- what a power-on says; of one that was refused memory nothing is asked
abbrev pub BootSaid : Printed → List Change → Kept → Kept → Type 0
BootSaid (printed.On m) cs old new = BootTold None cs old new
BootSaid (printed.OnRefused n) cs old new = (n ≡ 11) ⊎ BootTold (Some n) cs old new
BootSaid line cs old new = new ≡ old

-- the open found that state, which settles the command in doubt
abbrev pub SettledTold : Durable → Kept → Kept → Type 0
SettledTold d old new =
    (changes : List Change) × MayKeep old changes × (d ≡ durable_of (found_of changes)) × (new ≡ settled changes)

-- the state after the commands kept, as a power-on leaves it
abbrev pub NowTold : Option Durable → Kept → Type 0
NowTold None new = ⊥
NowTold (Some d) new = d ≡ durable_of (found_of new.changes)

-- a power-on by the mode, by the state that its open found, where it found one, by what was said, and by the state
-- then
abbrev pub PowerTold : BootMode → Option Durable → Printed → Option Durable → Kept → Kept → Type 0
PowerTold mode None said now old new = new ≡ old
PowerTold mode (Some d) said now old new =
    (mid : Kept) × SettledTold d old mid × BootSaid said (commands_told mode d.trial) mid new × NowTold now new

-- a line that powers a board on
abbrev pub is_boot : AskedLine → Bool
is_boot (Boot mode) = true
is_boot asked = false

abbrev pub powers_on : Line → Bool
powers_on line = is_boot (asked_by line)

-- what a line says that moves no hart, and where it powers a board on the state then
abbrev pub AskedTold : AskedLine → Answer → Option Durable → Kept → Kept → Type 0
AskedTold (Boot mode) a now old new = PowerTold mode a.found a.line now old new
AskedTold (Command c) a now old new = CommandTold a.line c old new
AskedTold asked a now old new = new ≡ old

abbrev pub LineTold : Line → Answer → Option Durable → Kept → Kept → Type 0
LineTold line a now old new = AskedTold (asked_by line) a now old new

-- a command that a hart makes, where that is the memory
abbrev pub IsOfHart : Size → List ℕ → Change → Type 0
IsOfHart size memory (Reset r) = Unit {0}
IsOfHart size memory (Suspend hart address opaque bytes) = (bytes ≡ memory) × (length memory ≡ ram_bytes_of size)
IsOfHart size memory c = ⊥

-- what a turn of a hart, or its call, tells by its word, where that is the memory then: a hart that was answered, or
-- made a step, may hide a command in doubt
abbrev pub HartTold : Size → Word → List ℕ → Kept → Kept → Type 0
HartTold size (words.Goes did) memory old new =
    (new ≡ old)
    ⊎ ((is_answered did ≡ true) × (c : Change) × IsOfHart size memory c × IssuedTold (Some 6) c old new)
HartTold size (words.Over life_ends.Asleep) memory old new =
    (hart address opaque : ℕ) × (length memory ≡ ram_bytes_of size)
    × IssuedTold None (Suspend hart address opaque memory) old new
HartTold size (words.Over (life_ends.Reset kind)) memory old new = (r : Reason) × IssuedTold None (Reset r) old new
