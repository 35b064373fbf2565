-- What a durable call asks for, and the receipt of its command. Source: docs/SBI.md; docs/THREADS.md.
use Rattle.std.specs.Prelude.{◌≡◌, ℕ, ◌<◌, ◌≤◌, ◌-◌, get_or, length, List, [], ◌∷◌, ◌++◌, Option, Some, None, Ok}
use Rattle.board_model.specs.Durable.{Change}
use Rattle.board_model.specs.Shapes.{Size}
use Rattle.board_model.specs.declared.durable.Command.TheVariants as commands
use Rattle.board_model.specs.declared.durable.Entry.{Entry}
use Rattle.board_model.specs.declared.durable.Entry.TheVariants as entries
use Rattle.board_model.specs.declared.durable.Reason.{Reason}
use Rattle.board_model.specs.Views.{change_in}
use Rattle.sbi_abi.specs.declared.call.Call.{Call}
use Rattle.sbi_abi.specs.declared.call.Call.TheVariants as calls
use Rattle.susp.specs.Checks.{IsChecked}
use Rattle.susp.specs.declared.sleeps.Sleep.TheVariants.{ToRam, ToDisk}
use Rattle.sbi.specs.Resets.{reset_of}
use Rattle.sbi.specs.declared.resets.ResetType.{ResetType}
use Rattle.sbi.specs.declared.words.LifeEnd.{LifeEnd}
use Rattle.sbi.specs.declared.words.LifeEnd.TheVariants as ends
use Rattle.sbi.specs.declared.words.Word.{Word}
use Rattle.sbi.specs.declared.words.Word.TheVariants.{Goes, Over}

-- a reset of that type for that reason
abbrev pub AsksReset : Call → ResetType → Reason → Type 0
AsksReset (calls.SystemReset kind number) type cause = reset_of kind number ≡ Ok (type, cause)
AsksReset call type cause = ⊥

-- a suspension to disk, resumed at that address, which is valid on the board, with that opaque value
abbrev pub AsksSleep : Size → Call → ℕ → ℕ → Type 0
AsksSleep size (calls.SystemSuspend kind address value) site opaque =
    IsChecked size kind address (Ok (ToDisk, site)) × (opaque ≡ value)
AsksSleep size call site opaque = ⊥

-- a suspension to RAM, after which the hart begins again at that address, which is valid on the board, with that
-- opaque value
abbrev pub AsksDoze : Size → Call → ℕ → ℕ → Type 0
AsksDoze size (calls.SystemSuspend kind address value) site opaque =
    IsChecked size kind address (Ok (ToRam, site)) × (opaque ≡ value)
AsksDoze size call site opaque = ⊥

-- the command that such a call asks for, where the life then ends so
abbrev pub AsksFor : Size → Call → ℕ → LifeEnd → Entry → Type 0
AsksFor size call by (ends.Reset type) entry =
    (cause : Reason) × AsksReset call type cause × (entry ≡ entries.Command (commands.Reset cause))
AsksFor size call by ends.Asleep entry =
    (site : ℕ) × (opaque : ℕ) × AsksSleep size call site opaque × (entry ≡ entries.Suspend by site opaque)

-- What is told of a call that ended the life has the receipt of its command. Where the life goes on there is none: an
-- error is no command, and neither is a doze.
abbrev pub IsToldBy : Size → Call → ℕ → Word → Option (ℕ × Entry) → Type 0
IsToldBy size call by (Goes did) told = told ≡ None
IsToldBy size call by (Over end) told = (t : ℕ × Entry) × (told ≡ Some t) × AsksFor size call by end t.1

-- the journal after it
abbrev pub AddsBy : Size → Call → ℕ → Word → List Change → List Change → Type 0
AddsBy size call by (Goes did) old new = new ≡ old
AddsBy size call by (Over end) old new =
    (entry : Entry) × (memory : List ℕ) × AsksFor size call by end entry
    × (new ≡ old ++ change_in entry memory ∷ []) × (length old < 4096)

-- the last command of a journal, and its place
abbrev pub IsLastOf : List Change → ℕ → Entry → Type 0
IsLastOf journal n entry =
    (1 ≤ n) × (n ≡ length journal)
    × ((memory : List ℕ) × (get_or journal (n - 1) (change_in entry memory) ≡ change_in entry memory))
