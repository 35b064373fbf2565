-- The command as its parser reads it, and the work that its words name. Source: docs/CONSOLE.md, "The program `sbidisk`".
use Rattle.std.specs.Prelude.{◌≡◌, ◌⊎◌, ℕ, Bool, List, true, false, Some, None}
use Rattle.std.specs.Borrow.{Bor}
use Rattle.clap.specs.Words.{App, IsAmong, Rule, fault_of, first_value, new_rule, one_text, with_rule}
use Rattle.clap.specs.declared.builder.action.ArgAction.TheVariants.{Set}
use Rattle.clap.specs.declared.error.kind.ErrorKind.{ErrorKind}
use Rattle.clap.specs.declared.parser.matches.Found.{Found}
use Rattle.command_line.specs.Flags.{flag_rule}
use Rattle.command_line.specs.Kinds.{no_work}
use Rattle.command_line.specs.Parses.{AreParsed}
use Rattle.command_line.specs.Programs.{named_app}
use Rattle.command_line.specs.declared.NoWork.{NoWork}
use Rattle.command_line.specs.declared.NoWork.TheVariants as whys
use Rattle.board_session.specs.declared.examiner_usage.DiskWork.{DiskWork}
use Rattle.board_session.specs.declared.examiner_usage.DiskWork.TheVariants.{Lines, Memory}
use lib.Chars.{codes}

-- the disk's file, a word of its own
abbrev pub path_rule : Rule
path_rule = record (new_rule (codes "PATH")) { required = true; action = Some Set }

abbrev pub sbidisk : App
sbidisk = with_rule (with_rule (named_app (codes "sbidisk")) path_rule) (flag_rule (codes "memory"))

-- the work that these values ask for: the memory only where the flag stands there
abbrev pub ReadsWork : Found → DiskWork → Type 0
ReadsWork f (Lines path) =
    (first_value f (codes "PATH") ≡ Some path.now) × (one_text f (codes "memory") ≡ Some (codes "true") → ⊥)
ReadsWork f (Memory path) =
    (first_value f (codes "PATH") ≡ Some path.now) × (one_text f (codes "memory") ≡ Some (codes "false") → ⊥)
    × (one_text f (codes "memory") ≡ None → ⊥)

-- the work of a path, by whether the flag stands there
abbrev pub asked_of : Bor (List ℕ) → Bool → DiskWork
asked_of path true = Memory path
asked_of path false = Lines path

-- the work that the words name, as the command's parser reads them
abbrev pub IsNamedBy : List (List ℕ) → DiskWork → Type 0
IsNamedBy words work = (f : Found) × AreParsed sbidisk words f × ReadsWork f work

-- the words name no path
abbrev pub NamesNoPath : List (List ℕ) → Type 0
NamesNoPath words = (f : Found) × AreParsed sbidisk words f × (first_value f (codes "PATH") ≡ None)

-- Why they ask for no work: memory was refused; or the parser refuses them with an error of a kind that says why, as it does
-- where they ask for the help; or they name no path.
abbrev pub AskForNone : List (List ℕ) → NoWork → Type 0
AskForNone words why =
    (why ≡ whys.Memory) ⊎ ((kind : ErrorKind) × IsAmong kind (fault_of sbidisk words) × (why ≡ no_work kind))
    ⊎ ((why ≡ whys.Usage) × NamesNoPath words)
