-- The line and the status of each fault with which a program over a disk's file ends. Source: docs/CONSOLE.md,
-- "Statuses and faults".
use Rattle.std.specs.Prelude.{ℕ, List, [], ◌++◌, Result, Ok, Err}
use Rattle.std.specs.Fmt.{decimal}
use Rattle.board_model.specs.Views.{number_of_refusal}
use Rattle.board_model.specs.declared.refusal.Refusal.TheVariants as refusals
use Rattle.command_line.specs.declared.NoWork.{NoWork}
use Rattle.command_line.specs.declared.NoWork.TheVariants as words
use Rattle.command_line.specs.declared.fault.ProgramFault.{ProgramFault}
use Rattle.command_line.specs.declared.fault.ProgramFault.TheVariants.{Usage, Refused, File}
use Rattle.std.specs.declared.io.ErrorKind.{ErrorKind}
use Rattle.std.specs.declared.io.ErrorKind.TheVariants.{OutOfMemory}
use lib.Chars.{codes}

-- the line of a program with this name
abbrev pub fault_text : List ℕ → ProgramFault → List ℕ
fault_text program Usage = []
fault_text program (Refused e) = program ++ codes ": refusal " ++ decimal (number_of_refusal e) ++ codes "\n"
fault_text program File = program ++ codes ": file\n"

-- the status with which the program ends
abbrev pub status_after : {A : Type 0} → Result A ProgramFault → ℕ
status_after (Ok done) = 0
status_after (Err Usage) = 2
status_after (Err (Refused e)) = 1
status_after (Err File) = 1

-- what follows where a command line asks for no work
abbrev pub without_work : NoWork → Result (Unit {0}) ProgramFault
without_work words.Shown = Ok tt
without_work words.Usage = Err Usage
without_work words.Memory = Err (Refused refusals.Memory)

-- the fault of a file, for an error of that kind
abbrev pub fault_of_kind : ErrorKind → ProgramFault
fault_of_kind OutOfMemory = Refused refusals.Memory
fault_of_kind _ = File

-- of two faults the first is told
abbrev pub first_fault : {A E : Type 0} → Result A E → Result A E → Result A E
first_fault (Err fault) later = Err fault
first_fault (Ok done) later = later
