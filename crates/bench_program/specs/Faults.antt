-- The text and the status of each fault with which the program ends. Source: docs/SCRIPT.md.
use Rattle.std.specs.Prelude.{◌≡◌, ◌⊎◌, ◌<◌, ℕ, Bool, true, false, List, [], ◌++◌, Result, Ok, Err}
use Rattle.std.specs.Fmt.{decimal}
use Rattle.board_model.specs.Views.{number_of_refusal}
use Rattle.board_model.specs.declared.refusal.Refusal.{Refusal}
use Rattle.board_model.specs.declared.refusal.Refusal.TheVariants.{BadScript, Memory, Output}
use Rattle.bench_program.specs.declared.fault.BenchFault.{BenchFault}
use Rattle.bench_program.specs.declared.fault.BenchFault.TheVariants.{Usage, Input, File, Refused, Closed, Wrong}
use Rattle.command_line.specs.declared.NoWork.{NoWork}
use Rattle.command_line.specs.declared.NoWork.TheVariants as why
use Rattle.command_line.specs.declared.fault.ProgramFault.{ProgramFault}
use Rattle.command_line.specs.declared.fault.ProgramFault.TheVariants as of
use lib.Chars.{codes}

-- the number of a refusal, and of a malformed script the line too
abbrev pub refusal_text : Refusal → List ℕ
refusal_text (BadScript line) = decimal (number_of_refusal (BadScript line)) ++ codes " line " ++ decimal line
refusal_text e = decimal (number_of_refusal e)

-- of a fault that was told before, nothing
abbrev pub fault_text : BenchFault → List ℕ
fault_text Input = codes "sbibench: input\n"
fault_text (Refused e) = codes "sbibench: refusal " ++ refusal_text e ++ codes "\n"
fault_text Usage = []
fault_text File = []
fault_text Closed = []
fault_text Wrong = []

-- the fault of a payload file that could not be read: a refusal where it was memory that was refused
abbrev pub unread_by : ProgramFault → BenchFault
unread_by (of.Refused e) = Refused e
unread_by of.File = File
unread_by of.Usage = Usage

-- the fault of a work that was refused, by whether the output's reader is gone: then nothing is told of it
abbrev pub fault_by : Bool → Refusal → BenchFault
fault_by true e = Closed
fault_by false e = Refused e

-- how a work ended that was not done: `made` is how many of its runs tell that something is wrong, or its refusal. It told that, or that
-- its output failed
abbrev pub IsEndOf : Result ℕ Refusal → Bool → BenchFault → Type 0
IsEndOf made gone fault =
    ((fault ≡ Wrong) × (differ : ℕ) × (0 < differ) × (made ≡ Ok differ))
    ⊎ ((e : Refusal) × (fault ≡ fault_by gone e) × ((made ≡ Err e) ⊎ (e ≡ Output)))

-- the status with which the program ends
abbrev pub status_after : {A : Type 0} → Result A BenchFault → ℕ
status_after (Ok done) = 0
status_after (Err Usage) = 2
status_after (Err Input) = 1
status_after (Err File) = 1
status_after (Err (Refused e)) = 1
status_after (Err Closed) = 1
status_after (Err Wrong) = 3

-- what a program does that was asked for no work: nothing more where what it was asked for was shown
abbrev pub without_work : NoWork → Result (Unit {0}) BenchFault
without_work why.Shown = Ok tt
without_work why.Usage = Err Usage
without_work why.Memory = Err (Refused Memory)
