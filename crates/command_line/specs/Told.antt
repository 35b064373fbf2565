-- The fault of what was done, with which file it was left out; and what is told of a fault besides.
use Rattle.std.specs.Prelude.{◌≡◌, Bool, Result, Ok, Err}
use Rattle.command_line.specs.declared.fault.ProgramFault.{ProgramFault}
use Rattle.command_line.specs.declared.files.FileFault.{FileFault}

abbrev pub fault_of : {A : Type 0} → Result A FileFault → Result A ProgramFault
fault_of (Ok done) = Ok done
fault_of (Err e) = Err e.fault

-- of a refusal with several causes the same one is told
abbrev pub HasCauseOf : FileFault → FileFault → Type 0
HasCauseOf e f = e.cause ≡ f.cause

-- the same is told of a file: which it was, and why
abbrev pub HasFileOf : FileFault → FileFault → Type 0
HasFileOf e f = e.reason ≡ f.reason

-- whether it is told that commands are lost
abbrev pub tells_loss : FileFault → Bool
tells_loss e = e.is_loss
